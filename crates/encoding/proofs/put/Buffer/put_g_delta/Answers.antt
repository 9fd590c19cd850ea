use Rattle.std.proofs.Common.{◌≡◌, ℕ, ◌+◌, ◌*◌, ℤ, ◌++◌, length, ap, arith, length-append, w64, to_z, of_z}
use Rattle.tokens.specs.Encodings.{shortest, code_of, signed_bytes, FitsDelta}
use Rattle.tokens.proofs.Encodings.{g_delta_back}
use Rattle.encoding.proofs.Laying.{put_is, put_then, put_again, room_then}
use Rattle.encoding.proofs.Signs.{same_sign, first_code}
use Rattle.encoding.proofs.put.Buffer.put_g_delta.Goals as goal

-- the bytes of the first component
first_bytes : (z : ℤ × ℤ) (k : ℕ) → FitsDelta z → k ≡ code_of (to_z w64 (of_z w64 z.0)) → shortest (2 * k + 1) ≡ shortest (2 * code_of z.0 + 1)
first_bytes z k h e = ap (λ k. shortest (2 * k + 1)) (first_code z k h e)

pub put_unsigned-requires : goal.put_unsigned-requires
put_unsigned-requires c =
    let z = c.args.delta in
    omega (arith, c.requires.room, ap length (first_bytes z c.code_of.result c.requires.fits c.code_of.ensures.code), length-append (shortest (2 * code_of z.0 + 1)) (signed_bytes z.1))

pub put_signed-requires : goal.put_signed-requires
put_signed-requires c =
    let z = c.args.delta in
    let x = put_is (first_bytes z c.code_of.result c.requires.fits c.code_of.ensures.code) c.put_unsigned.ensures.puts in
    let same = same_sign z.1 c.requires.fits.1 in
    record {
      fits = omega (arith, ap code_of same, c.requires.fits.1);
      room = room_then _ (ap (λ y. shortest (2 * code_of z.0 + 1) ++ signed_bytes y) same) x c.requires.room;
    }

pub returns : goal.returns
returns c =
    let z = c.args.delta in
    let x = put_is (first_bytes z c.code_of.result c.requires.fits c.code_of.ensures.code) c.put_unsigned.ensures.puts in
    let y = put_is (ap signed_bytes (same_sign z.1 c.requires.fits.1)) c.put_signed.ensures.puts in
    let puts = put_then x y in
    record { puts = puts; again = put_again puts (g_delta_back _ _ z c.requires.fits) }
