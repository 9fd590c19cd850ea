-- Lemmas on plain bytes.
use Rattle.std.proofs.Common.{◌+◌, ltb, length, get_or, refl, arith}
use Rattle.std.proofs.lemmas.Bool.{ltb-true}
use Rattle.tokens.specs.Bytes.{byte_at}
use Rattle.tokens.specs.Laws.{ByteMade}
use Rattle.tokens.proofs.Mades.{made_got, made_fault, made_cond}

-- one byte is read
pub byte_made : ByteMade
unfolding byte_at
byte_made file at =
    made_cond (ltb at (length file)) (λ e. made_got (get_or file at 0) (at + 1) (omega arith) (omega (arith, ltb-true at (length file) e)) refl) (λ e. made_fault _)
