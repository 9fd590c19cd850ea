-- The half-width and the extensions of paths.
use Rattle.std.specs.Prelude.{ℕ, ◌+◌, ◌*◌, ◌/◌, ◌%◌, Bool, cond, List, ℤ, pos, Option, ◌==◌, nat_le, unsigned_abs}
use Rattle.tokens.specs.declared.fault.FaultKind.TheVariants.{Reserved, Reach}
use Rattle.tokens.specs.Answers.{Answer, got, fault, then}
use Rattle.tokens.specs.Bytes.{flag}
use Rattle.tokens.specs.Chains.{unsigned}
use Rattle.tokens.specs.Deltas.{signed}
use Rattle.bounds.specs.Points.{reach}
use Rattle.fields.specs.declared.stroke.EndCode.{EndCode}
use Rattle.fields.specs.declared.stroke.EndCode.TheVariants.{Stored, Flush, Half, Given}
use Rattle.fields.specs.declared.stroke.Ends.{Ends}
use Rattle.fields.specs.declared.stroke.Stroke.{Stroke}
use Rattle.fields.specs.declared.variables.PathVariables.{PathVariables}
use Rattle.fields.specs.Numbers.{inherited, measure}

-- the flags of an info byte that announce a half-width and an extension scheme
abbrev pub has_half : ℕ → Bool
has_half info = flag info 0x40

abbrev pub has_extensions : ℕ → Bool
has_extensions info = flag info 0x80

-- the code of an end
abbrev pub code_of : EndCode → ℕ
code_of Stored = 0
code_of Flush = 1
code_of Half = 2
code_of Given = 3

-- the number of an extension scheme
abbrev pub scheme_of : Ends EndCode → ℕ
scheme_of s = 4 * code_of s.start + code_of s.end

-- the extension of one end by its code: 0 the one used last, 1 none, 2 the half-width, 3 one that is given, in reach
abbrev pub extension : List ℕ → (at first code : ℕ) → (half : ℤ) → Option ℤ → Answer ℤ
extension file at first code half v =
    cond (code == 0) (inherited at first v)
    (cond (code == 1) (got (pos 0) at)
    (cond (code == 2) (got half at)
    (then (signed file at) λ z n. cond (nat_le (unsigned_abs z) reach) (got z n) (fault Reach at))))

-- the start by the upper two bits of the scheme, then the end by the lower two
abbrev pub extensions_by : List ℕ → (at first scheme : ℕ) → (half : ℤ) → PathVariables → Answer (Ends ℤ)
extensions_by file at first scheme half v =
    then (extension file at first (scheme / 4) half v.start) λ s n.
    then (extension file n first (scheme % 4) half v.end) λ e m. got (record { start = s; end = e }) m

-- both by a scheme of four bits, or both those used last where no scheme is present
abbrev pub extensions : List ℕ → (at first : ℕ) → (present : Bool) → (half : ℤ) → PathVariables → Answer (Ends ℤ)
extensions file at first present half v =
    cond present
    (then (unsigned file at) λ scheme n. cond (nat_le scheme 15) (extensions_by file n first scheme half v) (fault Reserved at))
    (extensions_by file at first 0 half v)

-- the half-width, then the extensions
abbrev pub stroke : List ℕ → (at first info : ℕ) → PathVariables → Answer Stroke
stroke file at first info v =
    then (measure file at first (has_half info) v.half) λ h n.
    then (extensions file n first (has_extensions info) (pos h) v) λ e m. got (record { half = h; start = e.start; end = e.end }) m
