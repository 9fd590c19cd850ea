-- The codes of both ends in the number of an extension scheme.
use Rattle.std.proofs.Common.{◌≡◌, ◌/◌, ◌%◌, ◌<◌, arith}
use Rattle.fields.specs.declared.stroke.EndCode.{EndCode}
use Rattle.fields.specs.declared.stroke.EndCode.TheVariants.{Stored, Flush, Half, Given}
use Rattle.fields.specs.declared.stroke.Ends.{Ends}
use Rattle.fields.specs.Strokes.{code_of, scheme_of}

-- a code has two bits
code_below : (c : EndCode) → code_of c < 4
code_below Stored = omega arith
code_below Flush = omega arith
code_below Half = omega arith
code_below Given = omega arith

-- the upper two bits are the code of the start
pub start_code : (s : Ends EndCode) → scheme_of s / 4 ≡ code_of s.start
start_code s = let h = code_below s.end in omega arith

-- and the lower two that of the end
pub end_code : (s : Ends EndCode) → scheme_of s % 4 ≡ code_of s.end
end_code s = let h = code_below s.end in omega arith
