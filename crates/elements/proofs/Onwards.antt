-- Each element takes at least one byte, and stays in the file.
use Rattle.std.proofs.Common.{ℕ, suc, true, false, ◌&&◌, List, [], ◌∷◌, arith}
use Rattle.tokens.specs.declared.text.StringRule.TheVariants.{Name, Ascii}
use Rattle.tokens.specs.Bytes.{flag}
use Rattle.tokens.proofs.Bytes.{byte_made}
use Rattle.tokens.proofs.Mades.{made_got, made_then, made_cond, made_fault}
use Rattle.bounds.specs.Points.{origin}
use Rattle.fields.specs.Laws.{Onward}
use Rattle.fields.specs.Numbers.{has_height, is_square}
use Rattle.fields.specs.Shapes.{vertices_of}
use Rattle.fields.proofs.Onwards.{layers_goes, sides_goes, reference_goes, stroke_goes, outline_goes, anchor_goes}
use Rattle.elements.specs.Infos.{info, rectangle_info, form_of, present_of, following}
use Rattle.elements.specs.Elements.{placement, text, rectangle, polygon, path, figure_present, has_list}
use Rattle.elements.specs.Laws.{GoesOn, ElementsGoOn}

-- an info byte
info_goes : (file : List ℕ) (at reserved : ℕ) → Onward file (suc at) (info file at reserved)
info_goes file at reserved =
    made_then _ (byte_made file at) (λ i n _ h _. made_cond (flag i reserved) (λ _. made_fault _) (λ _. made_got i n (omega arith) h tt))

-- that of a rectangle
rectangle_info_goes : (file : List ℕ) (at : ℕ) → Onward file (suc at) (rectangle_info file at)
rectangle_info_goes file at =
    made_then _ (byte_made file at) (λ i n _ h _. made_cond (is_square i && has_height i) (λ _. made_fault _) (λ _. made_got i n (omega arith) h tt))

placement_goes : GoesOn placement
placement_goes file at first m =
    made_then _ (info_goes file at 0) (λ i n _ h _.
    made_then _ (reference_goes file Name n first (form_of i 0x80 0x40) m.placement.cell h) (λ c n _ h _.
    made_then _ (anchor_goes file n first (present_of i 0x20 0x10 0x08) (following m m.placement.at) (origin ∷ []) h) (λ a n _ h _.
    made_got _ n (omega arith) h tt)))

text_goes : GoesOn text
text_goes file at first m =
    made_then _ (info_goes file at 0x80) (λ i n _ h _.
    made_then _ (reference_goes file Ascii n first (form_of i 0x40 0x20) m.text.text h) (λ t n _ h _.
    made_then _ (layers_goes file n first i m.text.layers h) (λ l n _ h _.
    made_then _ (anchor_goes file n first (present_of i 0x10 0x08 0x04) (following m m.text.at) (origin ∷ []) h) (λ a n _ h _.
    made_got _ n (omega arith) h tt))))

rectangle_goes : GoesOn rectangle
rectangle_goes file at first m =
    made_then _ (rectangle_info_goes file at) (λ i n _ h _.
    made_then _ (layers_goes file n first i m.figure.layers h) (λ l n _ h _.
    made_then _ (sides_goes file n first i m.sides h) (λ s n _ h _.
    made_then _ (anchor_goes file n first (figure_present i) (following m m.figure.at) (origin ∷ []) h) (λ a n _ h _.
    made_got _ n (omega arith) h tt))))

polygon_goes : GoesOn polygon
polygon_goes file at first m =
    made_then _ (info_goes file at 0xc0) (λ i n _ h _.
    made_then _ (layers_goes file n first i m.figure.layers h) (λ l n _ h _.
    made_then _ (outline_goes file n first true (has_list i) m.polygon h) (λ o n _ h _.
    made_then _ (anchor_goes file n first (figure_present i) (following m m.figure.at) (vertices_of file o) h) (λ a n _ h _.
    made_got _ n (omega arith) h tt))))

path_goes : GoesOn path
path_goes file at first m =
    made_then _ (info_goes file at 0) (λ i n _ h _.
    made_then _ (layers_goes file n first i m.figure.layers h) (λ l n _ h _.
    made_then _ (stroke_goes file n first i m.path h) (λ s n _ h _.
    made_then _ (outline_goes file n first false (has_list i) m.path.list h) (λ o n _ h _.
    made_then _ (anchor_goes file n first (figure_present i) (following m m.figure.at) (vertices_of file o) h) (λ a n _ h _.
    made_got _ n (omega arith) h tt)))))

-- all of them
pub elements_go_on : ElementsGoOn
elements_go_on = (placement_goes, text_goes, rectangle_goes, polygon_goes, path_goes)
