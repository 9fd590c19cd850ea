-- The tests of items tell whether a file can give them.
use Rattle.std.proofs.Common.{◌≡◌, ℕ, ◌+◌, ◌≤◌, ◌&&◌, leb, List, length, nat_abs, Decides, refl}
use Rattle.std.specs.List.{AllByRecursion as Every, list_all}
use Rattle.std.proofs.lemmas.List.Recursion.{same_from_clauses}
use Rattle.std.proofs.lemmas.Bool.{leb-true, le-leb}
use Rattle.std.proofs.lemmas.Bool.Decides.{Decides-and, Decides-like}
use Rattle.std.proofs.ByRecursion.{Decides-by_and}
use Rattle.tokens.specs.declared.text.StringRule.TheVariants.{Name, Ascii}
use Rattle.tokens.specs.Chains.{largest}
use Rattle.tokens.specs.Texts.{space, first_visible, last_printable, printable, obeys}
use Rattle.bounds.specs.declared.point.Point.{Point}
use Rattle.bounds.specs.Points.{reach, Near, within, all_within}
use Rattle.bounds.proofs.Fitting.{within_near, near_within, all_within_lem}
use Rattle.items.specs.Things.{Thing, a_start, a_cell, a_placement, a_text, a_rectangle, a_polygon, a_path, an_end}
use Rattle.items.specs.Validity.{in_file, sized, extended, turned, named, worded, drawn, valid, Printed, Named, Worded, Drawn, Valid}

-- the test of all points, as the library's
pub all_within_is : (n : ℕ) (ps : List Point) → list_all (within n) ps ≡ all_within n ps
all_within_is n ps = same_from_clauses (list_all (within n)) (all_within n) (λ p r. within n p && r) refl (λ _ _. refl) (λ _ _. refl) ps

at_most : (a b : ℕ) → Decides (leb a b) (a ≤ b)
at_most a b = (leb-true a b, le-leb a b)

two : (a m b n : ℕ) → Decides (leb a m && leb b n) ((a ≤ m) × (b ≤ n))
two a m b n = Decides-and (leb a m) (leb b n) (at_most a m) (at_most b n)

is_near : (p : Point) → Decides (within reach p) (Near reach p)
is_near p = (within_near reach p, near_within reach p)

is_printed : (low b : ℕ) → Decides (leb low b && leb b last_printable) (Printed low b)
is_printed low b =
    Decides-like (leb low b && leb b last_printable) (λ h. record { first = h.0; last = h.1 }) (λ h. (h.first, h.last)) (two low b b last_printable)

are_printed : (low : ℕ) (bs : List ℕ) → Decides (printable low bs) (Every (Printed low) bs)
are_printed low bs = Decides-by_and (λ b. leb low b && leb b last_printable) (Printed low) (printable low) (is_printed low) refl (λ _ _. refl) bs

is_named : (n : List ℕ) → Decides (named n) (Named n)
is_named n =
    Decides-like (named n) (λ h. record { some = h.0.0; visible = h.0.1; short = h.1 }) (λ h. ((h.some, h.visible), h.short))
    (Decides-and (obeys Name n) (leb (length n) largest) (Decides-and (leb 1 (length n)) (printable first_visible n) (at_most 1 (length n)) (are_printed first_visible n)) (at_most (length n) largest))

is_worded : (s : List ℕ) → Decides (worded s) (Worded s)
is_worded s =
    Decides-like (worded s) (λ h. record { printable = h.0; short = h.1 }) (λ h. (h.printable, h.short))
    (Decides-and (obeys Ascii s) (leb (length s) largest) (are_printed space s) (at_most (length s) largest))

is_drawn : (few : ℕ) (vs : List Point) → Decides (drawn few vs) (Drawn few vs)
is_drawn few vs =
    Decides-like (drawn few vs) (λ h. record { enough = h.0.0; countable = h.0.1; near = h.1 }) (λ h. ((h.enough, h.countable), h.near))
    (Decides-and (leb few (length vs) && leb (length vs) (largest + 1)) (all_within reach vs) (two few (length vs) (length vs) (largest + 1)) (all_within_lem reach vs))

-- the law of `valid`
pub decided : (t : Thing) → Decides (valid t) (Valid t)
decided (a_start u) =
    Decides-like (valid (a_start u)) (λ h. record { some = h.0; unit = h.1 }) (λ h. (h.some, h.unit)) (two 1 u u largest)
decided (a_cell n) = is_named n
decided (a_placement n p a f) =
    Decides-like (valid (a_placement n p a f))
    (λ h. record { name = h.0.0; place = h.0.1; angle = h.1.0; flip = h.1.1 }) (λ h. ((h.name, h.place), (h.angle, h.flip)))
    (Decides-and (named n && within reach p) (turned a f) (Decides-and (named n) (within reach p) (is_named n) (is_near p)) (two a 3 f 1))
decided (a_text l t p s) =
    Decides-like (valid (a_text l t p s))
    (λ h. record { textlayer = h.0.0.0; texttype = h.0.0.1; place = h.0.1; text = h.1 }) (λ h. (((h.textlayer, h.texttype), h.place), h.text))
    (Decides-and (in_file l t && within reach p) (worded s) (Decides-and (in_file l t) (within reach p) (two l largest t largest) (is_near p)) (is_worded s))
decided (a_rectangle l d w h p) =
    Decides-like (valid (a_rectangle l d w h p))
    (λ v. record { layer = v.0.0.0; datatype = v.0.0.1; width = v.0.1.0; height = v.0.1.1; place = v.1 })
    (λ v. (((v.layer, v.datatype), (v.width, v.height)), v.place))
    (Decides-and (in_file l d && sized w h) (within reach p) (Decides-and (in_file l d) (sized w h) (two l largest d largest) (two w reach h reach)) (is_near p))
decided (a_polygon l d vs) =
    Decides-like (valid (a_polygon l d vs))
    (λ v. record { layer = v.0.0; datatype = v.0.1; vertices = v.1 }) (λ v. ((v.layer, v.datatype), v.vertices))
    (Decides-and (in_file l d) (drawn 3 vs) (two l largest d largest) (is_drawn 3 vs))
decided (a_path l d h s e vs) =
    Decides-like (valid (a_path l d h s e vs))
    (λ v. record { layer = v.0.0.0; datatype = v.0.0.1; half = v.0.1; start = v.1.0.0; end = v.1.0.1; vertices = v.1.1 })
    (λ v. (((v.layer, v.datatype), v.half), ((v.start, v.end), v.vertices)))
    (Decides-and (in_file l d && leb h reach) (extended s e && drawn 1 vs)
    (Decides-and (in_file l d) (leb h reach) (two l largest d largest) (at_most h reach))
    (Decides-and (extended s e) (drawn 1 vs) (two (nat_abs s) reach (nat_abs e) reach) (is_drawn 1 vs)))
decided an_end = (λ _. tt, λ _. refl)
