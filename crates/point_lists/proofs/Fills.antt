-- Vertices written one after the other stand at the front of memory.
use Rattle.std.proofs.Common.{◌≡◌, ℕ, ◌+◌, ◌-◌, ◌<◌, ◌≤◌, List, [], ◌∷◌, ◌++◌, map, length, take, drop, set, ℤ, pos, ◌+ℤ◌, Ok, fold, sym, refl, ap, ◌∙◌, ap₂, append_assoc, add-zero, zero-add, arith, length-append}
use Rattle.std.proofs.lemmas.List.{append-nil, drop_more, length-map, length-take, set_at}
use Rattle.std.proofs.Math.ListN.{drop_of_length-le}
use Rattle.std.proofs.lemmas.Int.{ints}
use borrow.Rule.Slice.PartMut.{put_mid}
use Rattle.tokens.specs.Answers.{Answer, got}
use Rattle.tokens.proofs.Chaining.{same_got}
use Rattle.bounds.specs.declared.point.Point.{Point}
use Rattle.bounds.specs.Points.{origin, sum}
use Rattle.point_lists.specs.declared.walk.Walk.{Walk}
use Rattle.point_lists.specs.Lists.{last_of}
use Rattle.point_lists.specs.Fills.{Page, written, filled}

-- points over the front of memory
abbrev pub front : List Point → List Point → List Point
front out xs = xs ++ drop (length xs) out

-- one point more
pub front_more : (out xs : List Point) (v : Point) → length xs < length out → set (front out xs) (length xs) v ≡ front out (xs ++ v ∷ [])
front_more out xs v h =
    ap (λ l. set (xs ++ l) (length xs) v) (drop_more out (length xs) origin h)
    ∙ set_at xs _ (drop (length xs + 1) out) v (length xs) refl
    ∙ sym (append_assoc xs (v ∷ []) (drop (length xs + 1) out))
    ∙ ap (λ k. (xs ++ v ∷ []) ++ drop k out) (sym (length-append xs (v ∷ [])))

-- the vertices of a walk behind others
pub written_all : (p q : Point) (out xs : List Point) (ws : List Walk) → length xs + length ws ≤ length out → fold (written p) (record { points = front out xs; next = length xs; last = q }) ws ≡ record { points = front out (xs ++ map (λ w. sum p w.at) ws); next = length xs + length ws; last = last_of q (map (λ w. w.at) ws) }
written_all p q out xs [] h =
    ap₂ (λ l n. record { points = front out l; next = n; last = q }) (sym (append-nil xs)) (sym (add-zero (length xs)))
written_all p q out xs (w ∷ ws) h =
    let v : Point = sum p w.at in
    let ys : List Point = xs ++ v ∷ [] in
    let n : length xs + 1 ≡ length ys = sym (length-append xs (v ∷ [])) in
    let step : written p (record { points = front out xs; next = length xs; last = q }) w ≡ record { points = front out ys; next = length ys; last = w.at } =
    ap₂ (λ l k. record { points = l; next = k; last = w.at }) (front_more out xs v (omega arith)) n in
    ap (λ g. fold (written p) g ws) step
    ∙ written_all p w.at out ys ws (omega arith)
    ∙ ap₂ (λ l k. record { points = front out l; next = k; last = last_of w.at (map (λ w. w.at) ws) })
    (append_assoc xs (v ∷ []) (map (λ w. sum p w.at) ws)) (omega arith)

-- a point that is no step away
pub sum-origin : (p : Point) → sum p origin ≡ p
sum-origin p = λ i. record { x = right p.x i; y = right p.y i }
  where
    right : (z : ℤ) → z +ℤ pos 0 ≡ z
    right z = omega (arith, ints)

shifted : (p : Point) (ws : List Walk) → map (λ w. sum p w.at) ws ≡ map (sum p) (map (λ w. w.at) ws)
shifted p [] = refl
shifted p (w ∷ ws) = ap (λ l. sum p w.at ∷ l) (shifted p ws)

pub from_first : (p : Point) (ws : List Walk) → p ∷ map (λ w. sum p w.at) ws ≡ map (sum p) (origin ∷ map (λ w. w.at) ws)
from_first p ws = ap₂ (λ q l. q ∷ l) (sym (sum-origin p)) (shifted p ws)

-- what code has written after a whole walk
pub record Walked (p : Point) (out : List Point) (ws : List Walk) (after : List Point) (last : Point) : Type 0 where
  pub memory : after ≡ front out (p ∷ map (λ w. sum p w.at) ws)
  pub end : last ≡ last_of origin (map (λ w. w.at) ws)

-- there are c places behind the first
pub behind-length : (p : Point) (out : List Point) (c : ℕ) → c < length out → length (take (c + 1 - 1) (drop 1 (set out 0 p))) ≡ c
behind-length p [] c h = absurd (omega arith)
behind-length p (o ∷ os) c h = omega (arith, length-take (c + 1 - 1) os)

-- memory whose first place and whose c places after it were written
laid_behind : (p : Point) (out ys : List Point) (c : ℕ) → c < length out → length ys ≡ c → put_mid 1 (c + 1 - 1) (set out 0 p) ys ≡ front out (p ∷ ys)
laid_behind p [] ys c h e = absurd (omega arith)
laid_behind p (o ∷ os) ys c h e = ap (λ k. p ∷ (ys ++ drop k os)) (omega (arith, e))

-- a walk that fills memory
whole_walk : (p q : Point) (out : List Point) (ws : List Walk) → length ws ≡ length out → fold (written p) (record { points = out; next = 0; last = q }) ws ≡ record { points = map (λ w. sum p w.at) ws; next = length ws; last = last_of q (map (λ w. w.at) ws) }
whole_walk p q out ws e =
    let long : length out ≤ length (map (λ w. sum p w.at) ws) = omega (arith, e, length-map ws (λ w. sum p w.at)) in
    let all : front out (map (λ w. sum p w.at) ws) ≡ map (λ w. sum p w.at) ws =
    ap (λ l. map (λ w. sum p w.at) ws ++ l) (drop_of_length-le out long) ∙ append-nil (map (λ w. sum p w.at) ws) in
    written_all p q out [] ws (omega (arith, e))
    ∙ ap₂ (λ l n. record { points = l; next = n; last = last_of q (map (λ w. w.at) ws) }) all (zero-add (length ws))

pub walked-laid : (p : Point) (out slots : List Point) (ws : List Walk) (n c : ℕ) (r : ℕ → Answer (List Walk)) (ys : List Point) (last : Point) (k m : ℕ) → length ws ≡ c → length slots ≡ c → c < length out → Ok (record { value = ws; next = n }) ≡ r c → filled p slots (r (length slots)) ≡ got (record { points = ys; next = k; last = last }) m → Walked p out ws (put_mid 1 (c + 1 - 1) (set out 0 p) ys) last
walked-laid p out slots ws n c r ys last k m many room h e f =
    let same : fold (written p) (record { points = slots; next = 0; last = origin }) ws ≡ record { points = ys; next = k; last = last } =
    (same_got (ap (filled p slots) (e ∙ ap r (sym room)) ∙ f)).0 in
    let both = sym same ∙ whole_walk p origin slots ws (many ∙ sym room) in
    let memory : ys ≡ map (λ w. sum p w.at) ws = ap (λ (g : Page). g.points) both in
    record {
      memory = ap (put_mid 1 (c + 1 - 1) (set out 0 p)) memory ∙ laid_behind p out (map (λ w. sum p w.at) ws) c h (length-map ws (λ w. sum p w.at) ∙ many);
      end = ap (λ (g : Page). g.last) both;
    }
