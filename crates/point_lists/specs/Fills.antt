-- Vertices written to memory.
use Rattle.std.specs.Prelude.{◌≡◌, ℕ, ◌+◌, Bool, cond, ◌&&◌, List, ◌++◌, map, length, drop, Some, None, Ok, Err, Option, nat_le, slice_set}
use Rattle.tokens.specs.declared.fault.TokenFault.{TokenFault}
use Rattle.tokens.specs.Answers.{Answer, got}
use Rattle.bounds.specs.declared.point.Point.{Point}
use Rattle.bounds.specs.Points.{reach, origin, sum, within}
use Rattle.point_lists.specs.declared.walk.Walk.{Walk}
use Rattle.point_lists.specs.Rolls.{tally}

-- memory, the place of the next vertex in it, and the last vertex as an offset
pub record Page : Type 0 where
  pub points : List Point
  pub next : ℕ
  pub last : Point

-- one vertex more, of a list whose first vertex stands at p
abbrev pub written : Point → Page → Walk → Page
written p g w = record { points = slice_set g.points g.next (sum p w.at); next = g.next + 1; last = w.at }

-- the vertices of a walk written one after the other, for the list whose first vertex stands at p
abbrev pub filled : Point → List Point → Answer (List Walk) → Answer Page
filled p out r = tally (written p) (record { points = out; next = 0; last = origin }) r

-- code that ends at a walk has written all of it, and else met a fault
abbrev pub Filled : Option Walk → List Point → Answer Page → Type 0
Filled (Some w) out m = (k : ℕ) × (n : ℕ) × (m ≡ got (record { points = out; next = k; last = w.at }) n)
Filled None out m = (d : TokenFault) × (m ≡ Err d)

-- the vertices ps, from the first at p on, were laid over the front of memory, and counted; the rest of it stays
pub record Laid (p : Point) (ps : List Point) (r : Option ℕ) (before after : List Point) : Type 0 where
  pub count : r ≡ Some (length ps)
  pub memory : after ≡ map (sum p) ps ++ drop (length ps) before

-- whether vertices, from the first at p on, can be laid over the front of memory: it holds them, and p is in reach
abbrev pub can_lay : Point → List Point → List Point → Bool
can_lay p out ps = nat_le (length ps) (length out) && within reach p

-- how many vertices of a list are laid over the front of memory: all, or none where there is a fault or they cannot be laid
abbrev pub laid_count : Point → List Point → Answer (List Point) → Option ℕ
laid_count p out (Ok x) = cond (can_lay p out x.value) (Some (length x.value)) None
laid_count p out (Err d) = None

-- and what memory holds then
abbrev pub laid_memory : Point → List Point → Answer (List Point) → List Point
laid_memory p out (Ok x) = cond (can_lay p out x.value) (map (sum p) x.value ++ drop (length x.value) out) out
laid_memory p out (Err d) = out
