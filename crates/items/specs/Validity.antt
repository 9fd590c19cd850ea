-- Which items a file can give.
use Rattle.std.specs.Prelude.{ℕ, ◌+◌, ◌≤◌, Bool, true, ◌&&◌, List, length, ℤ, nat_le, unsigned_abs}
use Rattle.std.specs.List.{AllByRecursion as Every}
use Rattle.tokens.specs.declared.text.StringRule.{StringRule}
use Rattle.tokens.specs.declared.text.StringRule.TheVariants.{Name, Ascii}
use Rattle.tokens.specs.Chains.{largest}
use Rattle.tokens.specs.Texts.{space, first_visible, last_printable, obeys}
use Rattle.bounds.specs.declared.point.Point.{Point}
use Rattle.bounds.specs.Points.{reach, Near, within, all_within}
use Rattle.items.specs.Things.{Thing, a_start, a_cell, a_placement, a_text, a_rectangle, a_polygon, a_path, an_end}

-- two numbers that are m at most
abbrev pub at_most : ℕ → ℕ → ℕ → Bool
at_most m a b = nat_le a m && nat_le b m

-- two integers of a file, as a layer and a datatype
abbrev pub in_file : ℕ → ℕ → Bool
in_file a b = at_most largest a b

-- two sizes in reach, as a width and a height
abbrev pub sized : ℕ → ℕ → Bool
sized a b = at_most reach a b

-- two extensions in reach
abbrev pub extended : ℤ → ℤ → Bool
extended a b = at_most reach (unsigned_abs a) (unsigned_abs b)

-- a quarter turn and a flip
abbrev pub turned : ℕ → ℕ → Bool
turned a f = nat_le a 3 && nat_le f 1

-- bytes that a string of a file can hold: a name, and a text
abbrev pub held : StringRule → List ℕ → Bool
held r s = obeys r s && nat_le (length s) largest

abbrev pub named : List ℕ → Bool
named n = held Name n

abbrev pub worded : List ℕ → Bool
worded s = held Ascii s

-- vertices in reach, at least so many, and no more than a file can count: it counts those after the first
abbrev pub drawn : ℕ → List Point → Bool
drawn few vs = (nat_le few (length vs) && nat_le (length vs) (largest + 1)) && all_within reach vs

-- the test of an item
abbrev pub valid : Thing → Bool
valid (a_start u) = nat_le 1 u && nat_le u largest
valid (a_cell n) = named n
valid (a_placement n p a f) = (named n && within reach p) && turned a f
valid (a_text l t p s) = (in_file l t && within reach p) && worded s
valid (a_rectangle l d w h p) = (in_file l d && sized w h) && within reach p
valid (a_polygon l d vs) = in_file l d && drawn 3 vs
valid (a_path l d h s e vs) = (in_file l d && nat_le h reach) && (extended s e && drawn 1 vs)
valid an_end = true

-- a character from `low` to `~`
pub record Printed (low b : ℕ) : Type 0 where
  pub first : low ≤ b
  pub last : b ≤ last_printable

-- a name: visible characters, at least one
pub record Named (n : List ℕ) : Type 0 where
  pub some : 1 ≤ length n
  pub visible : Every (Printed first_visible) n
  pub short : length n ≤ largest

-- a text: printable characters, or none
pub record Worded (s : List ℕ) : Type 0 where
  pub printable : Every (Printed space) s
  pub short : length s ≤ largest

-- at least so many vertices, all in reach
pub record Drawn (few : ℕ) (vs : List Point) : Type 0 where
  pub enough : few ≤ length vs
  pub countable : length vs ≤ largest + 1
  pub near : Every (Near reach) vs

pub record ValidStart (u : ℕ) : Type 0 where
  pub some : 1 ≤ u
  pub unit : u ≤ largest

pub record ValidPlacement (n : List ℕ) (p : Point) (a f : ℕ) : Type 0 where
  pub name : Named n
  pub place : Near reach p
  pub angle : a ≤ 3
  pub flip : f ≤ 1

pub record ValidText (l t : ℕ) (p : Point) (s : List ℕ) : Type 0 where
  pub textlayer : l ≤ largest
  pub texttype : t ≤ largest
  pub place : Near reach p
  pub text : Worded s

pub record ValidRectangle (l d w h : ℕ) (p : Point) : Type 0 where
  pub layer : l ≤ largest
  pub datatype : d ≤ largest
  pub width : w ≤ reach
  pub height : h ≤ reach
  pub place : Near reach p

pub record ValidPolygon (l d : ℕ) (vs : List Point) : Type 0 where
  pub layer : l ≤ largest
  pub datatype : d ≤ largest
  pub vertices : Drawn 3 vs

pub record ValidPath (l d h : ℕ) (s e : ℤ) (vs : List Point) : Type 0 where
  pub layer : l ≤ largest
  pub datatype : d ≤ largest
  pub half : h ≤ reach
  pub start : unsigned_abs s ≤ reach
  pub end : unsigned_abs e ≤ reach
  pub vertices : Drawn 1 vs

-- a file can give the item
abbrev pub Valid : Thing → Type 0
Valid (a_start u) = ValidStart u
Valid (a_cell n) = Named n
Valid (a_placement n p a f) = ValidPlacement n p a f
Valid (a_text l t p s) = ValidText l t p s
Valid (a_rectangle l d w h p) = ValidRectangle l d w h p
Valid (a_polygon l d vs) = ValidPolygon l d vs
Valid (a_path l d h s e vs) = ValidPath l d h s e vs
Valid an_end = Unit {0}
