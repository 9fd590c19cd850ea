-- One step of a walk over the copies, and where a walk begins.
use Rattle.std.proofs.Common.{◌≡◌, ℕ, suc, ◌+◌, ◌-◌, ◌<◌, ◌≤◌, true, false, ◌&&◌, ltb, leb, [], ◌∷◌, ◌++◌, sym, ap, ◌∙◌, ⊎_elim, arith}
use Rattle.std.proofs.lemmas.Bool.{and_parts, and_from, and_left, and_right, leb-true, ltb-true, le-leb, lt-ltb, le-ltb, cond-true, cond-false, cases_lt}
use Rattle.tokens.specs.Chains.{largest}
use Rattle.bounds.specs.Points.{Near, within}
use Rattle.bounds.proofs.Fitting.{within_near, near_within}
use Rattle.repetitions.specs.declared.plan.Matrix.{Matrix}
use Rattle.repetitions.specs.Offsets.{copy_at, row_from, rows_from}
use Rattle.repetitions.specs.Plans.{most_copies, copies_of, Sized}
use Rattle.repetitions.specs.Walks.{sized, inside, ahead, left_from}

-- what the test of a matrix and of a copy tells
pub record InsideIs (m : Matrix) (i j : ℕ) : Type 0 where
  pub column : i < m.columns
  pub row : j < m.rows
  pub columns : m.columns ≤ most_copies
  pub rows : m.rows ≤ most_copies
  pub across : Near largest m.across
  pub up : Near largest m.up

pub inside_is : (m : Matrix) (i j : ℕ) → inside m i j ≡ true → InsideIs m i j
inside_is m i j e =
    let a = and_parts (ltb i m.columns && ltb j m.rows) (sized m) e in
    let p = and_parts (ltb i m.columns) (ltb j m.rows) a.0 in
    let b = and_parts (leb m.columns most_copies && leb m.rows most_copies) (within largest m.across && within largest m.up) a.1 in
    let s = and_parts (leb m.columns most_copies) (leb m.rows most_copies) b.0 in
    let w = and_parts (within largest m.across) (within largest m.up) b.1 in
    record {
      column = ltb-true _ _ p.0;
      row = ltb-true _ _ p.1;
      columns = leb-true _ _ s.0;
      rows = leb-true _ _ s.1;
      across = within_near largest m.across w.0;
      up = within_near largest m.up w.1;
    }

is_inside : (m : Matrix) (i j : ℕ) → InsideIs m i j → inside m i j ≡ true
is_inside m i j h =
    and_from (ltb i m.columns && ltb j m.rows) (sized m)
    (and_from (ltb i m.columns) (ltb j m.rows) (lt-ltb _ _ h.column) (lt-ltb _ _ h.row))
    (and_from (leb m.columns most_copies && leb m.rows most_copies) (within largest m.across && within largest m.up)
    (and_from (leb m.columns most_copies) (leb m.rows most_copies) (le-leb _ _ h.columns) (le-leb _ _ h.rows))
    (and_from (within largest m.across) (within largest m.up) (near_within largest m.across h.across) (near_within largest m.up h.up)))

module _ (m : Matrix) where
  -- there is a copy (i, j)
  left_some : (i j : ℕ) → InsideIs m i j → left_from m i j ≡ ahead m i j
  left_some i j h = cond-true (inside m i j) _ _ (is_inside m i j h)

  -- there is none
  pub left_none : (i j : ℕ) → inside m i j ≡ false → left_from m i j ≡ []
  left_none i j e = cond-false (inside m i j) _ _ e

  -- past the last row
  left_over : (j : ℕ) → m.rows ≤ j → left_from m 0 j ≡ []
  left_over j h = left_none 0 j (and_left (ltb 0 m.columns && ltb j m.rows) (sized m) (and_right (ltb 0 m.columns) (ltb j m.rows) (le-ltb _ _ h)))

  -- one column further
  pub left_step : (i j : ℕ) → inside m i j ≡ true → i + 1 < m.columns → left_from m i j ≡ copy_at m.across m.up i j ∷ left_from m (i + 1) j
  unfolding row_from
  left_step i j t k =
      let h = inside_is m i j t in
      let e : m.columns - i ≡ suc (m.columns - (i + 1)) = omega arith in
      let rest = rows_from m.columns m.across m.up (j + 1) (m.rows - (j + 1)) in
      left_some i j h
      ∙ ap (λ n. row_from m.across m.up j i n ++ rest) e
      ∙ ap (λ l. copy_at m.across m.up i j ∷ l)
      (sym (left_some (i + 1) j (record { column = k; row = h.row; columns = h.columns; rows = h.rows; across = h.across; up = h.up })))

  -- the rows from row j on are what is left from its first copy on
  pub rows_left : (j : ℕ) → 0 < m.columns → m.columns ≤ most_copies → m.rows ≤ most_copies → Near largest m.across → Near largest m.up → rows_from m.columns m.across m.up j (m.rows - j) ≡ left_from m 0 j
  unfolding rows_from
  rows_left j z c r a u =
      ⊎_elim
      (λ (h : j < m.rows).
      let e : m.rows - j ≡ suc (m.rows - (j + 1)) = omega arith in
      let o : m.columns - 0 ≡ m.columns = omega arith in
      let rest = rows_from m.columns m.across m.up (j + 1) (m.rows - (j + 1)) in
      ap (rows_from m.columns m.across m.up j) e
      ∙ ap (λ n. row_from m.across m.up j 0 n ++ rest) (sym o)
      ∙ sym (left_some 0 j (record { column = z; row = h; columns = c; rows = r; across = a; up = u })))
      (λ (h : m.rows ≤ j).
      let e : m.rows - j ≡ 0 = omega arith in
      ap (rows_from m.columns m.across m.up j) e ∙ sym (left_over j h))
      (cases_lt j m.rows)

  -- from the last column to the next row
  pub left_turn : (i j : ℕ) → inside m i j ≡ true → m.columns ≤ i + 1 → left_from m i j ≡ copy_at m.across m.up i j ∷ left_from m 0 (j + 1)
  unfolding row_from
  left_turn i j t k =
      let h = inside_is m i j t in
      let e : m.columns - i ≡ 1 = omega (arith, h.column) in
      let z : 0 < m.columns = omega (arith, h.column) in
      let rest = rows_from m.columns m.across m.up (j + 1) (m.rows - (j + 1)) in
      left_some i j h
      ∙ ap (λ n. row_from m.across m.up j i n ++ rest) e
      ∙ ap (λ l. copy_at m.across m.up i j ∷ l) (rows_left (j + 1) z h.columns h.rows h.across h.up)

-- all of a matrix that was read is left at its first copy
pub left_whole : (m : Matrix) → Sized m → left_from m 0 0 ≡ copies_of m
left_whole m z =
    let e : m.rows - 0 ≡ m.rows = omega arith in
    sym (rows_left m 0 z.some_columns z.columns z.rows z.across z.up) ∙ ap (rows_from m.columns m.across m.up 0) e
