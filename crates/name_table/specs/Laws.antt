-- What adding and finding names promises, in terms of the records seen.
use Rattle.std.specs.Prelude.{◌≡◌, ℕ, ◌≤◌, List, [], ◌∷◌, ◌++◌, Some, None, Ok, Err, Option, Result, ◌≢◌}
use Rattle.std.specs.List.{AllByRecursion as Every}
use Rattle.tokens.specs.declared.fault.FaultKind.{FaultKind}
use Rattle.tokens.specs.declared.fault.FaultKind.TheVariants.{NameConflict, FewRows}
use Rattle.tokens.specs.declared.fault.TokenFault.{TokenFault}
use Rattle.tokens.specs.Laws.{Exactly}
use Rattle.tokens.specs.Outcomes.{on_ok}
use Rattle.name_table.specs.Records.{Seen, Named, Agree, AgreesWith, New, names_of, pairs, rows_needed, named}
use Rattle.name_table.specs.Enter.{enter}

-- the records agree, and the rows hold their names in order of first coming
pub record Holds (rs : List Seen) (rows : List Named) : Type 0 where
  pub agree : Agree rs
  pub same : rows ≡ pairs rs

-- the refusal of the record at a place
abbrev pub refused : FaultKind → ℕ → Result (Unit {0}) TokenFault
refused k at = Err (record { kind = k; place = at })

-- what is answered to the record r at a place, after the records rs, and the rows after it; most is how many there may be
pub record Added (most : ℕ) (rs : List Seen) (r : Seen) (at : ℕ) (answer : Result (Unit {0}) TokenFault) (after : List Named) : Type 0 where
  -- 16: the record disagrees with one before it
  pub conflict : Exactly (answer ≡ refused NameConflict at) (AgreesWith rs r → ⊥)
  -- 21: it agrees, needs a row, and there is none
  pub few : Exactly (answer ≡ refused FewRows at) (AgreesWith rs r × New rs r × (most ≤ rows_needed rs))
  -- taken: all agree, and there are rows
  pub taken : Exactly (answer ≡ Ok tt) (Agree (rs ++ r ∷ []) × (rows_needed (rs ++ r ∷ []) ≤ most))
  -- its name is held with the others
  pub held : answer ≡ Ok tt → Holds (rs ++ r ∷ []) after
  -- a refusal names the record and changes nothing
  pub kept : (e : TokenFault) → answer ≡ Err e → (e.place ≡ at) × Holds rs after

-- what a number of the class means
pub record Means (rs : List Seen) (c : ℕ) (n : ℕ) (name : Option (List ℕ)) : Type 0 where
  pub is : name ≡ named rs c n
  -- the name of each record with that class and number
  pub each : Every (λ a. a.class ≡ c → a.number ≡ n → name ≡ Some a.name) (names_of rs)
  -- none exactly where there is no such record
  pub none : Exactly (name ≡ None) (Every (λ a. a.class ≡ c → a.number ≢ n) (names_of rs))

-- one record after another, up to the first that is refused
abbrev pub runs : ℕ → List Named → List Seen → Result (List Named) FaultKind
runs most rows [] = Ok rows
runs most rows (r ∷ rs) = on_ok (enter most rows r) (λ after. runs most after rs)

-- the first record that is refused, and why
pub record Stopped (most : ℕ) (rs : List Seen) (k : FaultKind) : Type 0 where
  pub before : List Seen
  pub here : Seen
  pub after : List Seen
  pub split : rs ≡ before ++ here ∷ after
  -- those before it agree, and there are rows for them
  pub agree : Agree before
  pub within : rows_needed before ≤ most
  -- 16 or 21
  pub reason : Exactly (k ≡ NameConflict) (AgreesWith before here → ⊥) × Exactly (k ≡ FewRows) (AgreesWith before here × New before here × (most ≤ rows_needed before))

-- a whole list of records: taken exactly when they agree and there are rows
pub record Judged (most : ℕ) (rs : List Seen) (answer : Result (List Named) FaultKind) : Type 0 where
  pub taken : (rows : List Named) → Exactly (answer ≡ Ok rows) (Agree rs × (rows_needed rs ≤ most) × (rows ≡ pairs rs))
  pub stopped : (k : FaultKind) → answer ≡ Err k → Stopped most rs k

-- each list of records, with any number of rows
abbrev pub EachRunJudged : Type 0
EachRunJudged = (most : ℕ) (rs : List Seen) → Judged most rs (runs most [] rs)
