-- Lemmas on switches and table offsets.
use Rattle.std.proofs.Common.{◌≡◌, ℕ, zero, suc, ◌+◌, ◌-◌, ◌<◌, ◌≤◌, Bool, true, false, eqb, leb, List, length, Ok, Err, sym, refl, ap, ◌∙◌, arith}
use Rattle.std.proofs.lemmas.Bool.{leb-true, eqb-true, eqb-false, cond_both}
use Rattle.tokens.specs.declared.fault.FaultKind.TheVariants.{Reserved}
use Rattle.tokens.specs.declared.fault.Read.{Read}
use Rattle.tokens.specs.declared.fault.TokenFault.{TokenFault}
use Rattle.tokens.specs.Answers.{got, fault, then}
use Rattle.tokens.specs.Chains.{unsigned}
use Rattle.tokens.specs.Readers.{Made, Local}
use Rattle.tokens.proofs.ChainLaws.{unsigned_made}
use Rattle.tokens.proofs.Chaining.{going, same_got, passed}
use Rattle.tokens.proofs.Locals.{local_then, local_got, local_fault, local_cond, unsigned_local}
use Rattle.tokens.proofs.Mades.{made_got, made_fault, made_then, made_cond, made_less}
use Rattle.frames.specs.Laws.{bit, Tabled, none, more, TabledWhere}
use Rattle.frames.specs.Tables.{switch, table, table_count, tables, tables_where}
use Rattle.frames.proofs.Parts.{parted}

-- a switch takes at least one byte
pub switch_made : (file : List ℕ) (at : ℕ) → Made file (suc at) (switch file at) (λ b n. Unit {0})
unfolding switch
switch_made file at =
    made_then _ (unsigned_made file at) (λ v n l h p. made_cond (leb v 1) (λ e. made_got (eqb v 1) n (omega arith) h tt) (λ e. made_fault _))

-- a table takes at least one byte
table_made : (file : List ℕ) (at : ℕ) → Made file (suc at) (table file at) (λ u n. Unit {0})
unfolding table
table_made file at =
    made_then _ (switch_made file at) (λ _ n l h _. made_then _ (made_less (unsigned_made file n)) (λ _ m i j _. made_got tt m (omega arith) j tt))

-- tables take no step back
tables_made : (k : ℕ) (file : List ℕ) (at : ℕ) → at ≤ length file → Made file at (tables k file at) (λ u n. Unit {0})
unfolding tables
tables_made zero file at h = made_got tt at (omega arith) h tt
tables_made (suc k) file at h = made_then _ (made_less (table_made file at)) (λ _ n l i _. tables_made k file n i)

-- nor where they may not stand here
pub where_made : (here : Bool) (file : List ℕ) (at : ℕ) → at ≤ length file → Made file at (tables_where here file at) (λ u n. Unit {0})
where_made true file at h = tables_made table_count file at h
where_made false file at h = made_got tt at (omega arith) h tt

-- a switch is read from no other bytes
pub switch_local : Local switch
unfolding switch
switch_local =
    local_then unsigned _ unsigned_local (λ at v. local_cond (leb v 1) (λ file n. got (eqb v 1) n) (λ file n. fault Reserved at) (local_got (eqb v 1)) (local_fault _))

-- nor is a table
table_local : Local table
unfolding table
table_local =
    local_then switch (λ file at b n. then (unsigned file n) (λ _ m. got tt m)) switch_local (λ at b.
    local_then unsigned (λ file n v m. got tt m) unsigned_local (λ n v. local_got tt))

-- nor are so many
tables_local : (k : ℕ) → Local (tables k)
unfolding tables
tables_local zero = local_got tt
tables_local (suc k) = local_then table (λ file at u n. tables k file n) table_local (λ at u. tables_local k)

-- nor where they may not stand here
pub where_local : (here : Bool) → Local (tables_where here)
where_local true = tables_local table_count
where_local false = local_got tt

-- a loop that reads k tables, before the one at i
module _ (k i : ℕ) (file : List ℕ) (at : ℕ) where
  -- one table more
  pub tables_more : (x : Read (Unit {0})) → i < k → Ok x ≡ table file at → tables (k - i) file at ≡ tables (k - (i + 1)) file x.next
  unfolding tables
  tables_more x h e = let n : k - i ≡ suc (k - (i + 1)) = omega arith in rw (n, sym e)

  -- a fault in the next table
  pub tables_stop : (d : TokenFault) → i < k → Err d ≡ table file at → tables (k - i) file at ≡ Err d
  unfolding tables
  tables_stop d h e = let n : k - i ≡ suc (k - (i + 1)) = omega arith in rw (n, sym e)

  -- no table is left
  pub tables_none : k ≤ i → tables (k - i) file at ≡ got tt at
  unfolding tables
  tables_none h = let n : k - i ≡ 0 = omega arith in rw n

-- a switch is 0 or 1
bit_is : (v : ℕ) → v ≤ 1 → bit (eqb v 1) ≡ v
bit_is v h = cond_both (eqb v 1) 1 0 (λ b. b ≡ v) (λ e. sym (eqb-true v 1 e)) (λ e. let d = eqb-false v 1 e in grind arith)

-- a switch that was read
pub switch_parts : (file : List ℕ) (at : ℕ) (x : Read Bool) → Ok x ≡ switch file at → unsigned file at ≡ got (bit x.value) x.next
unfolding switch
switch_parts file at x e =
    let p = parted (unsigned file at) _ x e in
    let v = p.0.value in
    let q = passed (leb v 1) (got (eqb v 1) p.0.next) _ p.2 in
    let g = same_got q.1 in
    sym p.1 ∙ ap (λ w. got w p.0.next) (sym (ap bit g.0 ∙ bit_is v (leb-true v 1 q.0))) ∙ ap (λ n. got (bit x.value) n) (sym g.1)

-- a switch is read
pub switch_from : (file : List ℕ) (at : ℕ) (on : Bool) (n : ℕ) → unsigned file at ≡ got (bit on) n → got on n ≡ switch file at
unfolding switch
switch_from file at true n e = going _ (sym e) refl
switch_from file at false n e = going _ (sym e) refl

-- tables that were read stand there
tables_stand : (k : ℕ) (file : List ℕ) (at : ℕ) (x : Read (Unit {0})) → Ok x ≡ tables k file at → Tabled file k at x.next
unfolding tables table
tables_stand zero file at x e = let g = same_got e in rw g.1 none
tables_stand (suc k) file at x e =
    let t = parted (table file at) _ x e in
    let s = parted (switch file at) _ t.0 t.1 in
    let o = parted (unsigned file s.0.next) _ t.0 s.2 in
    let g = same_got o.2 in
    more s.0.value o.0.value (switch_parts file at s.0 s.1) (sym o.1) (rw g.1 at (tables_stand k file t.0.next x t.2))

-- tables that stand there are read
stand_tables : (file : List ℕ) {k at n : ℕ} → Tabled file k at n → got tt n ≡ tables k file at
unfolding tables table
stand_tables file none = refl
stand_tables file (more {at = at} {m = m} on offset e f r) = going _ (going _ (switch_from file at on m e) (going _ (sym f) refl)) (stand_tables file r)

-- the same where they may not stand here
pub where_stand : (here : Bool) (file : List ℕ) (at : ℕ) (x : Read (Unit {0})) → Ok x ≡ tables_where here file at → TabledWhere here file at x.next
where_stand true file at x e = tables_stand table_count file at x e
where_stand false file at x e = (same_got e).1

-- and back
pub stand_where : (here : Bool) (file : List ℕ) (at n : ℕ) → TabledWhere here file at n → got tt n ≡ tables_where here file at
stand_where true file at n h = stand_tables file h
stand_where false file at n h = ap (λ k. got tt k) h
