-- The exact sum on a branch word over all entries is that over its own section's. Assumes nothing.
use Prim.Native.Nat.{ℕ, zero, suc, ◌+◌, ◌-◌, ◌≤◌, ◌<◌}
use mathlib.Core.Path.{◌≡◌, refl, sym, ◌∙◌, ap, ap₂}
use mathlib.Core.Logic.{◌⊎◌, inl, inr, ⊎_elim}
use mathlib.Core.Bool.{Bool, true, false, cond, ◌&&◌}
use mathlib.Core.List.{List, [], ◌∷◌, ◌++◌}
use native.Mathlib.Decide.{ℕ_discrete}
use native.Mathlib.Omega.{arith}
use lib.Dec.{eqb}
use lib.ListN.{length}
use lib.IntN.{ℤ, pos, ◌+ℤ◌, +ℤ_assoc, +ℤ_idl, +ℤ_idr}
use borrow.Author.Tests.{ne_eqb}
use Rattle.book.specs.Machine.{Shifts}
use Rattle.book.specs.Entries.{All}
use Rattle.field_kind.specs.declared.FieldKind.{FieldKind}
use Rattle.field_kind.specs.declared.FieldKind.TheVariants as kind
use Rattle.field_kind.specs.declared.ObjectField.{ObjectField}
use Rattle.header.specs.declared.Summary.{Summary}
use Rattle.header.specs.Inside.{Inside}
use Rattle.symbol.specs.Entry.{tables_of}
use Rattle.object_history.specs.declared.ObjectEntry.{ObjectEntry}
use Rattle.object_history.specs.Entry.{amount_of}
use Rattle.object_history.specs.Range.{is_branch, is_on, amounts_on}
use Rattle.object.specs.Sections.{bytes_before, object_section}
use Rattle.object.specs.Check.{sections_check, tables_check}
use Rattle.object_plan.specs.Object.{table_entries, entries_in}
use Rattle.object_plan.proofs.Sound.{Between, all_map, from-between, table-good, ends, grows, in_between}
use Rattle.std.specs.Prelude.{Ok}

-- ---- lists, one after the other

amounts-append : (off : ℕ) (xs ys : List ObjectEntry) (s : Shifts) → amounts_on off (xs ++ ys) s ≡ amounts_on off xs s +ℤ amounts_on off ys s
unfolding amounts_on
amounts-append off [] ys s = sym (+ℤ_idl (amounts_on off ys s))
amounts-append off (x ∷ xs) ys s =
    ap (λ (z : ℤ). cond (is_on off x) (amount_of x s) (pos 0) +ℤ z) (amounts-append off xs ys s)
    ∙ sym (+ℤ_assoc (cond (is_on off x) (amount_of x s) (pos 0)) (amounts_on off xs s) (amounts_on off ys s))

amounts-none : (off : ℕ) (es : List ObjectEntry) (s : Shifts) → All (λ e. is_on off e ≡ false) es → amounts_on off es s ≡ pos 0
unfolding amounts_on
amounts-none off [] s a = refl
amounts-none off (e ∷ es) s a =
    ap₂ (λ (b : Bool) (z : ℤ). cond b (amount_of e s) (pos 0) +ℤ z) a.0 (amounts-none off es s a.1)

-- ---- a word outside of the bytes that an entry's field is among

-- the word of a branch lies where its field does
pub branch-there : (g : ObjectField) {l h : ℕ} → Between l h g → is_branch g.kind ≡ true → (l ≤ g.offset) × (g.offset + 4 ≤ h)
branch-there g {l} {h} p b = by g.kind refl b
  where
    by : (k : FieldKind) → g.kind ≡ k → is_branch k ≡ true → (l ≤ g.offset) × (g.offset + 4 ≤ h)
    by kind.Nothing q e = absurd (let z : ◌≡◌ {A = ℕ} 0 1 = cc in omega arith)
    by kind.Four q e = absurd (let z : ◌≡◌ {A = ℕ} 0 1 = cc in omega arith)
    by kind.Eight q e = absurd (let z : ◌≡◌ {A = ℕ} 0 1 = cc in omega arith)
    by kind.Branch q e = let u = p.upto in (p.from (rw q refl), rw q at u)

not_on : (off : ℕ) (e : ObjectEntry) {l h : ℕ} → (off < l) ⊎ (h ≤ off) → Between l h e.field → is_on off e ≡ false
not_on off e {l} {h} d p = by (is_branch e.field.kind) refl
  where
    by : (b : Bool) → is_branch e.field.kind ≡ b → (b && eqb e.field.offset off) ≡ false
    by false q = refl
    by true q =
        let t = branch-there e.field p q in
        ne_eqb e.field.offset off (λ z. ⊎_elim (λ a. omega (arith, t.0)) (λ a. omega (arith, t.1)) d)

-- ---- the entries of all sections

module _ (file : List ℕ) (y : Summary) (inside : Inside file y) (sections : sections_check (length file) y ≡ Ok tt) (tables : tables_check file y ≡ Ok tt)
    (k off : ℕ) (low : bytes_before (length file) y k ≤ off) (high : off < bytes_before (length file) y (suc k)) (s : Shifts) where
  abbrev own : ℕ → List ObjectEntry
  own j = table_entries file (tables_of file y) (object_section (length file) y j)

  abbrev starts : ℕ → ℕ
  starts j = bytes_before (length file) y j

  -- where none of n sections is the word's own
  amounts-other : (j n : ℕ) → j + n ≤ y.count → (off < starts j) ⊎ (starts (j + n) ≤ off) → amounts_on off (entries_in file y j n) s ≡ pos 0
  amounts-other j n h d =
      amounts-none off (entries_in file y j n) s (all_map (λ e p. not_on off e d p) (entries_in file y j n) (in_between file y inside sections tables j n h))

  amounts-earlier : (j : ℕ) → j < k → k < y.count → amounts_on off (own j) s ≡ pos 0
  amounts-earlier j a b =
      let e : suc j + (k - suc j) ≡ k = omega arith in
      let p = object_section (length file) y j in
      let d : p.place + p.size ≤ off = omega (arith, ends file y inside sections tables j, grows file y inside sections tables (suc j) (k - suc j), ap starts e) in
      amounts-none off (own j) s
      (all_map (λ x q. not_on off x (inr d) q) (own j)
      (from-between file (tables_of file y) p (table-good file y inside sections tables j (omega arith)) 0 p.count (omega arith)))

  -- where one of them is
  amounts-here : (j n : ℕ) → j ≤ k → k < j + n → j + n ≤ y.count → amounts_on off (entries_in file y j n) s ≡ amounts_on off (own k) s
  unfolding entries_in
  amounts-here j zero a b c = absurd (omega arith)
  amounts-here j (suc n) a b c =
      amounts-append off (own j) (entries_in file y (suc j) n) s
      ∙ by_place (λ u. amounts-here (suc j) n (omega arith) (omega arith) (omega arith)) (ℕ_discrete j k)
    where
      by_place : (j < k → amounts_on off (entries_in file y (suc j) n) s ≡ amounts_on off (own k) s) → Dec (j ≡ k)
          → amounts_on off (own j) s +ℤ amounts_on off (entries_in file y (suc j) n) s ≡ amounts_on off (own k) s
      by_place rest (yes e) =
          ap₂ (λ (x z : ℤ). x +ℤ z) (ap (λ (i : ℕ). amounts_on off (own i) s) e)
          (amounts-other (suc j) n (omega arith) (inl (omega (arith, high, ap (λ (i : ℕ). starts (suc i)) e))))
          ∙ +ℤ_idr (amounts_on off (own k) s)
      by_place rest (no e) =
          ap₂ (λ (x z : ℤ). x +ℤ z) (amounts-earlier j (omega arith) (omega arith)) (rest (omega arith)) ∙ +ℤ_idl (amounts_on off (own k) s)

  pub amounts-own : k < y.count → amounts_on off (entries_in file y 0 y.count) s ≡ amounts_on off (own k) s
  amounts-own l = amounts-here 0 y.count (omega arith) (omega arith) (omega arith)
