-- Loops over an object file's entries, by what is left: those of one section, and those of all sections. Assumes nothing.
use Prim.Native.Nat.{ℕ, suc, ◌+◌, ◌-◌, ◌≤◌, ◌<◌}
use mathlib.Core.Path.{◌≡◌, refl}
use mathlib.Core.List.{List, [], ◌∷◌, ◌++◌}
use native.Mathlib.Nat.{sub-zero}
use native.Mathlib.Numerals.{add-one}
use native.Mathlib.Omega.{arith}
use lib.ListN.{length}
use Rattle.header.specs.declared.Summary.{Summary}
use Rattle.symbol.specs.declared.Tables.{Tables}
use Rattle.symbol.specs.Entry.{tables_of}
use Rattle.section_relocation.specs.declared.ObjectSection.{ObjectSection}
use Rattle.object_entry.specs.Entry.{object_entry}
use Rattle.object.specs.Sections.{object_section}
use Rattle.object_plan.specs.Object.{entries_from, table_entries, entries_in}

module _ (file : List ℕ) (t : Tables) (s : ObjectSection) where
  -- a loop over a section's entries starts with all of them
  pub entries-start : (n : ℕ) → entries_from file t s 0 (n - 0) ≡ entries_from file t s 0 n
  entries-start n = rw (sub-zero n) refl

  -- a turn takes entry i
  pub entries-turn : (n i : ℕ) → i < n → entries_from file t s i (n - i) ≡ (object_entry file t s i ∷ entries_from file t s (i + 1) (n - (i + 1)))
  unfolding entries_from
  entries-turn n i h =
      let e : n - i ≡ suc (n - (i + 1)) = omega arith in
      rw (e, add-one i) refl

  -- and at its end none is left
  pub entries-end : (n i : ℕ) → n ≤ i → entries_from file t s i (n - i) ≡ []
  unfolding entries_from
  entries-end n i h =
      let e : n - i ≡ 0 = omega arith in
      rw e refl

module _ (file : List ℕ) (y : Summary) where
  -- the same of a loop over the sections
  pub tables_start : (n : ℕ) → entries_in file y 0 (n - 0) ≡ entries_in file y 0 n
  tables_start n = rw (sub-zero n) refl

  pub tables-turn : (n k : ℕ) → k < n
      → entries_in file y k (n - k) ≡ table_entries file (tables_of file y) (object_section (length file) y k) ++ entries_in file y (k + 1) (n - (k + 1))
  unfolding entries_in
  tables-turn n k h =
      let e : n - k ≡ suc (n - (k + 1)) = omega arith in
      rw (e, add-one k) refl

  pub tables_end : (n k : ℕ) → n ≤ k → entries_in file y k (n - k) ≡ []
  unfolding entries_in
  tables_end n k h =
      let e : n - k ≡ 0 = omega arith in
      rw e refl
