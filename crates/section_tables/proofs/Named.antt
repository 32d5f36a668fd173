-- What the refusals of a section's tables name is there. Assumes nothing.
use Prim.Native.Nat.{ℕ, ◌-◌, ◌*◌, ◌≤◌, ◌<◌}
use mathlib.Core.Path.{◌≡◌}
use mathlib.Core.List.{List}
use lib.Dec.{eqb}
use lib.ListN.{length, get_or}
use Rattle.word.specs.Test.{past}
use Rattle.word.proofs.Test.{either}
use Rattle.format.specs.declared.FileOffset.{FileOffset}
use Rattle.format.specs.declared.Format.{Format}
use Rattle.format.specs.declared.SectionNumber.{SectionNumber}
use Rattle.refusal.specs.declared.BoundsItem.TheVariants as bounds
use Rattle.refusal.specs.declared.Refusal.{Refusal}
use Rattle.refusal.specs.declared.Refusal.TheVariants.{Bounds}
use Rattle.offset.specs.Named.{Named}
use Rattle.offset.proofs.Named.{named_by}
use Rattle.file_tables.specs.Tables.{blank_section}
use Rattle.header.specs.declared.Summary.{Summary}
use Rattle.header.specs.Open.{open_of}
use Rattle.header.proofs.Named.{opens, section-there}
use Rattle.table_kind.specs.declared.TableKind.{TableKind}
use Rattle.table_kind.specs.Kind.{entry_length}
use Rattle.section_tables.specs.Tables.{is_overflowed, overflow_of, table_at, table_by, table_of}
use Rattle.std.specs.Prelude.{Err, Ok, Result}
use Rattle.section_tables.specs.declared.SectionTable.{SectionTable}

-- what holds of the refusal of a table
abbrev pub TableCauses : (Refusal → Type 0) → Result SectionTable Refusal → Type 0
TableCauses P (Ok t) = Unit {0}
TableCauses P (Err x) = P x

-- a table is refused for BOUNDS with its section alone
module _ (P : Refusal → Type 0) (n : SectionNumber) (h : P (Bounds (bounds.SectionTable n))) (k : TableKind) where
  at-cause : (f : Format) (len : ℕ) (start : FileOffset) (count : ℕ) → TableCauses P (table_at k f len n start count)
  unfolding table_at
  at-cause f len start count = either (TableCauses P) (past start.0 (count * entry_length k f) len) (λ _. h) (λ _. tt)

  pub table-cause : (y : Summary) (len : ℕ) → TableCauses P (table_of k y len n)
  unfolding table_by
  table-cause y len =
      let s = get_or y.sections (n.0 - 1) blank_section in
      either (TableCauses P) (is_overflowed k y.format s)
      (λ _. either (TableCauses P) (eqb (overflow_of k y n).headers 1) (λ _. at-cause y.format len _ _) (λ _. h))
      (λ _. at-cause y.format len _ _)

-- request 4: of a section's table in an opened file
pub table-named : (file : List ℕ) → (open_of file).verdict ≡ Ok tt → (k : TableKind) (n : SectionNumber) → 0 < n.0 → n.0 ≤ (open_of file).summary.count
    → TableCauses (Named file) (table_of k (open_of file).summary (length file) n)
table-named file e k n p q =
    let o = opens file e in
    table-cause (Named file) n (named_by file o.format o.headed (Bounds (bounds.SectionTable n)) (section-there file o n.0 p q)) k (open_of file).summary (length file)
