-- Laws of a section's tables. Assumes nothing.
use Prim.Native.Nat.{ℕ, zero, suc, ◌+◌, ◌-◌, ◌*◌, ◌/◌, ◌≤◌}
use mathlib.Core.Path.{◌≡◌, refl}
use mathlib.Core.List.{List}
use native.Mathlib.Numerals.{add-one}
use native.Mathlib.Omega.{arith}
use lib.Dec.{eqb, ltb}
use lib.ListN.{get_or}
use Rattle.word.specs.Test.{past}
use Rattle.word.proofs.Test.{either, past-not, past_by}
use Rattle.format.specs.declared.FileOffset.{FileOffset}
use Rattle.format.specs.declared.Format.{Format}
use Rattle.format.specs.declared.SectionNumber.{SectionNumber}
use Rattle.section.specs.declared.Section.{Section}
use Rattle.file_tables.specs.Tables.{blank_section}
use Rattle.header.specs.declared.Summary.{Summary}
use Rattle.table_kind.specs.declared.TableKind.{TableKind}
use Rattle.table_kind.specs.Kind.{entry_length}
use Rattle.table_kind.proofs.Places.{ends-past, ends-inside}
use Rattle.section_tables.specs.declared.OverflowHeaders.{OverflowHeaders}
use Rattle.section_tables.specs.declared.SectionTable.{SectionTable}
use Rattle.section_tables.specs.Tables.{is_overflowed, is_overflow_of, overflow_step, overflow_in, overflow_of, table_at, table_by, table_of, Within}
use Rattle.std.specs.Prelude.{Ok}

-- ---- the end of a table, by a division: how many whole entries fit behind its start

pub ends_by : (k : TableKind) (f : Format) (start count len : ℕ) {n : ℕ} → start ≤ len → n ≡ entry_length k f → ltb ((len - start) / n) count ≡ past start (count * entry_length k f) len
ends_by k f start count len h e =
    rw e (past_by ((len - start) / entry_length k f) count start (count * entry_length k f) len
    (λ t. omega (arith, h, ends-past k f (len - start) count t))
    (λ t. omega (arith, h, ends-inside k f (len - start) count t)))

-- ---- overflow headers

step-few : (k : TableKind) (n : SectionNumber) (s : Section) (o : OverflowHeaders) (i : ℕ) → o.headers ≤ i → (overflow_step k n s o).headers ≤ suc i
unfolding overflow_step
step-few k n s o i h = either (λ (x : OverflowHeaders). x.headers ≤ suc i) (is_overflow_of s n) (λ _. omega arith) (λ _. omega arith)

-- no more than there are sections
pub overflow-few : (k : TableKind) (sections : List Section) (n : SectionNumber) (i : ℕ) → (overflow_in k sections n i).headers ≤ i
unfolding overflow_in
overflow-few k sections n zero = omega arith
overflow-few k sections n (suc i) = step-few k n (get_or sections i blank_section) (overflow_in k sections n i) i (overflow-few k sections n i)

-- one section more
pub overflow-next : (k : TableKind) (sections : List Section) (n : SectionNumber) (i : ℕ) {o r : OverflowHeaders} → o ≡ overflow_in k sections n i
    → r ≡ overflow_step k n (get_or sections i blank_section) o → r ≡ overflow_in k sections n (i + 1)
unfolding overflow_in
overflow-next k sections n i e q = rw (add-one i, q, e) refl

-- ---- a table that is found lies in the file

at-within : (k : TableKind) (f : Format) (len : ℕ) (n : SectionNumber) (start : FileOffset) (count : ℕ) → Within k f len (table_at k f len n start count)
unfolding table_at
at-within k f len n start count = either (Within k f len) (past start.0 (count * entry_length k f) len) (λ _. tt) (λ t. past-not start.0 (count * entry_length k f) len t)

pub table-within : (k : TableKind) (y : Summary) (len : ℕ) (n : SectionNumber) → Within k y.format len (table_of k y len n)
unfolding table_by
table-within k y len n =
    let f = y.format in
    let s = get_or y.sections (n.0 - 1) blank_section in
    either (Within k f len) (is_overflowed k f s)
    (λ _. either (Within k f len) (eqb (overflow_of k y n).headers 1) (λ _. at-within k f len n _ _) (λ _. tt))
    (λ _. at-within k f len n _ _)

pub found_within : (k : TableKind) (y : Summary) (len : ℕ) (n : SectionNumber) {t : SectionTable} → table_of k y len n ≡ Ok t → t.start.0 + t.count * entry_length k y.format ≤ len
found_within k y len n e = rw e at (table-within k y len n)
