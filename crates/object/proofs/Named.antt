-- What the refusals of an object file name is there. Assumes nothing.
use Prim.Native.Nat.{ℕ, ◌+◌, ◌-◌, ◌*◌, ◌≤◌, ◌<◌}
use mathlib.Core.Path.{◌≡◌, refl, sym, ◌∙◌, ap}
use mathlib.Core.Bool.{Bool, true, false, not, cond}
use mathlib.Core.List.{List}
use native.Mathlib.Nat.{zero-mul, mul-le-mul_right}
use native.Mathlib.Omega.{arith}
use lib.Dec.{eqb}
use lib.ListN.{length}
use Rattle.word.specs.Test.{past}
use Rattle.word.proofs.Test.{either}
use Rattle.section_kind.specs.Kind.{kind_of}
use Rattle.format.specs.declared.FileOffset.{FileOffset}
use Rattle.format.specs.declared.Format.{Format}
use Rattle.format.specs.declared.SectionNumber.{SectionNumber}
use Rattle.format.specs.Layout.{section_layout}
use Rattle.refusal.specs.declared.ModuleItem.TheVariants.{NoRawData}
use Rattle.refusal.specs.declared.SectionRelocation.{SectionRelocation}
use Rattle.refusal.specs.declared.Refusal.{Refusal}
use Rattle.refusal.specs.declared.Refusal.TheVariants as refusal
use Rattle.refusal.specs.Order.{by_verdict}
use Rattle.refusal.proofs.Causes.{Causes, cause-if, cause-test, cause-then, cause-first}
use Rattle.refusal.proofs.Order.{not-accepted}
use Rattle.section.specs.declared.Section.{Section}
use Rattle.section.specs.declared.SectionHeader.{SectionHeader}
use Rattle.section.specs.Section.{section_header_at, raw_data_past, misplaced, section_of, judge_kind, judge_section}
use Rattle.file_header.specs.declared.FileHeader.{FileHeader}
use Rattle.file_header.specs.Header.{header_at, section_start}
use Rattle.file_tables.specs.Tables.{judged_at, verdict_of, record_of}
use Rattle.offset.specs.Offset.{starts_as, section_relocation_place}
use Rattle.offset.specs.Named.{Named, section_table_start, NamesSectionRelocation}
use Rattle.offset.proofs.Named.{plain-named, named_by, section-relocation-named}
use Rattle.header.specs.declared.Summary.{Summary}
use Rattle.header.specs.Open.{open_of}
use Rattle.header.proofs.Accepted.{opened_inside}
use Rattle.header.proofs.Named.{Opens, opens, format-is, count-is, section-accepted, section-is, opened-named}
use Rattle.symbol.specs.declared.Tables.{Tables}
use Rattle.symbol.specs.Entry.{tables_of}
use Rattle.table_kind.specs.declared.TableKind.{TableKind}
use Rattle.table_kind.specs.declared.TableKind.TheVariants.{Relocations}
use Rattle.table_kind.specs.Kind.{entry_length}
use Rattle.section_tables.specs.Tables.{header_start, is_overflowed, overflow_of, table_at, table_by, table_of}
use Rattle.section_tables.proofs.Named.{TableCauses, table-named}
use Rattle.section_relocation.specs.declared.ObjectSection.{ObjectSection}
use Rattle.section_relocation.specs.Entry.{entry_in, field_in, name_of}
use Rattle.section_overlap.specs.Overlap.{meets}
use Rattle.object_entry.specs.Entry.{is_good, own_at}
use Rattle.section_entries.specs.Entries.{entry_check, entries_check}
use Rattle.object.specs.Sections.{is_held_kind, section_at, number_at, table_or, held_part, empty_part, part_at, bytes_before, entries_before, object_section}
use Rattle.object.specs.Check.{table_verdict, lacks_data, section_check, sections_check, table_check, tables_check, object_in, object_check, file_of, object_at}
use Rattle.object.proofs.Sections.{part-number, part-ready}
use Rattle.std.specs.Prelude.{Err, None, Ok, Option, Result, Some}
use Rattle.section_kind.specs.declared.SectionKind.{SectionKind}
use Rattle.section_tables.specs.declared.SectionTable.{SectionTable}
use Rattle.object.specs.declared.ObjectFile.{ObjectFile}
use Rattle.refusal.specs.Verdict.{Verdict}

-- ---- where a section's table starts: as its header says

-- an accepted section's record has it from the header
abbrev Kept : SectionHeader → Result Section Refusal → Type 0
Kept s (Ok r) = r.relptr ≡ s.relptr
Kept s (Err x) = Unit {0}

kept-kind : (f : Format) (len : ℕ) (s : SectionHeader) (n : SectionNumber) (a : Option SectionKind) → Kept s (judge_kind f len s n a)
unfolding judge_kind section_of
kept-kind f len s n None = tt
kept-kind f len s n (Some k) = either (Kept s) (raw_data_past k len s) (λ _. tt) (λ _. either (Kept s) (misplaced f k s) (λ _. tt) (λ _. refl))

kept-found : (s : SectionHeader) (a : Result Section Refusal) → Kept s a → verdict_of a ≡ Ok tt → (record_of a).relptr ≡ s.relptr
kept-found s (Ok r) k e = k
kept-found s (Err x) k e = not-accepted e

-- a table that is found starts there
abbrev StartsAt : FileOffset → Result SectionTable Refusal → Type 0
StartsAt p (Ok t) = t.start ≡ p
StartsAt p (Err x) = Unit {0}

at-start : (k : TableKind) (f : Format) (len : ℕ) (n : SectionNumber) (start : FileOffset) (count : ℕ) → StartsAt start (table_at k f len n start count)
unfolding table_at
at-start k f len n start count = either (StartsAt start) (past start.0 (count * entry_length k f) len) (λ _. tt) (λ _. refl)

table-start : (k : TableKind) (y : Summary) (len : ℕ) (n : SectionNumber) (s : Section) → StartsAt (header_start k s) (table_by k y len n s)
unfolding table_by
table-start k y len n s =
    either (StartsAt (header_start k s)) (is_overflowed k y.format s)
    (λ _. either (StartsAt (header_start k s)) (eqb (overflow_of k y n).headers 1) (λ _. at-start k y.format len n _ _) (λ _. tt))
    (λ _. at-start k y.format len n _ _)

-- so does the table of a part that has entries
part-table : (len : ℕ) (y : Summary) (k place first i : ℕ) → i < (part_at len y k place first).count → (part_at len y k place first).table ≡ (section_at y k).relptr
unfolding part_at
part-table len y k place first i l = by (is_held_kind (section_at y k).kind) l
  where
    found : (a : Result SectionTable Refusal) → StartsAt (section_at y k).relptr a → i < (table_or a).count → (table_or a).start ≡ (section_at y k).relptr
    found (Ok t) s h = s
    found (Err x) s h = absurd (omega arith)

    starts : StartsAt (section_at y k).relptr (table_of Relocations y len (number_at k))
    starts =
        let e : k + 1 - 1 ≡ k = omega arith in
        rw e (table-start Relocations y len (number_at k) (section_at y k))

    by : (b : Bool) → i < (cond b (held_part (section_at y k) (number_at k) (table_or (table_of Relocations y len (number_at k))) place first) (empty_part (number_at k) place first)).count
        → (cond b (held_part (section_at y k) (number_at k) (table_or (table_of Relocations y len (number_at k))) place first) (empty_part (number_at k) place first)).table ≡ (section_at y k).relptr
    by true h = found (table_of Relocations y len (number_at k)) starts h
    by false h = absurd (omega arith)

-- ---- an opened file

first-place : (f : Format) (opthdr k : ℕ) → section_start f opthdr 0 + (k + 1 - 1) * (section_layout f).length ≡ section_start f opthdr k
unfolding section_start
first-place f opthdr k =
    let e : k + 1 - 1 ≡ k = omega arith in
    rw e (let z = zero-mul (section_layout f).length in omega arith)

module _ (file : List ℕ) (opened : (open_of file).verdict ≡ Ok tt) where
  abbrev y : Summary
  y = (open_of file).summary

  o : Opens file
  o = opens file opened

  abbrev h : FileHeader
  h = header_at o.format file

  abbrev P : Refusal → Type 0
  P = Named file

  abbrev part : ℕ → ObjectSection
  part k = object_section (length file) y k

  count-known : (k : ℕ) → k < y.count → k < h.nscns
  count-known k l = omega (arith, count-is file o)

  relptr-is : (k : ℕ) → k < y.count → (section_at y k).relptr.0 ≡ section_table_start file h (k + 1)
  relptr-is k l =
      ap (λ (r : FileOffset). r.0) kept
      ∙ ap (λ (off : ℕ). (section_header_at h.format off file).relptr.0) (sym (first-place h.format h.opthdr k))
    where
      s : SectionHeader
      s = section_header_at h.format (section_start h.format h.opthdr k) file

      judged : (record_of (judged_at file h k)).relptr ≡ s.relptr
      judged = unfold judged_at judge_section in
          kept-found s (judged_at file h k) (kept-kind h.format (length file) s (record { 0 = k + 1 }) (kind_of s.flags)) (section-accepted file o k (count-known k l))

      kept : (section_at y k).relptr ≡ s.relptr
      kept = ap (λ (r : Section). r.relptr) (section-is file o k (count-known k l)) ∙ judged

  -- ---- MODULE 3 and BOUNDS

  table-cause : (a : Result SectionTable Refusal) → TableCauses P a → Causes P (table_verdict a)
  table-cause (Ok t) c = tt
  table-cause (Err x) c = c

  section-named : (k : ℕ) → k < y.count → Causes P (section_check (length file) y k)
  unfolding section_check
  section-named k l =
      either (Causes P) (is_held_kind (section_at y k).kind)
      (λ _. cause-test P (lacks_data (section_at y k)) (refusal.Module NoRawData) _ (λ _. plain-named file (refusal.Module NoRawData) (λ s. refl) (λ _ e. e))
      (λ _. table-cause (table_of Relocations y (length file) (number_at k)) (table-named file opened Relocations (number_at k) (omega arith) (omega arith))))
      (λ _. tt)

  sections-named : Causes P (sections_check (length file) y)
  unfolding sections_check
  sections-named = cause-first P (section_check (length file) y) 0 y.count (λ k _ q. section-named k (omega arith))

  -- ---- an entry of a section's table

  module _ (good : sections_check (length file) y ≡ Ok tt) (k : ℕ) (l : k < y.count) (i : ℕ) (few : i < (part k).count) where
    abbrev name : SectionRelocation
    name = name_of (part k) i

    number_is : name.section.0 ≡ k + 1
    number_is = ap (λ (n : SectionNumber). n.0) (part-number (length file) y k (bytes_before (length file) y k) (entries_before (length file) y k))

    table_is : section_table_start file h name.section.0 ≡ (part k).table.0
    table_is =
        ap (section_table_start file h) number_is ∙ sym (relptr-is k l)
        ∙ ap (λ (r : FileOffset). r.0) (sym (part-table (length file) y k (bytes_before (length file) y k) (entries_before (length file) y k) i few))

    entry-inside : section_table_start file h name.section.0 + (i + 1) * entry_length Relocations o.format ≤ length file
    entry-inside =
        let n : ℕ = entry_length Relocations o.format in
        let m : (i + 1) * n ≤ (part k).count * n = mul-le-mul_right n (omega arith) in
        let t : (part k).table.0 + (part k).count * n ≤ length file = rw (format-is file o) at (part-ready file y (opened_inside file opened) good k l).table in
        omega (arith, table_is)

    there : NamesSectionRelocation file h name (section_relocation_place file (starts_as o.format file) name)
    there = section-relocation-named file o.format o.headed name (omega (arith, number_is)) (omega (arith, number_is, count-is file o)) entry-inside

    pub lrel-named : Named file (refusal.SectionLrel name)
    lrel-named = named_by file o.format o.headed (refusal.SectionLrel name) there

    pub overlap-named : Named file (refusal.SectionOverlap name)
    overlap-named = named_by file o.format o.headed (refusal.SectionOverlap name) there

    pub range-named : Named file (refusal.Range name)
    range-named = named_by file o.format o.headed (refusal.Range name) there

    entry_named : (t : Tables) → Causes P (entry_check file t (part k) i)
    unfolding entry_check own_at
    entry_named t =
        cause-test P (not (is_good file t (part k) (entry_in file t.format (part k) i))) (refusal.SectionLrel name) _ (λ _. lrel-named)
        (λ _. cause-if P (meets (field_in file t.format (part k)) i) (refusal.SectionOverlap name) (λ _. overlap-named))

  module _ (good : sections_check (length file) y ≡ Ok tt) where
    entries-named : (k : ℕ) → k < y.count → (t : Tables) → Causes P (entries_check file t (part k))
    unfolding entries_check
    entries-named k l t = cause-first P (entry_check file t (part k)) 0 (part k).count (λ i _ q. entry_named good k l i (omega arith) t)

    tables-named : Causes P (tables_check file y)
    unfolding tables_check table_check
    tables-named = cause-first P (table_check file y) 0 y.count (λ k _ q. entries-named k (omega arith) (tables_of file y))

  in-named : Causes P (object_in file y)
  unfolding object_in
  in-named = cause-then P (sections_check (length file) y) (tables_check file y) sections-named tables-named

-- ---- any file

pub check-named : (file : List ℕ) → Causes (Named file) (object_check file)
unfolding object_check
check-named file = cause-then (Named file) (open_of file).verdict _ (opened-named file) (in-named file)

abbrev pub ObjectCauses : (Refusal → Type 0) → Result ObjectFile Refusal → Type 0
ObjectCauses P (Ok x) = Unit {0}
ObjectCauses P (Err x) = P x

-- request 4: what the refusal of an object file names is there
pub object-named : (file : List ℕ) → ObjectCauses (Named file) (object_at file)
unfolding object_at
object-named file = by (object_check file) (check-named file)
  where
    by : (v : Verdict) → Causes (Named file) v → ObjectCauses (Named file) (by_verdict v (Ok (file_of (length file) (open_of file).summary)) Err)
    by (Ok tt) c = tt
    by (Err x) c = c
