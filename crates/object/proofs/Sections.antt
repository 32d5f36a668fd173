-- Laws of an object file's sections. Assumes nothing.
use Prim.Native.Nat.{ℕ, zero, suc, ◌+◌, ◌*◌, ◌≤◌, ◌<◌}
use mathlib.Core.Path.{◌≡◌, refl, sym, ◌∙◌, ap, ap₂}
use mathlib.Core.Bool.{Bool, true, false, not, cond, ◌&&◌, ◌||◌}
use mathlib.Core.List.{List}
use native.Mathlib.Decide.{dec_lt}
use native.Mathlib.Numerals.{add-one}
use native.Mathlib.Nat.{zero-mul}
use native.Mathlib.Omega.{arith}
use lib.Dec.{eqb}
use lib.ListN.{length}
use borrow.Author.Tests.{ne_eqb}
use Rattle.section_kind.specs.declared.SectionKind.{SectionKind}
use Rattle.section_kind.specs.Kind.{flags_of}
use Rattle.format.specs.declared.Format.{Format}
use Rattle.format.specs.Limit.{file_limit}
use Rattle.refusal.specs.declared.ModuleItem.TheVariants.{NoRawData}
use Rattle.refusal.specs.declared.Refusal.TheVariants as refusal
use Rattle.refusal.specs.Order.{◌or_else◌, refuse_if}
use Rattle.refusal.proofs.Order.{accepted-first, accepted-rest, accepted-test, first-all, not-accepted}
use Rattle.header.specs.declared.Summary.{Summary}
use Rattle.header.specs.Inside.{Inside}
use Rattle.symbol.specs.declared.Tables.{Tables}
use Rattle.symbol.specs.Entry.{OpenTables, tables_of}
use Rattle.symbol.proofs.Opened.{summary-inside}
use Rattle.table_kind.specs.declared.TableKind.TheVariants.{Relocations}
use Rattle.table_kind.specs.Kind.{entry_length}
use Rattle.table_kind.proofs.Places.{count-within}
use Rattle.section_tables.specs.declared.SectionTable.{SectionTable}
use Rattle.section_tables.specs.Tables.{table_of}
use Rattle.section_tables.proofs.Tables.{found_within}
use Rattle.section_relocation.specs.declared.ObjectSection.{ObjectSection}
use Rattle.section_relocation.specs.Entry.{TableReady}
use Rattle.section_entries.specs.Entries.{EntriesReady, entries_check}
use Rattle.object.specs.Sections.{is_held_kind, section_at, number_at, table_or, held_part, empty_part, part_at, bytes_before, entries_before, object_section}
use Rattle.object.specs.Check.{table_verdict, lacks_data, section_check, sections_check, table_check, file_of, Ready, SectionsReady}
use Rattle.object.specs.declared.ObjectFile.{ObjectFile}
use Rattle.std.specs.Prelude.{Err, Ok, Result}
use Rattle.refusal.specs.declared.Refusal.{Refusal}
use Rattle.refusal.specs.Verdict.{Verdict}

zero-times : (n : ℕ) → 0 * n ≡ 0
zero-times n = zero-mul n

-- ---- sums over the sections

module _ (len : ℕ) (y : Summary) (k place first : ℕ) where
  same_size : (part_at len y k place first).size ≡ (part_at len y k 0 0).size
  unfolding part_at
  same_size = by (is_held_kind (section_at y k).kind)
    where
      by : (b : Bool) → (cond b (held_part (section_at y k) (number_at k) (table_or (table_of Relocations y len (number_at k))) place first) (empty_part (number_at k) place first)).size
          ≡ (cond b (held_part (section_at y k) (number_at k) (table_or (table_of Relocations y len (number_at k))) 0 0) (empty_part (number_at k) 0 0)).size
      by true = refl
      by false = refl

  same_count : (part_at len y k place first).count ≡ (part_at len y k 0 0).count
  unfolding part_at
  same_count = by (is_held_kind (section_at y k).kind)
    where
      by : (b : Bool) → (cond b (held_part (section_at y k) (number_at k) (table_or (table_of Relocations y len (number_at k))) place first) (empty_part (number_at k) place first)).count
          ≡ (cond b (held_part (section_at y k) (number_at k) (table_or (table_of Relocations y len (number_at k))) 0 0) (empty_part (number_at k) 0 0)).count
      by true = refl
      by false = refl

  pub part-place : (part_at len y k place first).place ≡ place
  unfolding part_at
  part-place = by (is_held_kind (section_at y k).kind)
    where
      by : (b : Bool) → (cond b (held_part (section_at y k) (number_at k) (table_or (table_of Relocations y len (number_at k))) place first) (empty_part (number_at k) place first)).place ≡ place
      by true = refl
      by false = refl

  part-first : (part_at len y k place first).first ≡ first
  unfolding part_at
  part-first = by (is_held_kind (section_at y k).kind)
    where
      by : (b : Bool) → (cond b (held_part (section_at y k) (number_at k) (table_or (table_of Relocations y len (number_at k))) place first) (empty_part (number_at k) place first)).first ≡ first
      by true = refl
      by false = refl

  pub part-number : (part_at len y k place first).number ≡ number_at k
  unfolding part_at
  part-number = by (is_held_kind (section_at y k).kind)
    where
      by : (b : Bool) → (cond b (held_part (section_at y k) (number_at k) (table_or (table_of Relocations y len (number_at k))) place first) (empty_part (number_at k) place first)).number ≡ number_at k
      by true = refl
      by false = refl

module _ (len : ℕ) (y : Summary) (k : ℕ) where
  pub bytes-more : bytes_before len y (suc k) ≡ bytes_before len y k + (object_section len y k).size
  unfolding bytes_before
  bytes-more = ap (λ (n : ℕ). bytes_before len y k + n) (sym (same_size len y k (bytes_before len y k) (entries_before len y k)))

  pub entries-more : entries_before len y (suc k) ≡ entries_before len y k + (object_section len y k).count
  unfolding entries_before
  entries-more = ap (λ (n : ℕ). entries_before len y k + n) (sym (same_count len y k (bytes_before len y k) (entries_before len y k)))

  -- the sums of a loop after the section k
  pub bytes_next : {place : ℕ} {s : ObjectSection} → place ≡ bytes_before len y k → s ≡ object_section len y k → place + s.size ≡ bytes_before len y (k + 1)
  bytes_next e q = ap₂ (λ (a b : ℕ). a + b) e (ap (λ (x : ObjectSection). x.size) q) ∙ sym bytes-more ∙ ap (bytes_before len y) (sym (add-one k))

  pub entries_next : {first : ℕ} {s : ObjectSection} → first ≡ entries_before len y k → s ≡ object_section len y k → first + s.count ≡ entries_before len y (k + 1)
  entries_next e q = ap₂ (λ (a b : ℕ). a + b) e (ap (λ (x : ObjectSection). x.count) q) ∙ sym entries-more ∙ ap (entries_before len y) (sym (add-one k))

-- ---- accepted sections

-- what an accepted text or data section is: raw data where it has a size, and a table in the file
record HeldReady (len : ℕ) (y : Summary) (k : ℕ) : Type 0 where
  raw : 0 < (section_at y k).size → (section_at y k).raw ≡ true
  table : table_verdict (table_of Relocations y len (number_at k)) ≡ Ok tt

held-ready : (len : ℕ) (y : Summary) (k : ℕ) → is_held_kind (section_at y k).kind ≡ true → section_check len y k ≡ Ok tt → HeldReady len y k
held-ready len y k h e = from (opened e)
  where
    whole : Verdict
    whole = refuse_if (not (eqb (section_at y k).size 0) && not (section_at y k).raw) (refusal.Module NoRawData) or_else table_verdict (table_of Relocations y len (number_at k))

    opened : section_check len y k ≡ Ok tt → whole ≡ Ok tt
    opened q = unfold section_check in (rw h at q)

    some : (n : ℕ) (b : Bool) → (not (eqb n 0) && not b) ≡ false → 0 < n → b ≡ true
    some n true q l = refl
    some n false q l = let z : eqb n 0 ≡ false = ne_eqb n 0 (λ w. omega arith) in absurd (let o : ◌≡◌ {A = ℕ} 0 1 = (let t : true ≡ false = rw z at q in cc) in omega arith)

    from : whole ≡ Ok tt → HeldReady len y k
    from q =
        record {
          raw = λ l. some (section_at y k).size (section_at y k).raw (accepted-test (not (eqb (section_at y k).size 0) && not (section_at y k).raw) (refusal.Module NoRawData) (accepted-first _ _ q)) l;
          table = accepted-rest (refuse_if (not (eqb (section_at y k).size 0) && not (section_at y k).raw) (refusal.Module NoRawData)) _ q;
        }

-- the part of an accepted section, in a file of `len` bytes: its raw data and its table are in the file
record PartIn (len : ℕ) (f : Format) (s : ObjectSection) : Type 0 where
  raw : 0 < s.size → s.raw.0 + s.size ≤ len
  table : s.table.0 + s.count * entry_length Relocations f ≤ len

table-in : (len : ℕ) (y : Summary) (k : ℕ) → table_verdict (table_of Relocations y len (number_at k)) ≡ Ok tt
    → (table_or (table_of Relocations y len (number_at k))).start.0 + (table_or (table_of Relocations y len (number_at k))).count * entry_length Relocations y.format ≤ len
table-in len y k e = by (table_of Relocations y len (number_at k)) refl e
  where
    by : (a : Result SectionTable Refusal) → table_of Relocations y len (number_at k) ≡ a → table_verdict a ≡ Ok tt
        → (table_or a).start.0 + (table_or a).count * entry_length Relocations y.format ≤ len
    by (Ok t) q h = found_within Relocations y len (number_at k) q
    by (Err x) q h = not-accepted h

module _ (file : List ℕ) (y : Summary) (inside : Inside file y) (good : sections_check (length file) y ≡ Ok tt) where
  abbrev len : ℕ
  len = length file

  check-accepted : (k : ℕ) → k < y.count → section_check len y k ≡ Ok tt
  check-accepted k l = from good
    where
      from : sections_check len y ≡ Ok tt → section_check len y k ≡ Ok tt
      from e = unfold sections_check in first-all (section_check len y) y.count 0 e k (omega arith) (omega arith)

  part_in : (k place first : ℕ) → k < y.count → PartIn len y.format (part_at len y k place first)
  unfolding part_at
  part_in k place first l = by (is_held_kind (section_at y k).kind) refl
    where
      by : (b : Bool) → is_held_kind (section_at y k).kind ≡ b
          → PartIn len y.format (cond b (held_part (section_at y k) (number_at k) (table_or (table_of Relocations y len (number_at k))) place first) (empty_part (number_at k) place first))
      by true h =
          let r = held-ready len y k h (check-accepted k l) in
          record { raw = λ z. (inside.sections k l).data-in (r.raw z); table = table-in len y k r.table }
      by false h = record { raw = λ z. absurd (omega arith); table = none y.format }
        where
          none : (f : Format) → 0 + 0 * entry_length Relocations f ≤ len
          none f = omega (arith, zero-times (entry_length Relocations f))

  size_few : (k place first : ℕ) → k < y.count → (part_at len y k place first).size ≤ file_limit
  size_few k place first l = by (dec_lt 0 (part_at len y k place first).size)
    where
      by : Dec (0 < (part_at len y k place first).size) → (part_at len y k place first).size ≤ file_limit
      by (yes h) = omega (arith, (part_in k place first l).raw h, inside.small)
      by (no h) = omega arith

  count-few : (k place first : ℕ) → k < y.count → (part_at len y k place first).count ≤ file_limit
  count-few k place first l =
      omega (arith, count-within Relocations y.format (part_at len y k place first).table.0 (part_at len y k place first).count len (part_in k place first l).table, inside.small)

  -- the sums are small
  pub bytes-few : (k : ℕ) → k ≤ y.count → bytes_before len y k ≤ k * file_limit
  unfolding bytes_before
  bytes-few zero h = omega arith
  bytes-few (suc k) h = omega (arith, bytes-few k (omega arith), size_few k 0 0 (omega arith))

  pub entries-few : (k : ℕ) → k ≤ y.count → entries_before len y k ≤ k * file_limit
  unfolding entries_before
  entries-few zero h = omega arith
  entries-few (suc k) h = omega (arith, entries-few k (omega arith), count-few k 0 0 (omega arith))

  pub part-ready : (k : ℕ) → k < y.count → TableReady file y.format (object_section len y k)
  part-ready k l =
      let p = part_in k (bytes_before len y k) (entries_before len y k) l in
      record {
        small = inside.small;
        table = p.table;
        raw = p.raw;
        placed = omega (arith, part-place len y k (bytes_before len y k) (entries_before len y k), bytes-few k (omega arith), size_few k (bytes_before len y k) (entries_before len y k) l, inside.few);
        numbered = omega (arith, part-first len y k (bytes_before len y k) (entries_before len y k), entries-few k (omega arith), count-few k (bytes_before len y k) (entries_before len y k) l, inside.few);
      }

-- ---- an opened file

module _ (file : List ℕ) (y : Summary) (t : Tables) (r : Ready file y t) where
  pub ready-inside : Inside file y
  ready-inside = summary-inside file r.accepted r.summary

  pub ready-tables : OpenTables file t
  ready-tables = record { accepted = r.accepted; tables = r.tables ∙ ap (tables_of file) r.summary }

  pub ready-format : t.format ≡ y.format
  ready-format = ap (λ (x : Tables). x.format) r.tables

module _ (file : List ℕ) (y : Summary) (t : Tables) (r : SectionsReady file y t) where
  pub sections-entries : (k : ℕ) → k < y.count → {s : ObjectSection} → s ≡ object_section (length file) y k → EntriesReady file t s
  sections-entries k l e =
      rw e
      (record {
        tables = ready-tables file y t r.opened;
        ready = rw (ready-format file y t r.opened) (part-ready file y (ready-inside file y t r.opened) r.sections k l);
      })

-- ---- one section judged

module _ (len : ℕ) (y : Summary) (k : ℕ) where
  pub part_none : {b : Bool} (place first : ℕ) → b ≡ is_held_kind (section_at y k).kind → b ≡ false → empty_part (number_at k) place first ≡ part_at len y k place first
  unfolding part_at
  part_none place first e h = rw (← e) (rw h refl)

  pub part-some : {b : Bool} {t : SectionTable} {a : Result SectionTable Refusal} (place first : ℕ) → b ≡ is_held_kind (section_at y k).kind → b ≡ true → a ≡ table_of Relocations y len (number_at k)
      → t ≡ table_or a → held_part (section_at y k) (number_at k) t place first ≡ part_at len y k place first
  unfolding part_at
  part-some place first e h p q = rw (← e) (rw (h, ← p) (rw q refl))

  pub check-other : {b : Bool} → b ≡ is_held_kind (section_at y k).kind → b ≡ false → (Ok tt) ≡ section_check len y k
  unfolding section_check
  check-other e h = rw (← e) (rw h refl)

  pub check-raw : {b c : Bool} → b ≡ is_held_kind (section_at y k).kind → b ≡ true → c ≡ lacks_data (section_at y k) → c ≡ true
      → Err (refusal.Module NoRawData) ≡ section_check len y k
  unfolding section_check
  check-raw e h p q = rw (← e) (rw (h, ← p) (rw q refl))

  pub check-table : {b c : Bool} {a : Result SectionTable Refusal} {v : Verdict} → b ≡ is_held_kind (section_at y k).kind → b ≡ true → c ≡ lacks_data (section_at y k) → c ≡ false
      → a ≡ table_of Relocations y len (number_at k) → v ≡ table_verdict a → v ≡ section_check len y k
  unfolding section_check
  check-table e h p z q r = rw (← e) (rw (h, ← p) (rw (z, ← q) r))

-- ---- kinds

pub held-text : (k : SectionKind) {n : ℕ} → n ≡ flags_of k → n ≡ 0x20 → true ≡ is_held_kind k
held-text k e h = rw (← e) (rw h refl)

or-last : (b : Bool) → b ≡ (b || false)
or-last true = refl
or-last false = refl

pub held-data : (k : SectionKind) {n m : ℕ} → n ≡ flags_of k → (n ≡ 0x20 → ⊥) → m ≡ flags_of k → eqb m 0x40 ≡ is_held_kind k
held-data k {n} {m} e z q = rw (← e) (rw (ne_eqb n 0x20 z) (ap (λ (x : ℕ). eqb x 0x40) (q ∙ sym e) ∙ or-last (eqb n 0x40)))

-- ---- a loop over the sections

pub part-here : (y : Summary) (k : ℕ) {len l place first : ℕ} {s : ObjectSection} → s ≡ part_at len y k place first → len ≡ l → place ≡ bytes_before l y k
    → first ≡ entries_before l y k → s ≡ object_section l y k
part-here y k {len} {l} {place} {first} e p q r = e ∙ ap (λ (x : ℕ). part_at x y k place first) p ∙ ap₂ (λ (a b : ℕ). part_at l y k a b) q r

module _ (file : List ℕ) (y : Summary) (t : Tables) (r : SectionsReady file y t) (k : ℕ) (l : k < y.count) where
  pub place-fits : {place : ℕ} {s : ObjectSection} → place ≡ bytes_before (length file) y k → s ≡ object_section (length file) y k → place + s.size < 4294967296
  place-fits e q =
      let i = ready-inside file y t r.opened in
      omega (arith, bytes_next (length file) y k e q, bytes-few file y i r.sections (k + 1) (omega arith), i.few)

  pub first_fits : {first : ℕ} {s : ObjectSection} → first ≡ entries_before (length file) y k → s ≡ object_section (length file) y k → first + s.count < 4294967296
  first_fits e q =
      let i = ready-inside file y t r.opened in
      omega (arith, entries_next (length file) y k e q, entries-few file y i r.sections (k + 1) (omega arith), i.few)

  pub table_here : {v : Verdict} {s : ObjectSection} → v ≡ entries_check file t s → s ≡ object_section (length file) y k → v ≡ table_check file y k
  unfolding table_check
  table_here e q = e ∙ ap₂ (λ (x : Tables) (z : ObjectSection). entries_check file x z) r.opened.tables q

pub measured : (len : ℕ) (y : Summary) (k : ℕ) {place first : ℕ} → k ≤ y.count → y.count ≤ k → place ≡ bytes_before len y k → first ≡ entries_before len y k
    → record { sections = y.count; entries = first; length = place } ≡ file_of len y
unfolding file_of
measured len y k {place} {first} a b p q =
    let e : k ≡ y.count = omega arith in
    ap₂ (λ (m n : ℕ). file y.count m n) (q ∙ ap (entries_before len y) e) (p ∙ ap (bytes_before len y) e)
  where
    file : ℕ → ℕ → ℕ → ObjectFile
    file s m n = record { sections = s; entries = m; length = n }
