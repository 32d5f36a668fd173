-- RANGE section by section is RANGE of the object. Assumes nothing.
use Prim.Native.Nat.{ℕ, zero, suc, ◌+◌, ◌-◌, ◌≤◌, ◌<◌}
use mathlib.Core.Path.{◌≡◌, refl, sym, ◌∙◌, ap, ap₂}
use mathlib.Core.Bool.{Bool, true, false, not, ◌&&◌}
use mathlib.Core.List.{List, [], ◌∷◌, ◌++◌}
use native.Mathlib.Omega.{arith}
use lib.ListN.{length}
use lib.IntN.{ℤ, ◌+ℤ◌}
use Rattle.word.specs.Number.{field_at}
use Rattle.refusal.specs.declared.Refusal.TheVariants as refusal
use Rattle.refusal.specs.declared.SectionRelocation.{SectionRelocation}
use Rattle.refusal.specs.Refusal.{is_refused}
use Rattle.refusal.specs.Order.{◌or_else◌, refuse_if, first_of}
use Rattle.refusal.proofs.Order.{refused-if}
use Rattle.book.specs.Machine.{Shifts}
use Rattle.header.specs.declared.Summary.{Summary}
use Rattle.header.specs.Inside.{Inside}
use Rattle.symbol.specs.declared.Tables.{Tables}
use Rattle.symbol.specs.Entry.{tables_of}
use Rattle.branch.specs.Branch.{branch_value, in_range}
use Rattle.object_history.specs.declared.ObjectEntry.{ObjectEntry}
use Rattle.object_history.specs.Range.{is_branch, amounts_on, branch_sum, out_of_range, range_from}
use Rattle.object_history.specs.Call.{range_check}
use Rattle.section_relocation.specs.declared.ObjectSection.{ObjectSection}
use Rattle.section_relocation.specs.Entry.{name_of}
use Rattle.object_entry.specs.Entry.{object_entry}
use Rattle.object_entry.proofs.Entries.{entry-name}
use Rattle.section_entries.proofs.Order.{first-is, first-none}
use Rattle.object.specs.Sections.{bytes_before, entries_before, object_section}
use Rattle.object.proofs.Sections.{part-place, part-ready, ready-inside}
use Rattle.object_plan.specs.Object.{entries_from, table_entries, entries_in, object_of}
use Rattle.object_plan.specs.Ready.{ObjectReady}
use Rattle.object_plan.proofs.Ready.{object-entries, object-raw}
use Rattle.object_plan.proofs.Sound.{entry-between, table-good, ends, part-inside}
use Rattle.branch_range.specs.Range.{sum_on, is_out, FirstOut, word_from}
use Rattle.branch_range.proofs.Sums.{sum-amounts}
use Rattle.object_range.specs.declared.Source.{Source}
use Rattle.object_range.specs.declared.Source.TheVariants.{RawData, Buffer}
use Rattle.object_range.specs.Sections.{origin_of, out_at, part_range, section_range, sections_range, Covers}
use Rattle.object_range.proofs.Sums.{branch-there, amounts-own}
use Rattle.object_range.proofs.Words.{raw_word}
use Rattle.std.specs.Prelude.{Err, Ok}
use Rattle.refusal.specs.Verdict.{Verdict}

-- ---- the first entry of a section's table

module _ (file : List ℕ) (t : Tables) (p : ObjectSection) (s : Shifts) (word : ℕ → ℕ) {x : ℕ} (f : FirstOut (object_entry file t p) p.count s word x) where
  out-before : (i : ℕ) → i < x → is_refused (out_at file t p s word i) ≡ false
  unfolding out_at
  out-before i l = refused-if (is_out (object_entry file t p) p.count s word i) (refusal.Range (name_of p i)) ∙ f.before i l

  out-here : x < p.count → out_at file t p s word x ≡ Err (refusal.Range (name_of p x))
  unfolding out_at
  out-here l = rw (f.here l) refl

  part-refused : x < p.count → Err (refusal.Range (name_of p x)) ≡ part_range file t p s word
  unfolding part_range
  part-refused l = sym (first-is (out_at file t p s word) p.count x l out-before (ap is_refused (out-here l)) ∙ out-here l)

  part-accepted : p.count ≤ x → (Ok tt) ≡ part_range file t p s word
  unfolding part_range
  part-accepted l = sym (first-none (out_at file t p s word) p.count (λ i h. out-before i (omega arith)))

-- ---- the first of the object's entries

module _ (es : List ObjectEntry) (s : Shifts) (x : List ℕ) where
  range-append : (ds cs : List ObjectEntry) → range_from es s x (ds ++ cs) ≡ (range_from es s x ds or_else range_from es s x cs)
  unfolding range_from
  range-append [] cs = refl
  range-append (d ∷ ds) cs = ap (λ (v : Verdict). refuse_if (out_of_range es s x d) (refusal.Range d.name) or_else v) (range-append ds cs) ∙ assoc (refuse_if (out_of_range es s x d) (refusal.Range d.name)) (range_from es s x ds) (range_from es s x cs)
    where
      assoc : (u v w : Verdict) → (u or_else v or_else w) ≡ ((u or_else v) or_else w)
      assoc (Ok tt) v w = refl
      assoc (Err r) v w = refl

  -- over a section's table
  range-table : (file : List ℕ) (t : Tables) (p : ObjectSection) (word : ℕ → ℕ)
      → ((i : ℕ) → i < p.count → out_of_range es s x (object_entry file t p i) ≡ is_out (object_entry file t p) p.count s word i)
      → (i n : ℕ) → i + n ≤ p.count → range_from es s x (entries_from file t p i n) ≡ first_of (out_at file t p s word) i n
  unfolding range_from entries_from first_of out_at
  range-table file t p word h i zero l = refl
  range-table file t p word h i (suc n) l =
      ap₂ (λ (v w : Verdict). v or_else w)
      (ap₂ (λ (b : Bool) (m : SectionRelocation). refuse_if b (refusal.Range m)) (h i (omega arith)) (entry-name file t p i))
      (range-table file t p word h (suc i) n (omega arith))

-- ---- all sections

module _ (file : List ℕ) (y : Summary) (t : Tables) (r : ObjectReady file y t) (s : Shifts) where
  inside : Inside file y
  inside = ready-inside file y t r.sections.opened

  abbrev part : ℕ → ObjectSection
  part k = object_section (length file) y k

  abbrev starts : ℕ → ℕ
  starts k = bytes_before (length file) y k

  place-starts : (k : ℕ) → (part k).place ≡ starts k
  place-starts k = part-place (length file) y k (starts k) (entries_before (length file) y k)

  abbrev all : List ObjectEntry
  all = entries_in file y 0 y.count

  -- the words that are read in sections are those of x
  module _ (x : List ℕ) (source : Source) (bytes : List ℕ)
      (same : (k off : ℕ) → k < y.count → starts k ≤ off → off + 4 ≤ starts (suc k) → field_at 4 off x ≡ word_from bytes (origin_of source (part k)) (part k) off) where
    abbrev word : ℕ → ℕ → ℕ
    word k = word_from bytes (origin_of source (part k)) (part k)

    out-same : (k : ℕ) → k < y.count → (i : ℕ) → i < (part k).count
        → out_of_range all s x (object_entry file (tables_of file y) (part k) i) ≡ is_out (object_entry file (tables_of file y) (part k)) (part k).count s (word k) i
    unfolding out_of_range is_out branch_sum
    out-same k l i h = by (is_branch entry.field.kind) refl
      where
        entry : ObjectEntry
        entry = object_entry file (tables_of file y) (part k) i

        off : ℕ
        off = entry.field.offset

        by : (b : Bool) → is_branch entry.field.kind ≡ b
            → (b && not (in_range (branch_value (field_at 4 off x) +ℤ amounts_on off all s)))
            ≡ (b && not (in_range (branch_value (word k off) +ℤ sum_on (object_entry file (tables_of file y) (part k)) (part k).count s off)))
        by false q = refl
        by true q =
            let w = branch-there entry.field (entry-between file (tables_of file y) (part k) (table-good file y inside r.sections.sections r.tables k l) i h) q in
            let low : starts k ≤ off = omega (arith, w.0, place-starts k) in
            let high : off + 4 ≤ starts (suc k) = omega (arith, w.1, ends file y inside r.sections.sections r.tables k) in
            ap₂ (λ (m : ℕ) (z : ℤ). not (in_range (branch_value m +ℤ z))) (same k off l low high)
            (amounts-own file y inside r.sections.sections r.tables k off low (omega arith) s l
            ∙ sym (sum-amounts file (tables_of file y) (part k) (part k).count s off))

    range-section : (k : ℕ) → k < y.count → range_from all s x (table_entries file (tables_of file y) (part k)) ≡ section_range file y s source bytes k
    unfolding section_range part_range
    range-section k l = range-table all s x file (tables_of file y) (part k) (word k) (out-same k l) 0 (part k).count (omega arith)

    range-sections : (k n : ℕ) → k + n ≤ y.count → range_from all s x (entries_in file y k n) ≡ first_of (section_range file y s source bytes) k n
    unfolding entries_in first_of
    range-sections k zero h = unfold range_from in refl
    range-sections k (suc n) h =
        range-append all s x (table_entries file (tables_of file y) (part k)) (entries_in file y (suc k) n)
        ∙ ap₂ (λ (v w : Verdict). v or_else w) (range-section k (omega arith)) (range-sections (suc k) n (omega arith))

    range-object : range_check (object_of file) s x ≡ sections_range file y s source bytes
    unfolding range_check sections_range
    range-object = ap (λ (es : List ObjectEntry). range_from es s x es) (object-entries file y t r) ∙ range-sections 0 y.count (omega arith)

  -- ---- a build reads each section's raw data in the file, a move the buffer

  raw_same : (k off : ℕ) → k < y.count → starts k ≤ off → off + 4 ≤ starts (suc k) → field_at 4 off (object_of file).raw ≡ word_from file (origin_of RawData (part k)) (part k) off
  raw_same k off l a b =
      ap (field_at 4 off) (object-raw file y t r) ∙ raw_word file y inside r.sections.sections r.tables k off l a b
      ∙ ap (λ (n : ℕ). field_at 4 ((part k).raw.0 + (off - n)) file) (sym (place-starts k))

  pub range-built : sections_range file y s RawData file ≡ range_check (object_of file) s (object_of file).raw
  range-built = sym (range-object (object_of file).raw RawData file raw_same)

  module _ (x : List ℕ) where
    buffer-same : (k off : ℕ) → k < y.count → starts k ≤ off → off + 4 ≤ starts (suc k) → field_at 4 off x ≡ word_from x (origin_of Buffer (part k)) (part k) off
    buffer-same k off l a b = let e : off ≡ (part k).place + (off - (part k).place) = omega (arith, place-starts k) in ap (λ (n : ℕ). field_at 4 n x) e

    pub range_moved : sections_range file y s Buffer x ≡ range_check (object_of file) s x
    range_moved = sym (range-object x Buffer x buffer-same)

    pub buffer-covers : length x ≡ length (object_of file).raw → Covers file y Buffer x
    buffer-covers h =
        record { holds = λ k l z. omega (arith, part-inside file y inside r.sections.sections r.tables k l, h, ap length (object-raw file y t r)) }

  pub file-covers : Covers file y RawData file
  file-covers = record { holds = λ k l z. (part-ready file y inside r.sections.sections k l).raw z }

  pub origin-holds : (source : Source) (bytes : List ℕ) (k : ℕ) {p : ObjectSection} → p ≡ part k → {origin : ℕ} → origin ≡ origin_of source p → Covers file y source bytes → k < y.count
      → 0 < p.size → origin + p.size ≤ length bytes
  origin-holds source bytes k e o c l = rw (o, e) (c.holds k l)

  -- ---- one section of a loop: what the first entry of its table that is out of range tells

  module _ (source : Source) (bytes : List ℕ) (k : ℕ) {p : ObjectSection} (e : p ≡ part k) {origin : ℕ} (o : origin ≡ origin_of source p)
      {x : ℕ} (f : FirstOut (object_entry file t p) p.count s (word_from bytes origin p) x) where
    section-here : {v : Verdict} → v ≡ part_range file t p s (word_from bytes origin p) → v ≡ section_range file y s source bytes k
    unfolding section_range
    section-here h =
        h ∙ ap (λ (n : ℕ). part_range file t p s (word_from bytes n p)) o
        ∙ ap₂ (λ (u : Tables) (q : ObjectSection). part_range file u q s (word_from bytes (origin_of source q) q)) r.sections.opened.tables e

    pub section-refused : x < p.count → Err (refusal.Range (name_of p x)) ≡ section_range file y s source bytes k
    section-refused l = section-here (part-refused file t p s (word_from bytes origin p) f l)

    pub section-accepted : p.count ≤ x → (Ok tt) ≡ section_range file y s source bytes k
    section-accepted l = section-here (part-accepted file t p s (word_from bytes origin p) f l)
