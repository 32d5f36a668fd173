-- An accepted object file is sound: its fields are inside the raw bytes, and each two are the same or share no byte. Assumes nothing.
use Prim.Native.Nat.{ℕ, zero, suc, ◌+◌, ◌-◌, ◌≤◌, ◌<◌}
use mathlib.Core.Path.{◌≡◌, refl, sym, ◌∙◌, ap, ap₂}
use mathlib.Core.Logic.{inl, inr}
use mathlib.Core.Bool.{Bool, true, false}
use mathlib.Core.List.{List, [], ◌∷◌, ◌++◌}
use native.Mathlib.Decide.{dec_lt}
use native.Mathlib.Omega.{arith}
use lib.ListN.{length, drop, length-append, length-drop}
use lib.Seq.{length-take-le}
use Rattle.refusal.specs.Order.{if_accepted}
use Rattle.refusal.proofs.Order.{accepted-first, accepted-rest, first-all}
use Rattle.format.specs.declared.Format.{Format}
use Rattle.format.specs.Layout.{address_limit}
use Rattle.header.specs.declared.Summary.{Summary}
use Rattle.header.specs.Inside.{Inside}
use Rattle.header.specs.Open.{open_of}
use Rattle.header.proofs.Accepted.{opened_inside}
use Rattle.symbol.specs.declared.Tables.{Tables}
use Rattle.symbol.specs.Entry.{tables_of}
use Rattle.field_kind.specs.declared.FieldKind.{FieldKind}
use Rattle.field_kind.specs.declared.FieldKind.TheVariants as kind
use Rattle.field_kind.specs.declared.ObjectField.{ObjectField}
use Rattle.field_kind.specs.Field.{bytes_in, FieldsCompatible}
use Rattle.section_relocation.specs.declared.ObjectSection.{ObjectSection}
use Rattle.section_relocation.specs.Entry.{has_bytes, entry_in, effect_of, effect_or, field_by, field_of, field_in}
use Rattle.section_relocation.proofs.Entries.{FieldIn, field-in-held}
use Rattle.section_overlap.specs.Overlap.{overlaps}
use Rattle.section_overlap.proofs.Rule.{no-overlap}
use Rattle.object_entry.specs.Entry.{object_entry}
use Rattle.object_entry.proofs.Entries.{held, entry-field}
use Rattle.section_entries.specs.Entries.{entries_check}
use Rattle.section_entries.proofs.Accepted.{own-accepted, none-overlaps}
use Rattle.object.specs.Sections.{bytes_before, entries_before, object_section}
use Rattle.object.specs.Check.{sections_check, table_check, tables_check, object_in, object_check}
use Rattle.object.proofs.Sections.{part-place, bytes-more, part-ready}
use Rattle.book.specs.Entries.{All, Pairwise}
use Rattle.object_history.specs.declared.ObjectEntry.{ObjectEntry}
use Rattle.object_history.specs.Entry as history
use Rattle.object_history.specs.Object.{Sound}
use Rattle.object_plan.specs.Object.{entries_from, table_entries, entries_in, raw_of, raw_in, placed_in, object_of}
use Rattle.std.specs.Prelude.{Err, Ok}
use Rattle.refusal.specs.Verdict.{Verdict}

-- ---- lists, one after the other

pub all_append : (P : ObjectEntry → Type 0) (xs ys : List ObjectEntry) → All P xs → All P ys → All P (xs ++ ys)
all_append P [] ys a b = b
all_append P (x ∷ xs) ys a b = (a.0, all_append P xs ys a.1 b)

pub all_map : {P Q : ObjectEntry → Type 0} → ((e : ObjectEntry) → P e → Q e) → (es : List ObjectEntry) → All P es → All Q es
all_map h [] a = tt
all_map h (e ∷ es) a = (h e a.0, all_map h es a.1)

pairwise_append : (R : ObjectEntry → ObjectEntry → Type 0) (xs ys : List ObjectEntry) → Pairwise R xs → Pairwise R ys → All (λ x. All (R x) ys) xs → Pairwise R (xs ++ ys)
pairwise_append R [] ys a b c = b
pairwise_append R (x ∷ xs) ys a b c = (all_append (R x) xs ys a.0 c.0, pairwise_append R xs ys a.1 b c.1)

-- ---- a field among the bytes from low up to high, or nowhere

pub record Between (low high : ℕ) (g : ObjectField) : Type 0 where
  pub from : has_bytes g.kind ≡ true → low ≤ g.offset
  pub upto : g.offset + bytes_in g.kind ≤ high
  pub none : has_bytes g.kind ≡ false → g.offset ≡ 0

bytes-none : (k : FieldKind) → has_bytes k ≡ false → bytes_in k ≡ 0
bytes-none kind.Nothing e = refl
bytes-none kind.Four e = absurd (let z : ◌≡◌ {A = ℕ} 0 1 = cc in omega arith)
bytes-none kind.Eight e = absurd (let z : ◌≡◌ {A = ℕ} 0 1 = cc in omega arith)
bytes-none kind.Branch e = absurd (let z : ◌≡◌ {A = ℕ} 0 1 = cc in omega arith)

bytes-some : (k : FieldKind) → has_bytes k ≡ true → 0 < bytes_in k
bytes-some kind.Nothing e = absurd (let z : ◌≡◌ {A = ℕ} 0 1 = cc in omega arith)
bytes-some kind.Four e = omega arith
bytes-some kind.Eight e = omega arith
bytes-some kind.Branch e = omega arith

-- fields of one range that do not overlap, and fields of ranges one after the other, are the same or share no byte
module _ (a b : ObjectField) {l h m n : ℕ} (p : Between l h a) (q : Between m n b) where
  by_bytes : (has_bytes a.kind ≡ true → has_bytes b.kind ≡ true → FieldsCompatible a b) → FieldsCompatible a b
  by_bytes f = go (has_bytes a.kind) (has_bytes b.kind) refl refl
    where
      go : (s t : Bool) → has_bytes a.kind ≡ s → has_bytes b.kind ≡ t → FieldsCompatible a b
      go true true x y = f x y
      go false t x y = inr (inl (omega (arith, p.none x, bytes-none a.kind x)))
      go true false x y = inr (inr (omega (arith, q.none y, bytes-none b.kind y)))

  pub one-range : overlaps a b ≡ false → FieldsCompatible a b
  one-range e = by_bytes (λ x y. no-overlap a b e (bytes-some a.kind x) (bytes-some b.kind y))

  pub two-ranges : h ≤ m → FieldsCompatible a b
  two-ranges e = by_bytes (λ x y. inr (inl (omega (arith, p.upto, q.from y))))

widen : {l h m n : ℕ} (g : ObjectField) → m ≤ l → h ≤ n → Between l h g → Between m n g
widen g a b p = record { from = λ x. omega (arith, p.from x); upto = omega (arith, p.upto); none = p.none }

-- ---- the entries of a section that is accepted

field-none : (f : Format) (s : ObjectSection) (at : ℕ) (k : FieldKind) → has_bytes k ≡ false → (field_by s at k).offset ≡ 0
unfolding field_by
field-none f s at k e = rw e refl

module _ (file : List ℕ) (t : Tables) (s : ObjectSection) (good : entries_check file t s ≡ Ok tt) where
  abbrev field_at : ℕ → ObjectField
  field_at i = (object_entry file t s i).field

  pub entry-between : (i : ℕ) → i < s.count → Between s.place (s.place + s.size) (field_at i)
  entry-between i l = rw (entry-field file t s i) (record { from = h.from; upto = h.upto; none = none })
    where
      h : FieldIn s (field_in file t.format s i)
      h = field-in-held file t.format s i (held file t s i (own-accepted file t s good i l))

      none : has_bytes (field_in file t.format s i).kind ≡ false → (field_in file t.format s i).offset ≡ 0
      none = unfold field_in field_of in
          (λ e. field-none t.format s (entry_in file t.format s i).address.0 (effect_or (effect_of t.format (entry_in file t.format s i))).kind (unfold field_by in e))

  pub from-between : (i n : ℕ) → i + n ≤ s.count → All (λ e. Between s.place (s.place + s.size) e.field) (entries_from file t s i n)
  unfolding entries_from
  from-between i zero h = tt
  from-between i (suc n) h = (entry-between i (omega arith), from-between (suc i) n (omega arith))

  pair-compatible : (j i : ℕ) → j < i → i < s.count → FieldsCompatible (field_at j) (field_at i)
  pair-compatible j i a b =
      one-range (field_at j) (field_at i) (entry-between j (omega arith)) (entry-between i b)
      (ap₂ overlaps (entry-field file t s j) (entry-field file t s i) ∙ none-overlaps file t s good j i a b)

  one-against : (j i n : ℕ) → j < i → i + n ≤ s.count → All (λ e. FieldsCompatible (field_at j) e.field) (entries_from file t s i n)
  unfolding entries_from
  one-against j i zero a h = tt
  one-against j i (suc n) a h = (pair-compatible j i a (omega arith), one-against j (suc i) n (omega arith) (omega arith))

  from-pairwise : (i n : ℕ) → i + n ≤ s.count → Pairwise history.Compatible (entries_from file t s i n)
  unfolding entries_from
  from-pairwise i zero h = tt
  from-pairwise i (suc n) h = (one-against i (suc i) n (omega arith) (omega arith), from-pairwise (suc i) n (omega arith))

-- ---- the entries of all sections

module _ (file : List ℕ) (y : Summary) (inside : Inside file y) (sections : sections_check (length file) y ≡ Ok tt) (tables : tables_check file y ≡ Ok tt) where
  abbrev part : ℕ → ObjectSection
  part k = object_section (length file) y k

  abbrev before : ℕ → ℕ
  before k = bytes_before (length file) y k

  pub table-good : (k : ℕ) → k < y.count → entries_check file (tables_of file y) (part k) ≡ Ok tt
  table-good k l = from (each tables)
    where
      each : tables_check file y ≡ Ok tt → table_check file y k ≡ Ok tt
      each e = unfold tables_check in first-all (table_check file y) y.count 0 e k (omega arith) (omega arith)

      from : table_check file y k ≡ Ok tt → entries_check file (tables_of file y) (part k) ≡ Ok tt
      from e = unfold table_check in e

  pub ends : (k : ℕ) → (part k).place + (part k).size ≡ before (suc k)
  ends k = ap (λ (n : ℕ). n + (part k).size) (part-place (length file) y k (before k) (entries_before (length file) y k)) ∙ sym (bytes-more (length file) y k)

  pub grows : (k n : ℕ) → before k ≤ before (k + n)
  grows k zero = omega (arith, ap before (let e : k + 0 ≡ k = omega arith in e))
  grows k (suc n) =
      omega (arith, grows k n, bytes-more (length file) y (k + n), ap before (let e : k + suc n ≡ suc (k + n) = omega arith in e))

  -- the entries of sections k to k + n are among their bytes
  pub in_between : (k n : ℕ) → k + n ≤ y.count → All (λ e. Between (before k) (before (k + n)) e.field) (entries_in file y k n)
  unfolding entries_in
  in_between k zero h = tt
  in_between k (suc n) h =
      let e : suc k + n ≡ k + suc n = omega arith in
      let g : before (suc k) ≤ before (k + suc n) = omega (arith, grows (suc k) n, ap before e) in
      let f : before k ≤ before (suc k) = omega (arith, bytes-more (length file) y k) in
      all_append (λ e. Between (before k) (before (k + suc n)) e.field) (table_entries file (tables_of file y) (part k)) (entries_in file y (suc k) n)
      (all_map (λ x p. widen x.field (omega (arith, part-place (length file) y k (before k) (entries_before (length file) y k))) (omega (arith, ends k)) p)
      (table_entries file (tables_of file y) (part k)) (from-between file (tables_of file y) (part k) (table-good k (omega arith)) 0 (part k).count (omega arith)))
      (all_map (λ x p. widen x.field f (omega (arith, ap before e)) p) (entries_in file y (suc k) n) (in_between (suc k) n (omega arith)))

  in-pairwise : (k n : ℕ) → k + n ≤ y.count → Pairwise history.Compatible (entries_in file y k n)
  unfolding entries_in
  in-pairwise k zero h = tt
  in-pairwise k (suc n) h =
      let mine = table_entries file (tables_of file y) (part k) in
      let rest = entries_in file y (suc k) n in
      let later = in_between (suc k) n (omega arith) in
      pairwise_append history.Compatible mine rest
      (from-pairwise file (tables_of file y) (part k) (table-good k (omega arith)) 0 (part k).count (omega arith))
      (in-pairwise (suc k) n (omega arith))
      (all_map (λ x p. all_map (λ z q. two-ranges x.field z.field p q (omega (arith, ends k))) rest later) mine
      (from-between file (tables_of file y) (part k) (table-good k (omega arith)) 0 (part k).count (omega arith)))

  -- the raw bytes are as many as the sections have
  pub raw-one : (k : ℕ) → k < y.count → length (raw_of file (part k)) ≡ (part k).size
  raw-one k l = by (dec_lt 0 (part k).size)
    where
      by : Dec (0 < (part k).size) → length (raw_of file (part k)) ≡ (part k).size
      by (yes h) =
          let r = (part-ready file y inside sections k l).raw h in
          length-take-le (part k).size (drop (part k).raw.0 file) (rw length-drop (omega arith))
      by (no h) = length-take-le (part k).size (drop (part k).raw.0 file) (omega arith)

  raw-length : (k n : ℕ) → k + n ≤ y.count → length (raw_in file y k n) + before k ≡ before (k + n)
  unfolding raw_in
  raw-length k zero h = omega (arith, ap before (let e : k ≡ k + 0 = omega arith in e))
  raw-length k (suc n) h =
      let e : suc k + n ≡ k + suc n = omega arith in
      omega (arith, length-append (raw_of file (part k)) (raw_in file y (suc k) n), raw-one k (omega arith), raw-length (suc k) n (omega arith), bytes-more (length file) y k, ap before e)

  -- in all as many as the first sections, all of them, give the buffer
  pub raw-whole : length (raw_in file y 0 y.count) ≡ before y.count
  unfolding bytes_before
  raw-whole = (let z : before 0 ≡ 0 = refl in let e : 0 + y.count ≡ y.count = omega arith in omega (arith, raw-length 0 y.count (omega arith), ap before e))

  -- each section has its bytes among them
  pub part-inside : (k : ℕ) → k < y.count → (part k).place + (part k).size ≤ length (raw_in file y 0 y.count)
  part-inside k l =
      let e : suc k + (y.count - suc k) ≡ y.count = omega arith in
      omega (arith, ends k, raw-whole, grows (suc k) (y.count - suc k), ap before e)

  pub all-inside : All (history.Inside (raw_in file y 0 y.count)) (entries_in file y 0 y.count)
  all-inside =
      all_map (λ x p. omega (arith, p.upto, raw-whole, ap before (let e : 0 + y.count ≡ y.count = omega arith in e))) (entries_in file y 0 y.count) (in_between 0 y.count (omega arith))

  pub all-pairwise : Pairwise history.Compatible (entries_in file y 0 y.count)
  all-pairwise = in-pairwise 0 y.count (omega arith)

-- ---- every file

-- an accepted file is sound, and so is a refused one, which has no entries
pub object-sound : (file : List ℕ) → Sound (object_of file)
unfolding object_of
object-sound file = by (object_check file) refl
  where
    y : Summary
    y = (open_of file).summary

    opened : object_check file ≡ Ok tt → (open_of file).verdict ≡ Ok tt
    opened e = unfold object_check in accepted-first (open_of file).verdict (object_in file y) e

    object-in : object_check file ≡ Ok tt → object_in file y ≡ Ok tt
    object-in e = unfold object_check in accepted-rest (open_of file).verdict (object_in file y) e

    sections : object_in file y ≡ Ok tt → sections_check (length file) y ≡ Ok tt
    sections e = unfold object_in in accepted-first (sections_check (length file) y) (tables_check file y) e

    tables : object_in file y ≡ Ok tt → tables_check file y ≡ Ok tt
    tables e = unfold object_in in accepted-rest (sections_check (length file) y) (tables_check file y) e

    by : (v : Verdict) → object_check file ≡ v
        → Sound (record { verdict = v; limit = address_limit y.format; sections = placed_in y 0 y.count; raw = raw_in file y 0 y.count; entries = if_accepted v (entries_in file y 0 y.count) [] })
    by (Ok tt) e =
        let i = opened_inside file (opened e) in
        let o = object-in e in
        record { inside = all-inside file y i (sections o) (tables o); pairwise = all-pairwise file y i (sections o) (tables o) }
    by (Err x) e = record { inside = tt; pairwise = tt }
