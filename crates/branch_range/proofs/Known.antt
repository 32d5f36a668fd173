-- What an accepted section leaves known of its entries. Assumes nothing.
use mathlib.Core.Path.{◌≡◌, refl, sym, ◌∙◌, ap}
use mathlib.Core.Logic.{⊎_elim}
use mathlib.Core.Bool.{true}
use mathlib.Core.List.{List}
use Prim.Native.Nat.{ℕ, ◌+◌, ◌-◌, ◌*◌, ◌^◌, ◌≤◌, ◌<◌}
use native.Mathlib.Decide.{dec_lt}
use native.Mathlib.Omega.{arith}
use lib.ListN.{length, get_or}
use lib.IntN.{pos, neg_ℤ, nat_abs}
use Rattle.format.specs.declared.Format.{Format}
use Rattle.format.specs.declared.Format.TheVariants.{Xcoff32, Xcoff64}
use Rattle.header.proofs.Accepted.{opened_inside}
use Rattle.symbol.specs.declared.Tables.{Tables}
use Rattle.table_kind.specs.declared.TableKind.TheVariants.{Relocations}
use Rattle.table_kind.specs.Kind.{entry_length}
use Rattle.field_kind.specs.declared.FieldKind.{FieldKind}
use Rattle.field_kind.specs.declared.FieldKind.TheVariants.{Nothing, Four, Eight, Branch}
use Rattle.field_kind.specs.declared.ObjectField.{ObjectField}
use Rattle.field_kind.specs.Field.{bytes_in}
use Rattle.branch.proofs.Wide.{abs-add, abs_neg}
use Rattle.object_history.specs.declared.ObjectEntry.{ObjectEntry}
use Rattle.object_history.specs.Range.{is_branch}
use Rattle.section_relocation.specs.declared.ObjectSection.{ObjectSection}
use Rattle.section_relocation.specs.Entry.{entry_in, is_held, field_in}
use Rattle.section_overlap.specs.Overlap.{Readable}
use Rattle.section_overlap.proofs.Readable.{room, above}
use Rattle.section_overlap.proofs.Rule.{no_true, no-overlap}
use Rattle.object_entry.specs.Entry.{own_at, object_entry}
use Rattle.object_entry.proofs.Entries.{held, symbol-few, entry-field, entry-name, entry-symbol}
use Rattle.section_entries.proofs.Accepted.{own-accepted, none-overlaps}
use Rattle.object_plan.specs.Shifts.{address_shifts}
use Rattle.object_plan.specs.Ready.{PartReady}
use Rattle.branch_range.specs.Cells.{Words, Small}
use Rattle.std.specs.Prelude.{Ok}

branch-long : (k : FieldKind) → is_branch k ≡ true → bytes_in k ≡ 4
branch-long Nothing e = no_true e
branch-long Four e = refl
branch-long Eight e = no_true e
branch-long Branch e = refl

table-few : (f : Format) (at n len : ℕ) → at + n * entry_length Relocations f ≤ len → len ≤ 16777216 → n < 2 ^ 28
table-few Xcoff32 at n len h l = omega arith
table-few Xcoff64 at n len h l = omega arith

-- a branch's word is among the section's bytes
branch-inside : (file : List ℕ) (f : Format) (s : ObjectSection) (n i : ℕ) → Readable file f s n → i < n → is_branch (field_in file f s i).kind ≡ true
    → (s.place ≤ (field_in file f s i).offset) × ((field_in file f s i).offset + 4 ≤ s.place + s.size)
branch-inside file f s n i v l b =
    let e = branch-long (field_in file f s i).kind b in (above file f s n i v l (omega arith), omega (arith, room file f s n i v l))

-- and where these lie from origin on in other bytes, among those
pub word-inside : (file : List ℕ) (f : Format) (s : ObjectSection) (n i : ℕ) (g : ObjectField) (origin len : ℕ) → Readable file f s n → i < n → g ≡ field_in file f s i → (0 < s.size → origin + s.size ≤ len)
    → is_branch g.kind ≡ true → (s.place ≤ g.offset) × (origin + (g.offset - s.place) + 4 ≤ len)
word-inside file f s n i g origin len v l q h b =
    let w = branch-inside file f s n i v l (ap (λ (x : ObjectField). is_branch x.kind) (sym q) ∙ b) in
    let e = ap (λ (x : ObjectField). x.offset) q in
    (omega arith, let m = h (omega arith) in omega arith)

module _ (file : List ℕ) (t : Tables) (s : ObjectSection) (k : PartReady file t s) where
  abbrev g : ℕ → ObjectField
  g = field_in file t.format s

  pub own-good : (i : ℕ) → i < s.count → own_at file t s i ≡ Ok tt
  own-good i l = own-accepted file t s k.good i l

  pub held-good : (i : ℕ) → i < s.count → is_held t.format s (entry_in file t.format s i) ≡ true
  held-good i l = held file t s i (own-good i l)

  pub part-readable : (n : ℕ) → n ≤ s.count → Readable file t.format s n
  part-readable n h = record { ready = k.entries.ready; few = h; held = λ i l. held-good i (omega arith) }

  -- ---- fields

  one_word : (j i : ℕ) → j < i → i < s.count → is_branch (g j).kind ≡ true → is_branch (g i).kind ≡ true
      → (g j).offset < (g i).offset + 4 → (g i).offset < (g j).offset + 4 → (g j).offset ≡ (g i).offset
  one_word j i a l p q u v =
      let m = branch-long (g j).kind p in
      let n = branch-long (g i).kind q in
      ⊎_elim (λ e. ap (λ (x : ObjectField). x.offset) e) (λ w. ⊎_elim (λ x. absurd (omega arith)) (λ x. absurd (omega arith)) w)
      (no-overlap (g j) (g i) (none-overlaps file t s k.good j i a l) (omega arith) (omega arith))

  same_word : (i j : ℕ) → i < s.count → j < s.count → is_branch (g i).kind ≡ true → is_branch (g j).kind ≡ true
      → (g i).offset < (g j).offset + 4 → (g j).offset < (g i).offset + 4 → (g i).offset ≡ (g j).offset
  same_word i j l m p q u v = by (dec_lt i j) (dec_lt j i)
    where
      by : Dec (i < j) → Dec (j < i) → (g i).offset ≡ (g j).offset
      by (yes a) b = one_word i j a m p q u v
      by (no a) (yes b) = sym (one_word j i b l q p v u)
      by (no a) (no b) = ap (λ (x : ℕ). (g x).offset) (let e : i ≡ j = omega arith in e)

  pub part-words : Words (object_entry file t s) s.count s.place (s.place + s.size)
  part-words = record {
    inside = λ i l. rw (entry-field file t s i) (branch-inside file t.format s s.count i (part-readable s.count (omega arith)) l);
    apart = λ i j l m. rw (entry-field file t s i, entry-field file t s j) (same_word i j l m);
  }

  -- the word of an entry that is a branch
  pub part-word : (i : ℕ) (e : ObjectEntry) (origin len : ℕ) → i < s.count → e ≡ object_entry file t s i → (0 < s.size → origin + s.size ≤ len) → is_branch (g i).kind ≡ true
      → (s.place ≤ e.field.offset) × (origin + (e.field.offset - s.place) + 4 ≤ len)
  part-word i e origin len l q h b =
      let p : e.field ≡ g i = ap (λ (x : ObjectEntry). x.field) q ∙ entry-field file t s i in
      word-inside file t.format s s.count i e.field origin len (part-readable s.count (omega arith)) l p h (ap (λ (x : ObjectField). is_branch x.kind) p ∙ b)

  -- ---- numbers

  part-few : s.count < 2 ^ 28
  part-few = let h = k.entries.ready in table-few t.format s.table.0 s.count (length file) h.table h.small

  sections-few : t.nscns ≤ 32
  sections-few = rw k.entries.tables.tables (opened_inside file k.entries.tables.accepted).few

  part-symbol : (i : ℕ) → i < s.count → (object_entry file t s i).symbol < 33
  part-symbol i l = omega (arith, entry-symbol file t s i, symbol-few file t s i (own-good i l), sections-few)

  part-section : (i : ℕ) → (object_entry file t s i).name.section.0 < 33
  part-section i = omega (arith, ap (λ x. x.section.0) (entry-name file t s i), k.number)

  -- the shifts that an entry reads are among those held
  pub part-numbers : (i : ℕ) {e : ObjectEntry} → i < s.count → e ≡ object_entry file t s i → (e.symbol < 33) × (e.name.section.0 < 33)
  part-numbers i l q = rw q (part-symbol i l, part-section i)

-- ---- shifts

-- of numbers of 64 bits
shifts-small : (to from : List ℕ) → ((k : ℕ) → get_or to k 0 < 2 ^ 64) → ((k : ℕ) → get_or from k 0 < 2 ^ 64) → (k : ℕ) → nat_abs (address_shifts to from k) ≤ 2 ^ 65
unfolding address_shifts
shifts-small to from a b k = omega (arith, a k, b k, abs_neg (pos (get_or from k 0)), abs-add (pos (get_or to k 0)) (neg_ℤ (pos (get_or from k 0))))

-- a section's sums are small
pub part_small : (file : List ℕ) (t : Tables) (s : ObjectSection) (to from : List ℕ) → PartReady file t s → ((k : ℕ) → get_or to k 0 < 2 ^ 64) → ((k : ℕ) → get_or from k 0 < 2 ^ 64) → Small s.count (address_shifts to from)
part_small file t s to from k a b = record { few = part-few file t s k; shifts = shifts-small to from a b }
