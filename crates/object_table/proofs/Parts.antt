-- Rows of sections and entries, and the section of a number. Assumes nothing.
use Prim.Native.Nat.{ℕ, ◌-◌, ◌*◌, ◌≤◌, ◌<◌}
use mathlib.Core.Path.{◌≡◌, refl, sym, ◌∙◌, ap}
use mathlib.Core.Bool.{Bool, true, false, not}
use mathlib.Core.List.{List}
use lib.ListN.{length}
use Rattle.format.specs.declared.Format.{Format}
use Rattle.format.specs.declared.SectionNumber.{SectionNumber}
use Rattle.refusal.specs.declared.IndexItem.TheVariants.{NoSection}
use Rattle.refusal.specs.declared.Refusal.TheVariants.{Index}
use Rattle.refusal.specs.Order.{refuse_if, if_accepted}
use Rattle.refusal.specs.Refusal.{is_refused}
use Rattle.refusal.proofs.Order.{stop, go_on, accepted-first}
use Rattle.header.specs.declared.Summary.{Summary}
use Rattle.section_lookup.specs.Lookup.{number_check}
use Rattle.section_lookup.proofs.Lookup.{number-known}
use Rattle.symbol.specs.declared.Tables.{Tables}
use Rattle.section_relocation.specs.declared.ObjectSection.{ObjectSection}
use Rattle.section_relocation.specs.Entry.{entry_in, is_held, TableReady}
use Rattle.object_entry.proofs.Entries.{held}
use Rattle.section_entries.proofs.Accepted.{own-accepted}
use Rattle.object.specs.Sections.{is_held_kind, section_at}
use Rattle.object_plan.specs.Ready.{PartReady}
use Rattle.rows.specs.Rows.{room_check}
use Rattle.object_table.specs.Table.{section_row, entry_row, entry_rows, held_check, part_of, entries_check_in}
use Rattle.std.specs.Prelude.{Err, Ok}
use Rattle.refusal.specs.Verdict.{Verdict}

-- ---- rows

pub section-even : (len : ℕ) (y : Summary) (k : ℕ) → length (section_row len y k) ≡ 5
section-even len y k = refl

pub entry-even : (file : List ℕ) (f : Format) (s : ObjectSection) (i : ℕ) → length (entry_row file f s i) ≡ 6
entry-even file f s i = refl

-- what the row of entry i asks
pub entry-ready : (file : List ℕ) (t : Tables) (s : ObjectSection) → PartReady file t s → (i : ℕ) → i < s.count → TableReady file t.format s × (i < s.count) × (is_held t.format s (entry_in file t.format s i) ≡ true)
entry-ready file t s r i l = (r.entries.ready, l, held file t s i (own-accepted file t s r.good i l))

-- ---- INDEX

module _ (y : Summary) (n : SectionNumber) where
  abbrev last : Verdict
  last = refuse_if (not (is_held_kind (section_at y (n.0 - 1)).kind)) (Index (NoSection n))

  pub number-refused : {v : Verdict} → v ≡ number_check y.count n → is_refused v ≡ true → v ≡ held_check y n
  unfolding held_check
  number-refused e h = e ∙ sym (stop (number_check y.count n) last (ap is_refused (sym e) ∙ h))

  module _ {b : Bool} (k : number_check y.count n ≡ Ok tt) (e : b ≡ is_held_kind (section_at y (n.0 - 1)).kind) where
    pub is-held-section : b ≡ true → (Ok tt) ≡ held_check y n
    unfolding held_check
    is-held-section h = rw (k, ← e) (rw h refl)

    pub not-held-section : b ≡ false → Err (Index (NoSection n)) ≡ held_check y n
    unfolding held_check
    not-held-section h = rw (k, ← e) (rw h refl)

  -- the number of a section that is there
  pub held-known : held_check y n ≡ Ok tt → (0 < n.0) × (n.0 ≤ y.count)
  held-known e = number-known y.count n (first e)
    where
      first : held_check y n ≡ Ok tt → number_check y.count n ≡ Ok tt
      first q = unfold held_check in accepted-first (number_check y.count n) _ q

-- a section's entries, by its number
module _ (file : List ℕ) (y : Summary) (n : SectionNumber) {v : Verdict} (e : v ≡ held_check y n) (given : ℕ) where
  pub held-refused : is_refused v ≡ true → v ≡ entries_check_in (length file) y n given
  held-refused h = e ∙ sym (stop (held_check y n) (room_check given (6 * (part_of (length file) y n).count)) (ap is_refused (sym e) ∙ h))

  pub held-listed : {r : Verdict} {s : ObjectSection} → is_refused v ≡ false → s ≡ part_of (length file) y n → r ≡ room_check given (6 * s.count) → r ≡ entries_check_in (length file) y n given
  held-listed h q p = rw q at p ∙ sym (go_on (held_check y n) (room_check given (6 * (part_of (length file) y n).count)) (ap is_refused (sym e) ∙ h))

pub rows-there : (file before : List ℕ) (y : Summary) (t : Tables) (n : SectionNumber) (r : Verdict) {s : ObjectSection} {after : List ℕ} → t.format ≡ y.format → s ≡ part_of (length file) y n
    → after ≡ if_accepted r (entry_rows file t.format s) before → after ≡ if_accepted r (entry_rows file y.format (part_of (length file) y n)) before
rows-there file before y t n r f q a = rw (f, q) at a
