-- Entries applied, one, those of a section, and all. Assumes nothing.
use Rattle.std.proofs.Common.{◌≡◌, ℕ, ◌+◌, ◌-◌, ◌^◌, ◌<◌, ◌≤◌, List, [], ◌∷◌, ◌++◌, length, pos, sym, refl, ap, ◌∙◌, arith}
use Rattle.update.specs.Update.{remainder}
use Rattle.field_kind.specs.Field.{bytes_in, add_to}
use Rattle.field_kind.proofs.Laws.{add_to-alike}
use Rattle.header.specs.declared.Summary.{Summary}
use Rattle.header.proofs.Accepted.{opened_inside}
use Rattle.symbol.specs.declared.Tables.{Tables}
use Rattle.symbol.specs.Entry.{tables_of}
use Rattle.section_relocation.specs.declared.ObjectSection.{ObjectSection}
use Rattle.section_relocation.proofs.Entries.{field-in-held}
use Rattle.book.specs.Machine.{Shifts}
use Rattle.object_history.specs.declared.ObjectEntry.{ObjectEntry}
use Rattle.object_history.specs.Entry.{amount_of, apply_all}
use Rattle.object_entry.specs.Entry.{own_at, object_entry}
use Rattle.object_entry.proofs.Entries.{held, symbol-few, entry-field, entry-symbol, entry-name}
use Rattle.section_entries.proofs.Accepted.{own-accepted}
use Rattle.object.specs.Sections.{object_section}
use Rattle.object.proofs.Sections.{ready-inside}
use Rattle.object_plan.specs.Object.{entries_from, table_entries, entries_in, object_of}
use Rattle.object_plan.specs.Shifts.{numbers}
use Rattle.object_plan.specs.Ready.{ObjectReady, PartReady}
use Rattle.object_plan.proofs.Ready.{object-entries, object-raw}
use Rattle.object_plan.proofs.Sound.{part-inside}
use Rattle.object_plan.proofs.Turns.{entries-turn, entries-end, tables_start, tables-turn, tables_end}
use Rattle.object_apply.proofs.Amounts.{same}
use Rattle.std.specs.Prelude.{Ok}

-- ---- one entry of a section that is accepted

module _ (file : List ℕ) (t : Tables) (s : ObjectSection) (r : PartReady file t s) (i : ℕ) (l : i < s.count) where
  pub own : own_at file t s i ≡ Ok tt
  own = own-accepted file t s r.good i l

  -- its field is in the section's bytes
  pub field-inside : {e : ObjectEntry} {n : ℕ} → e ≡ object_entry file t s i → s.place + s.size ≤ n → e.field.offset + bytes_in e.field.kind ≤ n
  field-inside e h = rw e (rw (entry-field file t s i) (omega (arith, (field-in-held file t.format s i (held file t s i own)).upto)))

  -- the sections that it moves with have places in a list of shifts
  pub symbol-listed : {e : ObjectEntry} {n : ℕ} → e ≡ object_entry file t s i → n ≡ numbers → e.symbol < n
  symbol-listed e h =
      let o = r.entries.tables in
      let f : t.nscns ≤ 32 = rw o.tables (opened_inside file o.accepted).few in
      rw e (rw (entry-symbol file t s i) (omega (arith, symbol-few file t s i own)))

  pub section-listed : {e : ObjectEntry} {n : ℕ} → e ≡ object_entry file t s i → n ≡ numbers → e.name.section.0 < n
  section-listed e h = rw e (rw (entry-name file t s i) (omega (arith, r.number)))

  -- a field changed by the amount modulo 2^64 is the entry applied
  pub entry-applied : (sh : Shifts) {e : ObjectEntry} {z : ℕ} (x : List ℕ) {y : List ℕ} → e ≡ object_entry file t s i → z ≡ remainder (amount_of e sh) (2 ^ 64)
      → y ≡ add_to e.field (pos z) x → y ≡ add_to (object_entry file t s i).field (amount_of (object_entry file t s i) sh) x
  entry-applied sh {e} {z} x q d h =
      h ∙ add_to-alike e.field (pos z) (amount_of e sh) x (same (amount_of e sh) d) ∙ ap (λ (g : ObjectEntry). add_to g.field (amount_of g sh) x) q

-- ---- the entries of a section

module _ (file : List ℕ) (t : Tables) (s : ObjectSection) (sh : Shifts) (n : ℕ) where
  pub all-turn : (i : ℕ) (x : List ℕ) {y : List ℕ} → i < n → y ≡ add_to (object_entry file t s i).field (amount_of (object_entry file t s i) sh) x
      → apply_all (entries_from file t s (i + 1) (n - (i + 1))) sh y ≡ apply_all (entries_from file t s i (n - i)) sh x
  unfolding apply_all
  all-turn i x h e = rw (e, entries-turn file t s n i h) refl

  pub all_end : (i : ℕ) (x : List ℕ) → n ≤ i → apply_all (entries_from file t s i (n - i)) sh x ≡ x
  unfolding apply_all
  all_end i x h = rw (entries-end file t s n i h) refl

-- ---- the entries of all sections

-- two lists one after the other
pub apply_all-append : (es ds : List ObjectEntry) (sh : Shifts) (x : List ℕ) → apply_all (es ++ ds) sh x ≡ apply_all ds sh (apply_all es sh x)
unfolding apply_all
apply_all-append [] ds sh x = refl
apply_all-append (e ∷ es) ds sh x = apply_all-append es ds sh (add_to e.field (amount_of e sh) x)

module _ (file : List ℕ) (y : Summary) (t : Tables) (r : ObjectReady file y t) (sh : Shifts) where
  pub tables-begin : (x : List ℕ) → apply_all (entries_in file y 0 (y.count - 0)) sh x ≡ apply_all (object_of file).entries sh x
  tables-begin x = rw (tables_start file y y.count, object-entries file y t r) refl

  pub tables-next : (k : ℕ) (x : List ℕ) {s : ObjectSection} {z : List ℕ} → k < y.count → s ≡ object_section (length file) y k → z ≡ apply_all (table_entries file t s) sh x
      → apply_all (entries_in file y (k + 1) (y.count - (k + 1))) sh z ≡ apply_all (entries_in file y k (y.count - k)) sh x
  tables-next k x {s} {z} h p e =
      ap (apply_all rest sh) (e ∙ same_tables) ∙ sym (apply_all-append (table_entries file (tables_of file y) (object_section (length file) y k)) rest sh x)
      ∙ ap (λ (es : List ObjectEntry). apply_all es sh x) (sym (tables-turn file y y.count k h))
    where
      rest : List ObjectEntry
      rest = entries_in file y (k + 1) (y.count - (k + 1))

      same_tables : apply_all (table_entries file t s) sh x ≡ apply_all (table_entries file (tables_of file y) (object_section (length file) y k)) sh x
      same_tables = rw (p, r.sections.opened.tables) refl

  pub tables-done : (k : ℕ) (x : List ℕ) → y.count ≤ k → apply_all (entries_in file y k (y.count - k)) sh x ≡ x
  unfolding apply_all
  tables-done k x h = rw (tables_end file y y.count k h) refl

-- the section's bytes are in the buffer
pub section-inside : (file : List ℕ) (y : Summary) (t : Tables) (r : ObjectReady file y t) (k : ℕ) {s : ObjectSection} {n : ℕ} → k < y.count → s ≡ object_section (length file) y k
    → n ≡ length (object_of file).raw → s.place + s.size ≤ n
section-inside file y t r k h e q =
    rw (e, q) (rw (object-raw file y t r) (part-inside file y (ready-inside file y t r.sections.opened) r.sections.sections r.tables k h))
