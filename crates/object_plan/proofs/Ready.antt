-- What an accepted object file leaves known. Assumes nothing.
use Prim.Native.Nat.{ℕ, ◌≤◌, ◌<◌}
use mathlib.Core.Path.{◌≡◌, sym, ◌∙◌, ap}
use mathlib.Core.List.{List}
use native.Mathlib.Omega.{arith}
use lib.ListN.{length}
use Rattle.refusal.proofs.Order.{accepted-rest, first-all}
use Rattle.header.specs.declared.Summary.{Summary}
use Rattle.header.specs.Inside.{Inside}
use Rattle.symbol.specs.declared.Tables.{Tables}
use Rattle.symbol.specs.Entry.{tables_of}
use Rattle.section_relocation.specs.declared.ObjectSection.{ObjectSection}
use Rattle.section_entries.specs.Entries.{entries_check}
use Rattle.object.specs.Sections.{bytes_before, entries_before, object_section}
use Rattle.object.specs.Check.{Ready, sections_check, table_check, tables_check, object_in, object_check}
use Rattle.object.proofs.Sections.{part-number, ready-inside, sections-entries}
use Rattle.object.proofs.Answer.{sections-ready}
use Rattle.object_plan.specs.Object.{entries_in, raw_in, placed_in, object_of}
use Rattle.object_plan.specs.Ready.{ObjectReady, PartReady}
use Rattle.std.specs.Prelude.{Ok}
use Rattle.refusal.specs.Verdict.{Verdict}

-- a file whose judgement accepts
pub object-ready : (file : List ℕ) {y : Summary} {t : Tables} {w : Verdict} → Ready file y t → w ≡ object_in file y → w ≡ Ok tt → ObjectReady file y t
object-ready file {y} r e h = record { sections = sections-ready file r e h; tables = from (sym e ∙ h) }
  where
    from : object_in file y ≡ Ok tt → tables_check file y ≡ Ok tt
    from q = unfold object_in in accepted-rest (sections_check (length file) y) (tables_check file y) q

module _ (file : List ℕ) (y : Summary) (t : Tables) (r : ObjectReady file y t) where
  inside : Inside file y
  inside = ready-inside file y t r.sections.opened

  pub sections-few : y.count ≤ 32
  sections-few = inside.few

  table-accepted : (k : ℕ) → k < y.count → entries_check file (tables_of file y) (object_section (length file) y k) ≡ Ok tt
  table-accepted k l = from (each r.tables)
    where
      each : tables_check file y ≡ Ok tt → table_check file y k ≡ Ok tt
      each e = unfold tables_check in first-all (table_check file y) y.count 0 e k (omega arith) (omega arith)

      from : table_check file y k ≡ Ok tt → entries_check file (tables_of file y) (object_section (length file) y k) ≡ Ok tt
      from e = unfold table_check in e

  -- one of its sections
  pub part-good : (k : ℕ) → k < y.count → {s : ObjectSection} → s ≡ object_section (length file) y k → PartReady file t s
  part-good k l e =
      record {
        entries = sections-entries file y t r.sections k l e;
        good = rw (e, r.sections.opened.tables) (table-accepted k l);
        number = rw e (omega (arith, ap (λ n. n.0) (part-number (length file) y k (bytes_before (length file) y k) (entries_before (length file) y k)), inside.few));
      }

  -- ---- the object, by its parts

  accepted : object_check file ≡ Ok tt
  unfolding object_check object_in
  accepted = rw r.sections.opened.accepted (rw (← r.sections.opened.summary) (rw r.sections.sections r.tables))

  pub object-verdict : (object_of file).verdict ≡ Ok tt
  unfolding object_of
  object-verdict = accepted

  pub object-entries : (object_of file).entries ≡ entries_in file y 0 y.count
  unfolding object_of
  object-entries = rw accepted (ap (λ (z : Summary). entries_in file z 0 z.count) (sym r.sections.opened.summary))

  pub object-raw : (object_of file).raw ≡ raw_in file y 0 y.count
  unfolding object_of
  object-raw = ap (λ (z : Summary). raw_in file z 0 z.count) (sym r.sections.opened.summary)

  pub object-sections : (object_of file).sections ≡ placed_in y 0 y.count
  unfolding object_of
  object-sections = ap (λ (z : Summary). placed_in z 0 z.count) (sym r.sections.opened.summary)
