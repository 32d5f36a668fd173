-- The answer on a file, by its parts. Assumes nothing.
use Prim.Native.Nat.{ℕ}
use mathlib.Core.Path.{◌≡◌, refl, sym, ◌∙◌, ap}
use mathlib.Core.List.{List}
use lib.ListN.{length}
use Rattle.refusal.specs.declared.Refusal.{Refusal}
use Rattle.refusal.specs.Order.{by_verdict}
use Rattle.refusal.proofs.Order.{accepted-first}
use Rattle.header.specs.declared.Summary.{Summary}
use Rattle.header.specs.declared.Opened.{Opened}
use Rattle.header.specs.Open.{open_of}
use Rattle.symbol.specs.declared.Tables.{Tables}
use Rattle.symbol.specs.Entry.{OpenTables, tables_of}
use Rattle.object.specs.Check.{Ready, SectionsReady, sections_check, tables_check, object_in, object_check, file_of, object_at, report_of_object, object_report}
use Rattle.std.specs.Prelude.{Err, Ok, Result}
use Rattle.object.specs.declared.ObjectFile.{ObjectFile}
use Rattle.refusal.specs.Verdict.{Verdict}

module _ (file : List ℕ) {o : Opened} (e : o ≡ open_of file) where
  pub opened-ready : {t : Tables} → o.verdict ≡ Ok tt → OpenTables file t → Ready file o.summary t
  opened-ready h t =
      let s : o.summary ≡ (open_of file).summary = ap (λ (x : Opened). x.summary) e in
      record { accepted = t.accepted; summary = s; tables = t.tables ∙ ap (tables_of file) (sym s) }

  pub answer-refused : {x : Refusal} → o.verdict ≡ Err x → Err x ≡ object_at file
  unfolding object_at object_check
  answer-refused h = rw (← e) (rw h refl)

  pub answer-judged : {w : Verdict} → o.verdict ≡ Ok tt → w ≡ object_in file o.summary
      → by_verdict w (Ok (file_of (length file) o.summary)) Err ≡ object_at file
  unfolding object_at object_check
  answer-judged h q = rw (← e) (rw (h, q) refl)

-- sections of a file that is accepted are accepted
pub sections-ready : (file : List ℕ) {y : Summary} {t : Tables} {w : Verdict} → Ready file y t → w ≡ object_in file y → w ≡ Ok tt → SectionsReady file y t
sections-ready file {y} r e h = record { opened = r; sections = from (sym e ∙ h) }
  where
    from : object_in file y ≡ Ok tt → sections_check (length file) y ≡ Ok tt
    from q = unfold object_in in accepted-first (sections_check (length file) y) (tables_check file y) q

-- an answer that is as promised has the report that is promised
pub with-report : (file : List ℕ) {r : Result ObjectFile Refusal} → r ≡ object_at file → (r ≡ object_at file) × (report_of_object file r ≡ object_report file)
with-report file e = (e, ap (report_of_object file) e)
