-- The answers of builds and moves in document 01's numbers.
use Rattle.std.specs.Prelude.{ℕ, List, Err, Ok, Result}
use Rattle.refusal.specs.Refusal.{accepted_head}
use Rattle.offset.specs.Report.{refusal_head}
use Rattle.displacement.specs.Reach.{present, address_of}
use Rattle.image.specs.declared.CallReport.{CallReport}
use Rattle.refusal.specs.declared.Refusal.{Refusal}
use Rattle.history.specs.declared.Reached.{Reached}

abbrev pub report_of_call : List ℕ → Result Reached Refusal → CallReport
report_of_call file (Ok r) =
    record { head = accepted_head; has_entry = present r.entry; entry = address_of r.entry; has_toc = present r.toc; toc = address_of r.toc }
report_of_call file (Err x) = record { head = refusal_head file x; has_entry = 0; entry = 0; has_toc = 0; toc = 0 }
