-- What salvaging answers, and what the lent memory holds afterwards.
use Rattle.std.specs.Prelude.{ℕ, ◌*◌, not, List, eqb, ltb, length, Err, Ok, Result}
use Rattle.refusal.specs.declared.Refusal.TheVariants.{Limit, Room, Shared}
use Rattle.refusal.specs.declared.LimitItem.TheVariants.{SalvageReport}
use Rattle.refusal.specs.declared.RoomItem.TheVariants.{FileBuffer}
use Rattle.refusal.specs.Order.{◌or_else◌, refuse_if, by_verdict, if_accepted}
use Rattle.refusal.specs.Refusal.{accepted_head}
use Rattle.offset.specs.Report.{refusal_head}
use Rattle.header.specs.Open.{open_of}
use Rattle.shared_symbols.specs.Shared.{is_shared}
use Rattle.symbol.specs.declared.Tables.{Tables}
use Rattle.symbol.specs.Entry.{tables_at}
use Rattle.mend.specs.Report.{report_bytes, put_bytes}
use Rattle.salvage.specs.declared.CountReport.{CountReport}
use Rattle.salvage.specs.Salvage.{changes_in, changes, salvaged, salvage_count}
use Rattle.refusal.specs.declared.Refusal.{Refusal}
use Rattle.refusal.specs.Verdict.{Verdict}

-- opening's refusals, then SHARED
unfoldable pub salvageable : List ℕ → Verdict
salvageable file = (open_of file).verdict or_else refuse_if (is_shared (open_of file).summary) Shared

-- then ROOM 0 for a copy of another length, and LIMIT item 5 for a report that is too short
unfoldable pub room_check : ℕ → ℕ → ℕ → ℕ → Verdict
room_check len count copy report =
    refuse_if (not (eqb copy len)) (Room FileBuffer) or_else refuse_if (ltb report (8 * count)) (Limit SalvageReport)

abbrev pub room_in : List ℕ → Tables → ℕ → ℕ → Verdict
room_in file t copy report = room_check (length file) (length (changes_in file t)) copy report

unfoldable pub salvage_check : List ℕ → ℕ → ℕ → Verdict
salvage_check file copy report = salvageable file or_else room_in file (tables_at file) copy report

-- how many changes there are, asked for before
unfoldable pub count_answer : List ℕ → Result ℕ Refusal
count_answer file = by_verdict (salvageable file) (Ok (salvage_count file)) Err

-- the answer of salvaging into a copy and a report of these lengths
unfoldable pub salvage_answer : List ℕ → ℕ → ℕ → Result ℕ Refusal
salvage_answer file copy report = by_verdict (salvage_check file copy report) (Ok (salvage_count file)) Err

-- the copy and the report afterwards: a refusal leaves both as they are
unfoldable pub copy_after : List ℕ → List ℕ → ℕ → List ℕ
copy_after file copy report = if_accepted (salvage_check file (length copy) report) (salvaged file) copy

unfoldable pub report_after : List ℕ → ℕ → List ℕ → List ℕ
report_after file copy report = if_accepted (salvage_check file copy (length report)) (put_bytes 0 (report_bytes (changes file)) report) report

-- the answer in document 01's numbers
abbrev pub report_of_count : List ℕ → Result ℕ Refusal → CountReport
report_of_count file (Ok n) = record { head = accepted_head; count = n }
report_of_count file (Err x) = record { head = refusal_head file x; count = 0 }
