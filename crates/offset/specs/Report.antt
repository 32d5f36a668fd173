-- What reports are made of: a refusal's number, item and offset.
use Rattle.std.specs.Prelude.{ℕ, ◌+◌, ◌≤◌, List, length, Err, Ok, Result}
use Rattle.refusal.specs.declared.Head.{Head}
use Rattle.refusal.specs.declared.Refusal.{Refusal}
use Rattle.refusal.specs.Refusal.{accepted_head, refused_head}
use Rattle.refusal.specs.Part.{range_found}
use Rattle.offset.specs.declared.RangeReport.{RangeReport}
use Rattle.offset.specs.Offset.{offset_of}
use Rattle.format.specs.declared.FileRange.{FileRange}
use Rattle.refusal.specs.Verdict.{Verdict}

-- the head of a refusal's report
abbrev pub refusal_head : List ℕ → Refusal → Head
refusal_head file x = refused_head x (offset_of file x)

-- what every report on a file starts with
abbrev pub report_head : List ℕ → Verdict → Head
report_head file (Ok tt) = accepted_head
report_head file (Err x) = refusal_head file x

abbrev pub range_head : List ℕ → Result FileRange Refusal → Head
range_head file (Ok r) = accepted_head
range_head file (Err x) = refusal_head file x

-- a part of the file in document 01's numbers
abbrev pub report_of_range : List ℕ → Result FileRange Refusal → RangeReport
report_of_range file a = record { head = range_head file a; start = (range_found a).start.0; length = (range_found a).length }

-- what is reported lies inside the file
abbrev pub InFile : List ℕ → RangeReport → Type 0
InFile file r = r.start + r.length ≤ length file
