use mathlib.Core.Path.{◌≡◌}
use Prim.Native.Nat.{◌+◌, ◌≤◌, ◌-◌}
use lib.ListN.{length}
use Rattle.mend.specs.Report.{report_bytes, put_bytes}
use Rattle.salvage.specs.Salvage.{changes_in}
use Rattle.salvage.proofs.Turn.{left_from}
use Rattle.salvage_file.proofs.report_tables.Given as goal

abbrev pub invariant-loop-i : goal.invariant-loop-i
invariant-loop-i l = (l.i ≤ l.t.count) × (length l.report ≡ length l.initial.report) × (l.at + length (report_bytes (left_from l.file l.t l.i)) ≤ length l.report) × (put_bytes l.at (report_bytes (left_from l.file l.t l.i)) l.report ≡ put_bytes 0 (report_bytes (changes_in l.file l.t)) l.initial.report)

abbrev pub decreases-loop-i : goal.decreases-loop-i
decreases-loop-i l = l.t.count - l.i
