-- What a list of calls answers: how many calls were run, how many of them were accepted, and the last one's own verdict.
use Rattle.std.specs.Prelude.{List, ℕ, length, Ok}
use Rattle.offset.specs.Report.{report_head}
use Rattle.script.specs.Tally.{answers_of, sum_of, last_of, accepted_one}
use Rattle.object_history.specs.Object.{Object}
use Rattle.object_history.specs.Call.{Call, call_check, machine_of}
use Rattle.object_replay.specs.declared.ObjectReplay.{ObjectReplay}
use Rattle.object_replay.specs.declared.ObjectReplayReport.{ObjectReplayReport}
use Rattle.refusal.specs.Verdict.{Verdict}

-- the verdict of a call on what the buffer holds
abbrev pub verdict_on : Object → List ℕ → Call → Verdict
verdict_on o x c = call_check o (length x) x c

-- of each call, made on what the last one left
abbrev pub verdicts_of : Object → List Call → List ℕ → List Verdict
verdicts_of o cs x = answers_of (machine_of o) (verdict_on o) cs x

-- where no call was run the last verdict is that of an accepted one: number 0, item 0
unfoldable pub replay_answer : Object → List Call → List ℕ → ObjectReplay
replay_answer o cs x = record { calls = length cs; accepted = sum_of accepted_one (verdicts_of o cs x); last = last_of (Ok tt) (verdicts_of o cs x) }

-- in document 01's numbers
abbrev pub report_of_replay : List ℕ → ObjectReplay → ObjectReplayReport
report_of_replay file a = record { head = report_head file a.last; calls = a.calls; accepted = a.accepted }
