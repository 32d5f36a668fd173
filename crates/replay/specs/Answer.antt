-- What a list of calls answers: how many calls were run, how many of them were accepted, and the last one's own answer.
use Rattle.std.specs.Prelude.{List, ℕ, length, None, Ok, Result}
use Rattle.script.specs.Tally.{sum_of, last_of, accepted_one}
use Rattle.script.specs.Tally as tally
use Rattle.history.specs.Images.{Images}
use Rattle.history.specs.Plan.{Relocatable}
use Rattle.history.specs.Call.{Call, answer_of, machine_of}
use Rattle.image.specs.Report.{report_of_call}
use Rattle.replay.specs.declared.ReplayAnswer.{ReplayAnswer}
use Rattle.replay.specs.declared.ReplayReport.{ReplayReport}
use Rattle.refusal.specs.declared.Refusal.{Refusal}
use Rattle.history.specs.declared.Reached.{Reached}

-- the answer of a call on what the buffers hold
abbrev pub answer_on : Relocatable → Images → Call → Result Reached Refusal
answer_on m x c = answer_of m (length x.text) (length x.dat) c

-- of each call, made on what the last one left
abbrev pub answers_of : Relocatable → List Call → Images → List (Result Reached Refusal)
answers_of m cs x = tally.answers_of (machine_of m) (answer_on m) cs x

-- it stands for the last answer where no call was run: number 0, item 0, no entry and no TOC
abbrev pub blank : Result Reached Refusal
blank = Ok (record { entry = None; toc = None })

unfoldable pub replay_answer : Relocatable → List Call → Images → ReplayAnswer
replay_answer m cs x = record { calls = length cs; accepted = sum_of accepted_one (answers_of m cs x); last = last_of blank (answers_of m cs x) }

-- the last call's answer in document 01's numbers, and the counts
abbrev pub report_of_replay : List ℕ → ReplayAnswer → ReplayReport
report_of_replay file a =
    record {
      head = (report_of_call file a.last).head;
      has_entry = (report_of_call file a.last).has_entry;
      entry = (report_of_call file a.last).entry;
      has_toc = (report_of_call file a.last).has_toc;
      toc = (report_of_call file a.last).toc;
      calls = a.calls;
      accepted = a.accepted;
    }
