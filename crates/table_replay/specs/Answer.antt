-- What a list of table calls answers and leaves, by the plain book of rows.
use Rattle.std.specs.Prelude.{List, [], ◌∷◌, ℕ, ◌+◌, length, Err, Ok, Result}
use Rattle.script.specs.Tally.{accepted_one}
use Rattle.refusal.specs.declared.Head.{Head}
use Rattle.refusal.specs.Refusal.{accepted_head}
use Rattle.offset.specs.Report.{refusal_head}
use Rattle.address_book.specs.Book.{Book}
use Rattle.address_book.specs.Call.{Call, add, remove, look, fill, count, list, Answer, memory_in, after}
use Rattle.address_book.specs.Run.{answers}
use Rattle.table_replay.specs.declared.TableReplayAnswer.{TableReplayAnswer}
use Rattle.table_replay.specs.declared.TableReplayReport.{TableReplayReport}
use Rattle.refusal.specs.declared.Refusal.{Refusal}

-- how many calls were accepted
unfoldable pub accepted_among : List Answer → ℕ
accepted_among [] = 0
accepted_among (a ∷ l) = accepted_one a.told + accepted_among l

-- what the last one told, or what is given where there is none
unfoldable pub last_told : Result ℕ Refusal → List Answer → Result ℕ Refusal
last_told t [] = t
last_told t (a ∷ l) = last_told a.told l

-- how many calls were run on a book, how many of them were accepted, and the last one's own answer; 0 is found where none was run
unfoldable pub table_replay_answer : List Call → Book → TableReplayAnswer
table_replay_answer cs b = record { calls = length cs; accepted = accepted_among (answers cs b); last = last_told (Ok 0) (answers cs b) }

-- the list that a call leaves: a fill writes it, no other call does
unfoldable pub list_after : Book → Call → List ℕ → List ℕ
list_after b (add k a) l = l
list_after b (remove k) l = l
list_after b (look k) l = l
list_after b (fill n p given) l = memory_in (length b) b (fill n p given) l
list_after b (count n) l = l
list_after b (list n given) l = l

-- and that a list of calls leaves
unfoldable pub list_run : List Call → Book → List ℕ → List ℕ
list_run [] b l = l
list_run (c ∷ cs) b l = list_run cs (after b c) (list_after b c l)

-- ---- the answer in document 01's numbers

abbrev pub answer_head : List ℕ → Result ℕ Refusal → Head
answer_head file (Ok v) = accepted_head
answer_head file (Err x) = refusal_head file x

abbrev pub found_value : Result ℕ Refusal → ℕ
found_value (Ok v) = v
found_value (Err x) = 0

abbrev pub report_of_table_replay : List ℕ → TableReplayAnswer → TableReplayReport
report_of_table_replay file a =
    record { head = answer_head file a.last; value = found_value a.last; calls = a.calls; accepted = a.accepted }
