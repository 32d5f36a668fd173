-- What a list of calls answers and leaves, and what the answer tells.
use mathlib.Core.Path.{◌≡◌, sym, ◌∙◌, ap, ap₂}
use Rattle.script.specs.Tally.{accepted_one}
use mathlib.Core.List.{List}
use Prim.Native.Nat.{ℕ, ◌+◌, ◌≤◌}
use lib.ListN.{length}
use Rattle.script.proofs.Loop as loop
use Rattle.history.specs.Images.{Images, images}
use Rattle.history.specs.Plan.{Relocatable}
use Rattle.history.specs.Call.{Call, effect, run, machine_of}
use Rattle.history.specs.Book.{book_after, book_images}
use Rattle.image.specs.declared.CallReport.{CallReport}
use Rattle.image.specs.Report.{report_of_call}
use Rattle.plan.specs.Relocatable.{relocatable_at}
use Rattle.replay.specs.declared.ReplayAnswer.{ReplayAnswer}
use Rattle.replay.specs.Script.{plans, call_end, call_at, calls_of, encode}
use Rattle.replay.specs.Answer.{answer_on, blank, replay_answer, report_of_replay}
use Rattle.replay.proofs.Book.{replay-run}
use Rattle.replay.proofs.Encode.{encode-decode}
use Rattle.script.proofs.Plans.{plans-forward}
use Rattle.replay.proofs.Plans.{Made}
use Rattle.std.specs.Prelude.{Result}
use Rattle.refusal.specs.declared.Refusal.{Refusal}
use Rattle.history.specs.declared.Reached.{Reached}

-- ---- the loop

module _ (m : Relocatable) (s : List ℕ) where
  -- what the calls from a place on answer and leave is what the whole script does
  abbrev pub Left : ℕ → ℕ → ℕ → Result Reached Refusal → Images → Images → Type 0
  Left at calls accepted last x y = loop.Left (machine_of m) (answer_on m) accepted_one blank plans s at calls accepted last x y

  pub left-first : (y : Images) → Left 0 0 0 blank y y
  left-first y = loop.left-first (machine_of m) (answer_on m) accepted_one blank plans s y

  pub left-next : (at e calls accepted n : ℕ) (last a : Result Reached Refusal) (text dat text' dat' : List ℕ) (y : Images) → e ≡ call_end s at → (e ≡ 0 → ⊥)
      → Made m (call_at s at) text dat a text' dat' → n ≡ accepted_one a → Left at calls accepted last (images text dat) y
      → Left e (calls + 1) (accepted + n) a (images text' dat') y
  unfolding effect
  left-next at e calls accepted n last a text dat text' dat' y p nz made c l =
      loop.left-next (machine_of m) (answer_on m) accepted_one blank plans s (plans-forward 2) at e calls accepted n last a (images text dat) (images text' dat') y p nz made.0 made.1 c l

-- where no call is, the script is run: what it answers, and leaves, in the words of the contract
pub replayed : (file s : List ℕ) (at calls accepted : ℕ) (last : Result Reached Refusal) (x y : Images) → call_end s at ≡ 0 → Left (relocatable_at file) s at calls accepted last x y
    → let t : ReplayAnswer = record { calls = calls; accepted = accepted; last = last } in
    (t ≡ replay_answer (relocatable_at file) (calls_of s) y)
    × ((report_of_replay file t ≡ report_of_replay file (replay_answer (relocatable_at file) (calls_of s) y)) × (x ≡ book_images (relocatable_at file) (book_after (relocatable_at file) (calls_of s) y)))
replayed file s at calls accepted last x y e l = (answer, (ap (λ (r : ReplayAnswer). report_of_replay file r) answer, ran ∙ sym (replay-run file s y)))
  where
    whole : loop.Whole (machine_of (relocatable_at file)) (answer_on (relocatable_at file)) accepted_one blank plans s calls accepted last x y
    whole = loop.left-none (machine_of (relocatable_at file)) (answer_on (relocatable_at file)) accepted_one blank plans s at calls accepted last x y e l

    answer : record { calls = calls; accepted = accepted; last = last } ≡ replay_answer (relocatable_at file) (calls_of s) y
    answer = unfold replay_answer in
        (ap (λ (n : ℕ). record { calls = n; accepted = accepted; last = last }) whole.number
        ∙ ap₂ (λ (n : ℕ) (a : Result Reached Refusal). record { calls = length (calls_of s); accepted = n; last = a }) whole.counted whole.answer)

    ran : x ≡ run (relocatable_at file) (calls_of s) y
    ran = unfold run in whole.leaves

-- the report is made of the last call's
pub reported : (file : List ℕ) (a : ReplayAnswer) (r : CallReport) → r ≡ report_of_call file a.last
    → record { head = r.head; has_entry = r.has_entry; entry = r.entry; has_toc = r.has_toc; toc = r.toc; calls = a.calls; accepted = a.accepted } ≡ report_of_replay file a
reported file a r e =
    ap (λ (r : CallReport). record { head = r.head; has_entry = r.has_entry; entry = r.entry; has_toc = r.has_toc; toc = r.toc; calls = a.calls; accepted = a.accepted }) e

-- ---- what the answer tells

-- no more calls are accepted than run
pub accepted-calls : (m : Relocatable) (cs : List Call) (x : Images) → (replay_answer m cs x).accepted ≤ (replay_answer m cs x).calls
unfolding replay_answer
accepted-calls m cs x = loop.accepted-among (machine_of m) (answer_on m) cs x

-- of a script that encodes a list every call is run: fewer tell that it was cut short
pub whole-script : (m : Relocatable) (cs : List Call) (x : Images) → (replay_answer m (calls_of (encode cs)) x).calls ≡ length cs
unfolding replay_answer
whole-script m cs x = ap (λ (l : List Call). length l) (encode-decode cs)
