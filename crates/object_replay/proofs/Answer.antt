-- What a list of calls answers and leaves, and what the answer tells.
use mathlib.Core.Path.{◌≡◌, ◌∙◌, ap, ap₂}
use Rattle.script.specs.Tally.{accepted_one}
use mathlib.Core.List.{List}
use Prim.Native.Nat.{ℕ, ◌+◌, ◌≤◌}
use lib.ListN.{length}
use Rattle.script.proofs.Loop as loop
use Rattle.object_history.specs.Object.{Object, Plan}
use Rattle.object_history.specs.Call.{Call, build, move, call_check, effect, run, machine_of}
use Rattle.object_history.specs.Book.{book_after, book_images}
use Rattle.object_plan.specs.Object.{object_of}
use Rattle.object_plan.proofs.Demand3File.{demand-3-object}
use Rattle.object_replay.specs.declared.ObjectReplay.{ObjectReplay}
use Rattle.object_replay.specs.Script.{plan_end, plan_at, plans, call_end, call_at, calls_of, encode}
use Rattle.object_replay.specs.Answer.{verdict_on, replay_answer, report_of_replay}
use Rattle.script.proofs.Plans.{plans-forward}
use Rattle.object_replay.proofs.Plans.{object-encode-decode}
use Rattle.std.specs.Prelude.{Ok}
use Rattle.refusal.specs.Verdict.{Verdict}

-- ---- the calls that were read

-- a call on a buffer of x is answered by v, and leaves z
abbrev pub Made : Object → Call → List ℕ → Verdict → List ℕ → Type 0
Made o c x v z = (v ≡ call_check o (length x) x c) × (z ≡ effect o c x)

module _ (o : Object) (x : List ℕ) (v : Verdict) (z : List ℕ) where
  -- equal calls are answered alike and leave the same
  pub by_call : (c k : Call) → Made o c x v z → c ≡ k → Made o k x v z
  by_call c k h e = (h.0 ∙ ap (call_check o (length x) x) e, h.1 ∙ ap (λ (c : Call). effect o c x) e)

  -- a build for what was read is the build for the plan
  pub built-plan : (p q : Plan) → p ≡ q → Made o (build p) x v z → Made o (build q) x v z
  built-plan p q e k = by_call _ _ k (ap build e)

  -- a move between what was read is the move between the two plans
  pub moved-plans : (s : List ℕ) (at next : ℕ) (p q : Plan) → next ≡ plan_end s at → p ≡ plan_at s at → q ≡ plan_at s next
      → Made o (move p q) x v z → Made o (move (plan_at s at) (plan_at s (plan_end s at))) x v z
  moved-plans s at next p q n e h k = by_call _ _ k (ap₂ (λ (a b : Plan). move a b) e (h ∙ ap (plan_at s) n))

-- ---- the loop

module _ (o : Object) (s : List ℕ) where
  -- what the calls from a place on answer and leave is what the whole script does
  abbrev pub Left : ℕ → ℕ → ℕ → Verdict → List ℕ → List ℕ → Type 0
  Left at calls accepted last x y = loop.Left (machine_of o) (verdict_on o) accepted_one (Ok tt) plans s at calls accepted last x y

  pub left-first : (y : List ℕ) → Left 0 0 0 (Ok tt) y y
  left-first y = loop.left-first (machine_of o) (verdict_on o) accepted_one (Ok tt) plans s y

  pub left-next : (at e calls accepted n : ℕ) (last v : Verdict) (x z y : List ℕ) → e ≡ call_end s at → (e ≡ 0 → ⊥) → Made o (call_at s at) x v z → n ≡ accepted_one v
      → Left at calls accepted last x y → Left e (calls + 1) (accepted + n) v z y
  unfolding effect
  left-next at e calls accepted n last v x z y p nz made c l =
      loop.left-next (machine_of o) (verdict_on o) accepted_one (Ok tt) plans s (plans-forward 0) at e calls accepted n last v x z y p nz made.0 made.1 c l

-- where no call is, the script is run: what it answers, and leaves, in the words of the contract
pub replayed : (file s : List ℕ) (at calls accepted : ℕ) (last : Verdict) (x y : List ℕ) → call_end s at ≡ 0 → Left (object_of file) s at calls accepted last x y
    → let t : ObjectReplay = record { calls = calls; accepted = accepted; last = last } in
    (t ≡ replay_answer (object_of file) (calls_of s) y)
    × ((report_of_replay file t ≡ report_of_replay file (replay_answer (object_of file) (calls_of s) y)) × (x ≡ book_images (object_of file) (book_after (object_of file) (calls_of s) y)))
replayed file s at calls accepted last x y e l = (answer, (ap (report_of_replay file) answer, left))
  where
    whole : loop.Whole (machine_of (object_of file)) (verdict_on (object_of file)) accepted_one (Ok tt) plans s calls accepted last x y
    whole = loop.left-none (machine_of (object_of file)) (verdict_on (object_of file)) accepted_one (Ok tt) plans s at calls accepted last x y e l

    answer : record { calls = calls; accepted = accepted; last = last } ≡ replay_answer (object_of file) (calls_of s) y
    answer = unfold replay_answer in
        (ap (λ (n : ℕ). record { calls = n; accepted = accepted; last = last }) whole.number
        ∙ ap₂ (λ (n : ℕ) (v : Verdict). record { calls = length (calls_of s); accepted = n; last = v }) whole.counted whole.answer)

    ran : x ≡ run (object_of file) (calls_of s) y
    ran = unfold run in whole.leaves

    left : x ≡ book_images (object_of file) (book_after (object_of file) (calls_of s) y)
    left = ran ∙ demand-3-object file (calls_of s) y

-- ---- what the answer tells

-- no more calls are accepted than run
pub accepted-calls : (o : Object) (cs : List Call) (x : List ℕ) → (replay_answer o cs x).accepted ≤ (replay_answer o cs x).calls
unfolding replay_answer
accepted-calls o cs x = loop.accepted-among (machine_of o) (verdict_on o) cs x

-- of a script that encodes a list every call is run: fewer tell that it was cut short
pub whole-script : (o : Object) (cs : List Call) (x : List ℕ) → (replay_answer o (calls_of (encode cs)) x).calls ≡ length cs
unfolding replay_answer
whole-script o cs x = ap (λ (l : List Call). length l) (object-encode-decode cs)
