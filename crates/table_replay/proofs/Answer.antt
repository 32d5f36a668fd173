-- What a list of calls answers and leaves: the laws of the loop over a script. Assumes nothing.
use mathlib.Core.Path.{◌≡◌, refl, sym, ◌∙◌, ap}
use Rattle.script.specs.Tally.{accepted_one}
use Rattle.script.proofs.Loop.{accepted-one}
use mathlib.Core.List.{List, [], ◌∷◌}
use Prim.Native.Nat.{ℕ, suc, ◌+◌, ◌≤◌}
use native.Mathlib.Omega.{arith}
use native.Mathlib.Nat.{zero-add, add-zero}
use lib.ListN.{length}
use Rattle.address_book.specs.Book.{Book}
use Rattle.address_book.specs.Call.{Places, Call, Answer, answer_in, after}
use Rattle.address_book.specs.Run.{run, answers}
use Rattle.address_table.specs.Table.{book_of}
use Rattle.address_table.specs.Run.{contents_run}
use Rattle.address_table.proofs.Runs.{book-after}
use Rattle.address_fill.specs.Fill.{places_at}
use Rattle.table_replay.specs.declared.TableReplayAnswer.{TableReplayAnswer}
use Rattle.table_replay.specs.Script.{call_end, call_at, calls_from, calls_of, script_calls}
use Rattle.table_replay.specs.Answer.{accepted_among, last_told, table_replay_answer, list_run, report_of_table_replay}
use Rattle.table_replay.proofs.Ends.{call-longer, call_ends}
use Rattle.table_replay.proofs.Made.{MadeAt, byte-call}
use Rattle.table_replay.proofs.Calls.{calls-none, calls-on}
use Rattle.std.specs.Prelude.{Ok, Result}
use Rattle.refusal.specs.declared.Refusal.{Refusal}

-- ---- counting

-- what is answered after so many calls
abbrev pub answered : ℕ → ℕ → Result ℕ Refusal → TableReplayAnswer
answered calls accepted last = record { calls = calls; accepted = accepted; last = last }

-- the answer t after the calls of a list
abbrev continued : TableReplayAnswer → List Answer → TableReplayAnswer
continued t bs = answered (t.calls + length bs) (t.accepted + accepted_among bs) (last_told t.last bs)

-- after none
continued-none : (t : TableReplayAnswer) → t ≡ continued t []
unfolding accepted_among last_told
continued-none t = rw (add-zero t.calls, add-zero t.accepted) refl

-- the first of them counted
continued-more : (t : TableReplayAnswer) (a : Answer) (bs : List Answer) → continued (answered (t.calls + 1) (t.accepted + accepted_one a.told) a.told) bs ≡ continued t (a ∷ bs)
unfolding accepted_among last_told
continued-more t a bs =
    let c : t.calls + 1 + length bs ≡ t.calls + length (a ∷ bs) = omega arith in
    let h : t.accepted + accepted_one a.told + accepted_among bs ≡ t.accepted + (accepted_one a.told + accepted_among bs) = omega arith in
    rw (c, h) refl

-- every call has its answer, whether it is accepted or refused
pub answers-length : (cs : List Call) (b : Book) → length (answers cs b) ≡ length cs
unfolding answers
answers-length [] b = refl
answers-length (c ∷ cs) b = ap suc (answers-length cs (after b c))

-- ---- the loop

module _ (p : Places) (given : ℕ) (s : List ℕ) where
  -- what the calls from a place on answer after t, and leave of table m and list l, is what the whole script answers and leaves of n and k
  pub record Left (at : ℕ) (t : TableReplayAnswer) (m l n k : List ℕ) : Type 0 where
    pub answer : continued t (answers (calls_from p given (length s) s at) (book_of m)) ≡ table_replay_answer (calls_of p given s) (book_of n)
    pub rows : run (calls_from p given (length s) s at) (book_of m) ≡ run (calls_of p given s) (book_of n)
    pub contents : contents_run (calls_from p given (length s) s at) m ≡ contents_run (calls_of p given s) n
    pub list : list_run (calls_from p given (length s) s at) (book_of m) l ≡ list_run (calls_of p given s) (book_of n) k

  -- from the first call on it is the whole script
  pub left-first : (n k : List ℕ) → Left 0 (answered 0 0 (Ok 0)) n k n k
  unfolding calls_of table_replay_answer
  left-first n k =
      let bs : List Answer = answers (calls_of p given s) (book_of n) in
      record { answer = rw (zero-add (length bs), zero-add (accepted_among bs), answers-length (calls_of p given s) (book_of n)) refl; rows = refl; contents = refl; list = refl }

  -- where no call is, nothing is left
  left-none : (at : ℕ) (t : TableReplayAnswer) (m l n k : List ℕ) → call_end s at ≡ 0 → Left at t m l n k → (t ≡ table_replay_answer (calls_of p given s) (book_of n)) × ((book_of m ≡ run (calls_of p given s) (book_of n)) × ((m ≡ contents_run (calls_of p given s) n) × (l ≡ list_run (calls_of p given s) (book_of n) k)))
  unfolding answers run contents_run list_run
  left-none at t m l n k e h =
      let none = sym (calls-none p given s (length s) at e) in (
        continued-none t ∙ ap (λ (cs : List Call). continued t (answers cs (book_of m))) none ∙ h.answer,
        (ap (λ (cs : List Call). run cs (book_of m)) none ∙ h.rows, (ap (λ (cs : List Call). contents_run cs m) none ∙ h.contents, ap (λ (cs : List Call). list_run cs (book_of m) l) none ∙ h.list)),
      )

  -- one call is made, and counted; those from its end are left
  pub left-next : (at e g calls accepted v : ℕ) (last a : Result ℕ Refusal) (m o l q n k : List ℕ) → length m ≡ 4097 → e ≡ call_end s at → (e ≡ 0 → ⊥)
      → g ≡ given → MadeAt m o l q (call_at p g s at) a → v ≡ accepted_one a → Left at (answered calls accepted last) m l n k
      → Left e (answered (calls + 1) (accepted + v) a) o q n k
  unfolding answers run contents_run list_run answer_in
  left-next at e g calls accepted v last a m o l q n k size x nz eg given_made c h =
      let made : MadeAt m o l q (call_at p given s at) a = rw eg at given_made in
      let on = sym (calls-on p given s at (λ z. nz (x ∙ z))) in
      let book : book_of o ≡ after (book_of m) (call_at p given s at) = ap book_of made.1.0 ∙ book-after m (call_at p given s at) size (byte-call p given s at) in
      record {
        answer =
            rw (c, x, book, made.0)
            (continued-more (answered calls accepted last) _ _ ∙ ap (λ (cs : List Call). continued (answered calls accepted last) (answers cs (book_of m))) on ∙ h.answer);
        rows = rw (x, book) (ap (λ (cs : List Call). run cs (book_of m)) on ∙ h.rows);
        contents = rw (x, made.1.0) (ap (λ (cs : List Call). contents_run cs m) on ∙ h.contents);
        list = rw (x, book, made.1.1) (ap (λ (cs : List Call). list_run cs (book_of m) l) on ∙ h.list);
      }

-- the counts stay within the numbers of the script that were read, and these within the script
pub counted-bounds : (s : List ℕ) (at e calls accepted n : ℕ) (a : Result ℕ Refusal) → e ≡ call_end s at → (e ≡ 0 → ⊥) → n ≡ accepted_one a
    → (accepted ≤ calls) × (calls ≤ at) → (accepted + n ≤ calls + 1) × (calls + 1 ≤ e) × (e ≤ length s)
counted-bounds s at e calls accepted n a p nz c v =
    let o = accepted-one a in
    let l = call-longer s at (λ z. nz (p ∙ z)) in
    let i = call_ends s at (λ z. nz (p ∙ z)) in
    (omega arith, omega arith, omega arith)

-- where no call is, the script is run: what it answers, and leaves, in the words of the contract
pub replayed : (file s : List ℕ) (at : ℕ) (t : TableReplayAnswer) (m l n k : List ℕ) → call_end s at ≡ 0 → Left (places_at file) (length k) s at t m l n k
    → (t ≡ table_replay_answer (script_calls file k s) (book_of n))
    × ((report_of_table_replay file t ≡ report_of_table_replay file (table_replay_answer (script_calls file k s) (book_of n)))
    × ((book_of m ≡ run (script_calls file k s) (book_of n)) × ((m ≡ contents_run (script_calls file k s) n) × (l ≡ list_run (script_calls file k s) (book_of n) k))))
replayed file s at t m l n k e h =
    let x = left-none (places_at file) (length k) s at t m l n k e h in
    (x.0, (ap (report_of_table_replay file) x.0, x.1))
