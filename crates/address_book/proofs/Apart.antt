-- Request 6: a bench's answers depend on its own rows alone, and an addition's further on how many rows are taken. Assumes nothing.
use mathlib.Core.Path.{◌≡◌, refl, sym, ◌∙◌, ap}
use mathlib.Core.Bool.{false}
use mathlib.Core.List.{List, [], ◌∷◌}
use Prim.Native.Nat.{ℕ, ◌<◌}
use native.Mathlib.Omega.{arith}
use lib.Dec.{eqb}
use lib.ListN.{length}
use borrow.Author.Tests.{eqb-true, ne_eqb}
use Rattle.refusal.specs.Order.{if_accepted}
use Rattle.address_book.specs.Book.{key, Book, own}
use Rattle.address_book.specs.Call.{Place, imported, other, Call, add, remove, look, fill, count, list, row_limit, bench_of, call_check, address_at, filled, value_in, written_in, number_in, memory_in, answer_in, applied, after_in, answer_of, after}
use Rattle.address_book.specs.Run.{run, answers, pick, calls_by, seen, Seen, seen_by, own_answers, own_run, NeverFull}
use Rattle.address_book.proofs.Order.{cases}
use Rattle.address_book.proofs.Laws.{Ordered, find-own, own-own, own_put, put_other, own-delete, delete-other, ordered-put, ordered-delete}
use Rattle.std.specs.Prelude.{Err, Ok}
use Rattle.refusal.specs.Verdict.{Verdict}

-- ---- one call

-- a call is judged by the bench's own rows, an addition further by how many rows are taken
pub check-own : (taken : ℕ) (b : Book) (c : Call) → call_check (seen taken c) (own (bench_of c) b) c ≡ call_check taken b c
unfolding call_check seen
check-own taken b (add k a) = rw (find-own k b) refl
check-own taken b (remove k) = rw (find-own k b) refl
check-own taken b (look k) = rw (find-own k b) refl
check-own taken b (fill n m given) = refl
check-own taken b (count n) = refl
check-own taken b (list n given) = rw (own-own n b) refl

-- the addresses of a fill are those of the bench's own rows
filled-own : (n : ℕ) (b : Book) (ps : List Place) → filled (own n b) n ps ≡ filled b n ps
unfolding filled address_at
filled-own n b [] = refl
filled-own n b (imported f name v ∷ ps) = rw (find-own (key n f name) b, filled-own n b ps) refl
filled-own n b (other ∷ ps) = rw (filled-own n b ps) refl

written-own : (b : Book) (c : Call) → written_in (own (bench_of c) b) c ≡ written_in b c
unfolding written_in
written-own b (add k a) = refl
written-own b (remove k) = refl
written-own b (look k) = refl
written-own b (fill n m given) = filled-own n b m.places
written-own b (count n) = refl
written-own b (list n given) = rw (own-own n b) refl

value-own : (b : Book) (c : Call) → value_in (own (bench_of c) b) c ≡ value_in b c
unfolding value_in
value-own b (add k a) = refl
value-own b (remove k) = refl
value-own b (look k) = rw (find-own k b) refl
value-own b (fill n m given) = refl
value-own b (count n) = rw (own-own n b) refl
value-own b (list n given) = refl

-- and so it is answered
pub answer-own : (taken : ℕ) (b : Book) (c : Call) → answer_in (seen taken c) (own (bench_of c) b) c ≡ answer_in taken b c
unfolding answer_in number_in memory_in
answer-own taken b c = rw (check-own taken b c, written-own b c, value-own b c) refl

-- what it leaves among the bench's own rows
own-applied : (b : Book) (c : Call) → Ordered b → own (bench_of c) (applied c b) ≡ applied c (own (bench_of c) b)
unfolding applied
own-applied b (add k a) o = own_put k a b o
own-applied b (remove k) o = own-delete k b
own-applied b (look k) o = refl
own-applied b (fill n m given) o = refl
own-applied b (count n) o = refl
own-applied b (list n given) o = refl

-- and among another's
other-applied : (n : ℕ) (b : Book) (c : Call) → eqb (bench_of c) n ≡ false → own n (applied c b) ≡ own n b
unfolding applied
other-applied n b (add k a) h = put_other n k a b h
other-applied n b (remove k) h = delete-other n k b h
other-applied n b (look k) h = refl
other-applied n b (fill m p given) h = refl
other-applied n b (count m) h = refl
other-applied n b (list m given) h = refl

by-check : (n : ℕ) (v : Verdict) (x b y : Book) → own n x ≡ y → own n (if_accepted v x b) ≡ if_accepted v y (own n b)
by-check n (Ok tt) x b y e = e
by-check n (Err r) x b y e = refl

by-none : (n : ℕ) (v : Verdict) (x b : Book) → own n x ≡ own n b → own n (if_accepted v x b) ≡ own n b
by-none n (Ok tt) x b e = e
by-none n (Err r) x b e = refl

pub after-own : (taken : ℕ) (b : Book) (c : Call) → Ordered b → own (bench_of c) (after_in taken b c) ≡ after_in (seen taken c) (own (bench_of c) b) c
unfolding after_in
after-own taken b c o =
    by-check (bench_of c) (call_check taken b c) (applied c b) b (applied c (own (bench_of c) b)) (own-applied b c o)
    ∙ ap (λ (v : Verdict). if_accepted v (applied c (own (bench_of c) b)) (own (bench_of c) b)) (sym (check-own taken b c))

-- a bench's calls change none of another's rows
pub after-other : (n taken : ℕ) (b : Book) (c : Call) → eqb (bench_of c) n ≡ false → own n (after_in taken b c) ≡ own n b
unfolding after_in
after-other n taken b c h = by-none n (call_check taken b c) (applied c b) b (other-applied n b c h)

-- a book stays in order
ordered-applied : (b : Book) (c : Call) → Ordered b → Ordered (applied c b)
unfolding applied
ordered-applied b (add k a) o = ordered-put k a b o
ordered-applied b (remove k) o = ordered-delete k b o
ordered-applied b (look k) o = o
ordered-applied b (fill n m given) o = o
ordered-applied b (count n) o = o
ordered-applied b (list n given) o = o

kept : (v : Verdict) (x b : Book) → Ordered x → Ordered b → Ordered (if_accepted v x b)
kept (Ok tt) x b h k = h
kept (Err r) x b h k = k

pub ordered-after : (b : Book) (c : Call) → Ordered b → Ordered (after b c)
unfolding after_in
ordered-after b c o = kept (call_check (length b) b c) (applied c b) b (ordered-applied b c o) o

pub ordered-run : (cs : List Call) (b : Book) → Ordered b → Ordered (run cs b)
unfolding run
ordered-run [] b o = o
ordered-run (c ∷ cs) b o = ordered-run cs (after b c) (ordered-after b c o)

-- ---- lists of calls

-- whatever the other bench does, a bench is answered from its own rows
pub answers-own : (n : ℕ) (cs : List Call) (b : Book) → Ordered b → pick n cs (answers cs b) ≡ own_answers (seen_by n cs b) (own n b)
unfolding pick answers seen_by own_answers
answers-own n [] b o = refl
answers-own n (c ∷ cs) b o =
    cases (eqb (bench_of c) n)
    (λ t.
    let e : bench_of c ≡ n = eqb-true (bench_of c) n t in
    let first : answer_in (seen (length b) c) (own n b) c ≡ answer_of b c = rw (← e) (answer-own (length b) b c) in
    let next : own n (after b c) ≡ after_in (seen (length b) c) (own n b) c = rw (← e) (after-own (length b) b c o) in
    rw (t, first, ← next, answers-own n cs (after b c) (ordered-after b c o)) refl)
    (λ t. rw (t, ← after-other n (length b) b c t) (answers-own n cs (after b c) (ordered-after b c o)))

-- and its own rows are those that its calls leave among them
pub run-own : (n : ℕ) (cs : List Call) (b : Book) → Ordered b → own n (run cs b) ≡ own_run (seen_by n cs b) (own n b)
unfolding run seen_by own_run
run-own n [] b o = refl
run-own n (c ∷ cs) b o =
    cases (eqb (bench_of c) n)
    (λ t.
    let e : bench_of c ≡ n = eqb-true (bench_of c) n t in
    let next : own n (after b c) ≡ after_in (seen (length b) c) (own n b) c = rw (← e) (after-own (length b) b c o) in
    rw t (run-own n cs (after b c) (ordered-after b c o) ∙ ap (own_run (seen_by n cs (after b c))) next))
    (λ t. rw (t, ← after-other n (length b) b c t) (run-own n cs (after b c) (ordered-after b c o)))

-- ---- two points

-- where a bench's rows are the same, its next call is answered alike and leaves the same rows of it; an addition where as many rows are taken
pub alike : (c : Call) (x y : Book) → own (bench_of c) x ≡ own (bench_of c) y → seen (length x) c ≡ seen (length y) c → answer_of x c ≡ answer_of y c
alike c x y e t = sym (answer-own (length x) x c) ∙ rw (e, t) (answer-own (length y) y c)

pub alike-after : (c : Call) (x y : Book) → Ordered x → Ordered y → own (bench_of c) x ≡ own (bench_of c) y → seen (length x) c ≡ seen (length y) c → own (bench_of c) (after x c) ≡ own (bench_of c) (after y c)
alike-after c x y o p e t = after-own (length x) x c o ∙ rw (e, t) (sym (after-own (length y) y c p))

-- ---- two lists

-- two lists from the empty table in which bench n's calls are the same, whatever the other bench does, with as many rows taken
-- at each addition of n: n is answered alike throughout, and its rows are the same at the end
pub answers-alike : (n : ℕ) (cs ds : List Call) → seen_by n cs [] ≡ seen_by n ds [] → pick n cs (answers cs []) ≡ pick n ds (answers ds [])
answers-alike n cs ds e =
    answers-own n cs [] tt ∙ ap (λ (s : List Seen). own_answers s (own n [])) e ∙ sym (answers-own n ds [] tt)

pub rows_alike : (n : ℕ) (cs ds : List Call) → seen_by n cs [] ≡ seen_by n ds [] → own n (run cs []) ≡ own n (run ds [])
rows_alike n cs ds e =
    run-own n cs [] tt ∙ ap (λ (s : List Seen). own_run s (own n [])) e ∙ sym (run-own n ds [] tt)

-- ---- two lists in which bench n never finds the table full

-- where not all rows are taken, their number does not matter
check-below : (taken : ℕ) (b : Book) (c : Call) → taken < row_limit → call_check taken b c ≡ call_check 0 b c
unfolding call_check
check-below taken b (add k a) h = rw (ne_eqb taken row_limit (λ e. omega arith)) refl
check-below taken b (remove k) h = refl
check-below taken b (look k) h = refl
check-below taken b (fill n m given) h = refl
check-below taken b (count n) h = refl
check-below taken b (list n given) h = refl

answer-below : (taken : ℕ) (b : Book) (c : Call) → taken < row_limit → answer_in taken b c ≡ answer_in 0 b c
unfolding answer_in number_in memory_in
answer-below taken b c h = rw (check-below taken b c h) refl

after-below : (taken : ℕ) (b : Book) (c : Call) → taken < row_limit → after_in taken b c ≡ after_in 0 b c
unfolding after_in
after-below taken b c h = rw (check-below taken b c h) refl

-- calls as they are seen where the table is not full
below : List Call → List Seen
below [] = []
below (c ∷ cs) = record { call = c; taken = 0 } ∷ below cs

calls_seen : (ss : List Seen) → List Call
calls_seen [] = []
calls_seen (s ∷ ss) = s.call ∷ calls_seen ss

answers-below : (ss : List Seen) (b : Book) → NeverFull ss → own_answers ss b ≡ own_answers (below (calls_seen ss)) b
unfolding own_answers below calls_seen
answers-below [] b h = refl
answers-below (s ∷ ss) b h =
    rw (answer-below s.taken b s.call h.0, after-below s.taken b s.call h.0, answers-below ss (after_in 0 b s.call) h.1) refl

seen-calls : (n : ℕ) (cs : List Call) (b : Book) → calls_seen (seen_by n cs b) ≡ calls_by n cs
unfolding calls_seen seen_by calls_by
seen-calls n [] b = refl
seen-calls n (c ∷ cs) b =
    cases (eqb (bench_of c) n)
    (λ t. rw (t, seen-calls n cs (after b c)) refl)
    (λ t. rw t (seen-calls n cs (after b c)))

-- two lists from the empty table in which bench n's calls are the same, and none of its additions finds 512 rows taken: n is
-- answered alike
pub never-full-alike : (n : ℕ) (cs ds : List Call) → calls_by n cs ≡ calls_by n ds → NeverFull (seen_by n cs []) → NeverFull (seen_by n ds []) → pick n cs (answers cs []) ≡ pick n ds (answers ds [])
never-full-alike n cs ds e p q =
    let x = answers-own n cs [] tt ∙ answers-below (seen_by n cs []) (own n []) p ∙ ap (λ (l : List Call). own_answers (below l) (own n [])) (seen-calls n cs []) in
    let y = answers-own n ds [] tt ∙ answers-below (seen_by n ds []) (own n []) q ∙ ap (λ (l : List Call). own_answers (below l) (own n [])) (seen-calls n ds []) in
    x ∙ ap (λ (l : List Call). own_answers (below l) (own n [])) e ∙ sym y
