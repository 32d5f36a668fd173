-- Request 6: FULL exactly where 512 rows are taken and the row is new; a removed row is used again. Assumes nothing.
use mathlib.Core.Path.{◌≡◌, refl, sym, ◌∙◌, ap}
use mathlib.Core.Bool.{Bool, true, false, cond, ◌&&◌}
use mathlib.Core.List.{List, [], ◌∷◌}
use Prim.Native.Nat.{ℕ, suc, ◌≤◌}
use native.Mathlib.Omega.{arith}
use lib.Dec.{eqb}
use lib.ListN.{length}
use borrow.Author.Tests.{eqb-true, eqb-false, eq-eqb, ne_eqb}
use Rattle.word.proofs.Test.{and_first, and_second}
use Rattle.refusal.specs.declared.Refusal.{Refusal}
use Rattle.refusal.specs.declared.Refusal.TheVariants as refusal
use Rattle.refusal.specs.Order.{refuse_if, if_accepted}
use Rattle.refusal.proofs.Order.{accepted-rest, accepted-test}
use Rattle.address_book.specs.Book.{Key, Book, Entry, none, at, same_key, key_before, find, put, delete}
use Rattle.address_book.specs.Call.{Call, add, remove, look, fill, count, list, is_none, row_limit, key_check, call_check, check_of, applied, after_in, after}
use Rattle.address_book.specs.Run.{run}
use Rattle.address_book.proofs.Order.{cases, same_key_lem, same-key-sym, before-other, behind, before-not-before}
use Rattle.address_book.proofs.Laws.{Ordered, From}
use Rattle.address_book.proofs.Apart.{ordered-after}
use Rattle.std.specs.Prelude.{Err, Ok}
use Rattle.refusal.specs.Verdict.{Verdict}

-- ---- what is found after a change, and how many rows there are

-- no row is found where all are behind
find-before : (k : Key) (b : Book) (l : Key) → key_before k l ≡ true → From l b → find b k ≡ none
unfolding find
find-before k [] l h f = refl
find-before k (x ∷ xs) l h f =
    rw (before-other k x.row_key (before-not-before k l x.row_key h f.0)) (find-before k xs l h f.1)

-- an addition's row is found at its address, and every other as before
pub find-put : (k l : Key) (a : ℕ) (b : Book) → find (put k a b) l ≡ cond (same_key k l) (at a) (find b l)
unfolding find put
find-put k l a [] = rw (same-key-sym l k) refl
find-put k l a (r ∷ rs) =
    cases (key_before r.row_key k)
    (λ t.
    rw (t, find-put k l a rs)
    (cases (same_key l r.row_key)
    (λ s. let e : l ≡ r.row_key = same_key_lem l r.row_key s in rw (s, e, same-key-sym k r.row_key ∙ before-other r.row_key k t) refl)
    (λ s. rw s refl)))
    (λ t.
    cases (same_key k r.row_key)
    (λ s.
    let e : r.row_key ≡ k = sym (same_key_lem k r.row_key s) in
    rw (t, s, same-key-sym l k, e, same-key-sym l k) (cases (same_key k l) (λ u. rw u refl) (λ u. rw u refl)))
    (λ s. rw (t, s, same-key-sym l k) refl))

pub length-put : (k : Key) (a : ℕ) (b : Book) → Ordered b → length (put k a b) ≡ cond (is_none (find b k)) (suc (length b)) (length b)
unfolding find put
length-put k a [] o = refl
length-put k a (r ∷ rs) o =
    cases (key_before r.row_key k)
    (λ t.
    rw (t, same-key-sym k r.row_key ∙ before-other r.row_key k t, length-put k a rs o.1)
    (cases (is_none (find rs k)) (λ u. rw u refl) (λ u. rw u refl)))
    (λ t.
    cases (same_key k r.row_key)
    (λ s. rw (t, s) refl)
    (λ s.
    let later = behind r.row_key k (same-key-sym r.row_key k ∙ s) t in
    rw (t, s, find-before k rs r.row_key later o.0) refl))

pub length-delete : (k : Key) (b : Book) → is_none (find b k) ≡ false → suc (length (delete k b)) ≡ length b
unfolding find delete
length-delete k [] h = cc
length-delete k (r ∷ rs) h =
    cases (same_key k r.row_key)
    (λ s. rw (s) refl)
    (λ s. let later : is_none (find rs k) ≡ false = rw s at h in rw (s) (ap suc (length-delete k rs later)))

-- ---- never more than 512

-- the row of an accepted removal is there
pub present : (k : Key) (taken : ℕ) (b : Book) → call_check taken b (remove k) ≡ Ok tt → is_none (find b k) ≡ false
unfolding call_check
present k taken b e = accepted-test (is_none (find b k)) refusal.Absent (accepted-rest (key_check k) (refuse_if (is_none (find b k)) refusal.Absent) e)

few-applied : (b : Book) (c : Call) → Ordered b → length b ≤ row_limit → check_of b c ≡ Ok tt → length (applied c b) ≤ row_limit
unfolding applied call_check
few-applied b (add k a) o h e =
    let open_row = accepted-test (is_none (find b k) && eqb (length b) row_limit) refusal.Full (accepted-rest (key_check k) (refuse_if (is_none (find b k) && eqb (length b) row_limit) refusal.Full) e) in
    rw (length-put k a b o)
    (cases (is_none (find b k))
    (λ t. let free : eqb (length b) row_limit ≡ false = rw t at open_row in rw t (omega (arith, eqb-false (length b) row_limit free)))
    (λ t. rw t h))
few-applied b (remove k) o h e = let there = length-delete k b (present k (length b) b e) in omega arith
few-applied b (look k) o h e = h
few-applied b (fill n m given) o h e = h
few-applied b (count n) o h e = h
few-applied b (list n given) o h e = h

few-kept : (v : Verdict) (x b : Book) → (v ≡ Ok tt → length x ≤ row_limit) → length b ≤ row_limit → length (if_accepted v x b) ≤ row_limit
few-kept (Ok tt) x b h k = h refl
few-kept (Err r) x b h k = k

pub few-after : (b : Book) (c : Call) → Ordered b → length b ≤ row_limit → length (after b c) ≤ row_limit
unfolding after_in
few-after b c o h = few-kept (check_of b c) (applied c b) b (few-applied b c o h) h

pub few-rows : (cs : List Call) (b : Book) → Ordered b → length b ≤ row_limit → length (run cs b) ≤ row_limit
unfolding run
few-rows [] b o h = h
few-rows (c ∷ cs) b o h = few-rows cs (after b c) (ordered-after b c o) (few-after b c o h)

-- ---- FULL

-- exactly where 512 rows are taken and the row is new, for a bench and a name that are taken
pub full-where : (k : Key) (a taken : ℕ) (b : Book) → key_check k ≡ Ok tt → find b k ≡ none → taken ≡ row_limit → call_check taken b (add k a) ≡ Err refusal.Full
unfolding call_check
full-where k a taken b v e h = rw (v, e, eq-eqb taken row_limit h) refl

-- a test that refuses for this cause holds
refused-test : (t : Bool) → refuse_if t refusal.Full ≡ Err refusal.Full → t ≡ true
refused-test true e = refl
refused-test false e = cc

entry-none : (e : Entry) → is_none e ≡ true → e ≡ none
entry-none none h = refl
entry-none (at a) h = cc

pub full-only : (k : Key) (a taken : ℕ) (b : Book) → key_check k ≡ Ok tt → call_check taken b (add k a) ≡ Err refusal.Full → (find b k ≡ none) × (taken ≡ row_limit)
unfolding call_check
full-only k a taken b v e =
    let both : (is_none (find b k) && eqb taken row_limit) ≡ true = refused-test (is_none (find b k) && eqb taken row_limit) (rw v at e) in
    (entry-none (find b k) (and_first (is_none (find b k)) (eqb taken row_limit) both), eqb-true taken row_limit (and_second (is_none (find b k)) (eqb taken row_limit) both))

-- ---- a removed row is used again

-- after an accepted removal an addition of any good key is accepted
pub used-again : (b : Book) (k l : Key) (a : ℕ) → length b ≤ row_limit → check_of b (remove k) ≡ Ok tt → key_check l ≡ Ok tt → check_of (after b (remove k)) (add l a) ≡ Ok tt
unfolding call_check after_in applied
used-again b k l a h e v =
    let there = length-delete k b (present k (length b) b e) in
    let left : length (delete k b) ≡ row_limit → ⊥ = λ x. omega arith in
    rw (e, v, ne_eqb (length (delete k b)) row_limit left) (cases (is_none (find (delete k b) l)) (λ t. rw t refl) (λ t. rw t refl))

-- ---- the order of refusals

-- INDEX and LONG come before FULL and ABSENT, whatever the rows are
pub key-first : (k : Key) (a taken : ℕ) (b : Book) (x : Refusal) → key_check k ≡ Err x → (call_check taken b (add k a) ≡ Err x) × (call_check taken b (remove k) ≡ Err x) × (call_check taken b (look k) ≡ Err x)
unfolding call_check
key-first k a taken b x e = (rw e refl, rw e refl, rw e refl)
