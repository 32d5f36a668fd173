-- Request 6 for the table's memory: a call leaves the book's rows, and every list of calls from the empty table is the book's. Assumes nothing.
use mathlib.Core.Path.{◌≡◌, refl, sym, ◌∙◌, ap}
use mathlib.Core.Bool.{Bool, true, false, ◌&&◌}
use mathlib.Core.List.{List, [], ◌∷◌, ◌++◌}
use Prim.Native.Nat.{ℕ, ◌+◌, ◌-◌, ◌*◌, ◌≤◌, ◌<◌}
use native.Mathlib.Omega.{arith}
use borrow.Author.Tests.{eqb-false, ltb-true, ltb-false}
use lib.Dec.{eqb, ltb}
use lib.ListN.{length, take, drop, replicate, length-set, length-replicate}
use lib.Seq.{sets, length-sets}
use Rattle.refusal.specs.declared.Refusal.TheVariants as refusal
use Rattle.refusal.specs.Order.{refuse_if, if_accepted}
use Rattle.refusal.proofs.Order.{accepted-first, accepted-rest, accepted-test}
use Rattle.update.specs.Update.{Bytes}
use Rattle.address_book.specs.Book.{Key, Book, none, find, own, sorted}
use Rattle.address_book.specs.Call.{Call, add, remove, look, fill, count, list, Answer, is_none, row_limit, bench_of, key_check, call_check, check_of, applied, after_in, after, answer_of}
use Rattle.address_book.specs.Run.{run, answers, pick, calls_by, seen, seen_by, NeverFull}
use Rattle.address_book.proofs.Order.{cases}
use Rattle.address_book.proofs.Laws.{Ordered, ordered-sorted}
use Rattle.address_book.proofs.Apart.{after-other, alike, alike-after, answers-alike, rows_alike, never-full-alike}
use Rattle.address_book.proofs.Full.{present, used-again}
use Rattle.address_row.specs.Words.{key_words}
use Rattle.address_row.proofs.Good.{good-key}
use Rattle.address_table.specs.Table.{taken_in, rows_by, rows_in, book_of, empty_table, place_in, with_address, with_row, without_row, contents_applied, contents_after}
use Rattle.address_table.specs.Run.{contents_run, contents_answers, ByteName, ByteNames}
use Rattle.address_table.proofs.Memory.{taken-few, length-book, look_none, book-address, book-row, book-without}
use Rattle.std.specs.Prelude.{Err, Ok}
use Rattle.refusal.specs.Verdict.{Verdict}

-- ---- one call

length-applied : (c : Call) (m : List ℕ) → length (contents_applied c m) ≡ length m
unfolding contents_applied with_address with_row without_row
length-applied (add k a) m =
    cases (ltb (place_in m k) (taken_in m))
    (λ t. rw t (length-set m (place_in m k * 8 + 7) a))
    (λ t. rw t (length-set (sets m (taken_in m * 8) (key_words k ++ (a ∷ []))) 4096 (taken_in m + 1) ∙ length-sets m (taken_in m * 8) (key_words k ++ (a ∷ []))))
length-applied (remove k) m =
    length-set (sets m (place_in m k * 8) (take (taken_in m * 8 - 8 - place_in m k * 8) (drop (place_in m k * 8 + 8) m) ++ replicate 8 0)) 4096 (taken_in m - 1)
    ∙ length-sets m (place_in m k * 8) (take (taken_in m * 8 - 8 - place_in m k * 8) (drop (place_in m k * 8 + 8) m) ++ replicate 8 0)
length-applied (look k) m = refl
length-applied (fill n p given) m = refl
length-applied (count n) m = refl
length-applied (list n given) m = refl

by_length : (v : Verdict) (x m : List ℕ) → length x ≡ length m → length (if_accepted v x m) ≡ length m
by_length (Ok tt) x m e = e
by_length (Err r) x m e = refl

length-after : (m : List ℕ) (c : Call) → length (contents_after m c) ≡ length m
unfolding contents_after
length-after m c = by_length (check_of (book_of m) c) (contents_applied c m) m (length-applied c m)

-- a key that is found has a row in the memory
there : (m : List ℕ) (k : Key) → key_check k ≡ Ok tt → Bytes k.name → is_none (find (book_of m) k) ≡ false → place_in m k < taken_in m
there m k v b h =
    cases (ltb (place_in m k) (taken_in m))
    (λ t. ltb-true (place_in m k) (taken_in m) t)
    (λ t.
    let e : is_none (find (book_of m) k) ≡ true = ap is_none (look_none k (good-key k v b) m (ltb-false (place_in m k) (taken_in m) t)) in
    let z : ◌≡◌ {A = Bool} true false = sym e ∙ h in
    let w : ◌≡◌ {A = ℕ} 0 1 = cc in
    absurd (omega arith))

-- an accepted addition of a new row finds a free one
free : (m : List ℕ) (k : Key) (a : ℕ) → check_of (book_of m) (add k a) ≡ Ok tt → find (book_of m) k ≡ none → taken_in m < 512
unfolding call_check
free m k a v e =
    let open_row = accepted-test (is_none (find (book_of m) k) && eqb (length (book_of m)) row_limit) refusal.Full (accepted-rest (key_check k) (refuse_if (is_none (find (book_of m) k) && eqb (length (book_of m)) row_limit) refusal.Full) v) in
    let few : eqb (length (book_of m)) row_limit ≡ false = rw e at open_row in
    let d = eqb-false (length (book_of m)) row_limit few in
    let l = length-book m in
    let t = taken-few m in
    omega arith

add-good : (m : List ℕ) (k : Key) (a : ℕ) → check_of (book_of m) (add k a) ≡ Ok tt → key_check k ≡ Ok tt
unfolding call_check
add-good m k a v = accepted-first (key_check k) (refuse_if (is_none (find (book_of m) k) && eqb (length (book_of m)) row_limit) refusal.Full) v

remove-good : (m : List ℕ) (k : Key) → check_of (book_of m) (remove k) ≡ Ok tt → key_check k ≡ Ok tt
unfolding call_check
remove-good m k v = accepted-first (key_check k) (refuse_if (is_none (find (book_of m) k)) refusal.Absent) v

book-applied : (m : List ℕ) (c : Call) → length m ≡ 4097 → ByteName c → check_of (book_of m) c ≡ Ok tt → book_of (contents_applied c m) ≡ applied c (book_of m)
unfolding contents_applied applied
book-applied m (add k a) size b v =
    let good = good-key k (add-good m k a v) b in
    cases (ltb (place_in m k) (taken_in m))
    (λ t. rw t (book-address k good m a size (ltb-true (place_in m k) (taken_in m) t)))
    (λ t.
    let past = ltb-false (place_in m k) (taken_in m) t in
    rw t (book-row k good m a size (free m k a v (look_none k good m past)) past))
book-applied m (remove k) size b v =
    let key-good = remove-good m k v in
    book-without k (good-key k key-good b) m size (there m k key-good b (present k (length (book_of m)) (book_of m) v))
book-applied m (look k) size b v = refl
book-applied m (fill n p given) size b v = refl
book-applied m (count n) size b v = refl
book-applied m (list n given) size b v = refl

by-check : (v : Verdict) (x m : List ℕ) (y : Book) → (v ≡ Ok tt → book_of x ≡ y) → book_of (if_accepted v x m) ≡ if_accepted v y (book_of m)
by-check (Ok tt) x m y h = h refl
by-check (Err r) x m y h = refl

-- a call leaves in the memory the rows that it leaves in the book
pub book-after : (m : List ℕ) (c : Call) → length m ≡ 4097 → ByteName c → book_of (contents_after m c) ≡ after (book_of m) c
unfolding contents_after after_in
book-after m c size b = by-check (check_of (book_of m) c) (contents_applied c m) m (applied c (book_of m)) (book-applied m c size b)

-- ---- lists of calls on any contents

pub book-run : (cs : List Call) (m : List ℕ) → length m ≡ 4097 → ByteNames cs → book_of (contents_run cs m) ≡ run cs (book_of m)
unfolding contents_run run
book-run [] m size b = refl
book-run (c ∷ cs) m size b = book-run cs (contents_after m c) (length-after m c ∙ size) b.1 ∙ ap (run cs) (book-after m c size b.0)

pub book-answers : (cs : List Call) (m : List ℕ) → length m ≡ 4097 → ByteNames cs → contents_answers cs m ≡ answers cs (book_of m)
unfolding contents_answers answers
book-answers [] m size b = refl
book-answers (c ∷ cs) m size b =
    ap (λ (l : List Answer). answer_of (book_of m) c ∷ l) (book-answers cs (contents_after m c) (length-after m c ∙ size) b.1 ∙ ap (answers cs) (book-after m c size b.0))

-- ---- from the empty table

pub empty-book : book_of empty_table ≡ []
unfolding book_of rows_in taken_in rows_by sorted
empty-book = refl

whole : length empty_table ≡ 4097
whole = length-replicate {0} {A = ℕ} 4097 0

-- every list of calls from the empty table leaves the plain book's rows, and is answered as by the plain book
pub table-rows : (cs : List Call) → ByteNames cs → book_of (contents_run cs empty_table) ≡ run cs []
table-rows cs b = book-run cs empty_table whole b ∙ ap (run cs) empty-book

pub table-answers : (cs : List Call) → ByteNames cs → contents_answers cs empty_table ≡ answers cs []
table-answers cs b = book-answers cs empty_table whole b ∙ ap (answers cs) empty-book

-- any contents are a book in order
ordered-book : (m : List ℕ) → Ordered (book_of m)
unfolding book_of
ordered-book m = ordered-sorted (rows_in m)

-- non-interference: at two points that two lists of calls reach, where the rows of a call's bench are the same, the call is answered
-- alike and leaves the same rows of that bench; an addition where as many rows are taken
pub benches-apart : (cs ds : List Call) (c : Call) → ByteName c → own (bench_of c) (book_of (contents_run cs empty_table)) ≡ own (bench_of c) (book_of (contents_run ds empty_table)) → seen (length (book_of (contents_run cs empty_table))) c ≡ seen (length (book_of (contents_run ds empty_table))) c → answer_of (book_of (contents_run cs empty_table)) c ≡ answer_of (book_of (contents_run ds empty_table)) c
benches-apart cs ds c b e t = alike c (book_of (contents_run cs empty_table)) (book_of (contents_run ds empty_table)) e t

run_length : (cs : List Call) (m : List ℕ) → length (contents_run cs m) ≡ length m
unfolding contents_run
run_length [] m = refl
run_length (c ∷ cs) m = run_length cs (contents_after m c) ∙ length-after m c

pub benches-rows : (cs ds : List Call) (c : Call) → ByteName c → own (bench_of c) (book_of (contents_run cs empty_table)) ≡ own (bench_of c) (book_of (contents_run ds empty_table)) → seen (length (book_of (contents_run cs empty_table))) c ≡ seen (length (book_of (contents_run ds empty_table))) c → own (bench_of c) (book_of (contents_after (contents_run cs empty_table) c)) ≡ own (bench_of c) (book_of (contents_after (contents_run ds empty_table) c))
benches-rows cs ds c b e t =
    let x = contents_run cs empty_table in
    let y = contents_run ds empty_table in
    ap (own (bench_of c)) (book-after x c (run_length cs empty_table ∙ whole) b)
    ∙ alike-after c (book_of x) (book_of y) (ordered-book x) (ordered-book y) e t
    ∙ sym (ap (own (bench_of c)) (book-after y c (run_length ds empty_table ∙ whole) b))

-- a call of another bench changes none of bench n's rows
pub other-bench-rows : (n : ℕ) (cs : List Call) (c : Call) → ByteName c → eqb (bench_of c) n ≡ false → own n (book_of (contents_after (contents_run cs empty_table) c)) ≡ own n (book_of (contents_run cs empty_table))
other-bench-rows n cs c b h =
    let x = contents_run cs empty_table in
    ap (own n) (book-after x c (run_length cs empty_table ∙ whole) b) ∙ after-other n (length (book_of x)) (book_of x) c h

-- two lists with the same calls of bench n, and as many rows taken at each of its additions, answer n alike throughout
pub lists-alike : (n : ℕ) (cs ds : List Call) → ByteNames cs → ByteNames ds → seen_by n cs [] ≡ seen_by n ds [] → pick n cs (contents_answers cs empty_table) ≡ pick n ds (contents_answers ds empty_table)
lists-alike n cs ds b d e =
    ap (pick n cs) (table-answers cs b) ∙ answers-alike n cs ds e ∙ sym (ap (pick n ds) (table-answers ds d))

-- and leave it the same rows
pub lists-rows : (n : ℕ) (cs ds : List Call) → ByteNames cs → ByteNames ds → seen_by n cs [] ≡ seen_by n ds [] → own n (book_of (contents_run cs empty_table)) ≡ own n (book_of (contents_run ds empty_table))
lists-rows n cs ds b d e =
    ap (own n) (table-rows cs b) ∙ rows_alike n cs ds e ∙ sym (ap (own n) (table-rows ds d))

-- the same where none of n's additions finds 512 rows taken
pub lists-never-full : (n : ℕ) (cs ds : List Call) → ByteNames cs → ByteNames ds → calls_by n cs ≡ calls_by n ds → NeverFull (seen_by n cs []) → NeverFull (seen_by n ds []) → pick n cs (contents_answers cs empty_table) ≡ pick n ds (contents_answers ds empty_table)
lists-never-full n cs ds b d e p q =
    ap (pick n cs) (table-answers cs b) ∙ never-full-alike n cs ds e p q ∙ sym (ap (pick n ds) (table-answers ds d))

-- a removed row is used again: right after an accepted removal an addition of any good key is accepted
pub row-used-again : (cs : List Call) (k l : Key) (a : ℕ) → Bytes k.name → check_of (book_of (contents_run cs empty_table)) (remove k) ≡ Ok tt → key_check l ≡ Ok tt → check_of (book_of (contents_after (contents_run cs empty_table) (remove k))) (add l a) ≡ Ok tt
row-used-again cs k l a b v w =
    let x = contents_run cs empty_table in
    let few : length (book_of x) ≤ row_limit = rw (length-book x) (taken-few x) in
    ap (λ (y : Book). check_of y (add l a)) (book-after x (remove k) (run_length cs empty_table ∙ whole) b) ∙ used-again (book_of x) k l a few v w
