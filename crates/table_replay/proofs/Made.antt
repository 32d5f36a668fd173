-- What one call of a script answers and leaves. Assumes nothing.
use mathlib.Core.Path.{◌≡◌, refl, sym, ◌∙◌, ap}
use mathlib.Core.Bool.{true, cond}
use mathlib.Core.List.{List}
use Prim.Native.Nat.{ℕ, ◌+◌, ◌≤◌, ◌<◌}
use native.Mathlib.Omega.{arith}
use borrow.Author.Tests.{eq-eqb, ne_eqb, lt-ltb, le-ltb, ltb-true, ltb-false}
use lib.Dec.{eqb, ltb}
use lib.ListN.{length, get_or, take, replicate}
use lib.Seq.{sets}
use Rattle.refusal.specs.declared.Refusal.TheVariants as refusal
use Rattle.refusal.specs.Refusal.{is_refused}
use Rattle.refusal.specs.Order.{◌or_else◌, by_verdict, if_accepted}
use Rattle.refusal.proofs.Order.{stop}
use Rattle.address_book.specs.Book.{Key, key, Book}
use Rattle.address_book.specs.Call.{Places, Call, add, remove, look, fill, bench_check, key_check, call_check, check_of, value_in, number_in, number_of, memory_in}
use Rattle.address_book.proofs.Order.{cases}
use Rattle.address_table.specs.Table.{book_of, contents_applied, contents_after}
use Rattle.address_table.specs.Run.{ByteName}
use Rattle.table_replay.specs.Script.{name_length, bytes_at, key_at, row_call, call_at}
use Rattle.table_replay.specs.Answer.{list_after}
use Rattle.table_replay.proofs.Names.{bytes-name, length-name, stored-front}
use Rattle.std.specs.Prelude.{Err, Ok, Result}
use Rattle.refusal.specs.declared.Refusal.{Refusal}
use Rattle.refusal.specs.Verdict.{Verdict}

-- a call on a table m is answered by r, and leaves o
abbrev pub Made : List ℕ → List ℕ → Call → Result ℕ Refusal → Type 0
Made m o c r = (r ≡ number_of (book_of m) c) × (o ≡ contents_after m c)

by_call : (m : List ℕ) {o : List ℕ} {r : Result ℕ Refusal} {c d : Call} → c ≡ d → Made m o c r → Made m o d r
by_call m e h = (h.0 ∙ ap (number_of (book_of m)) e, h.1 ∙ ap (contents_after m) e)

-- ---- the calls by their kind

added : (k : ℕ) (y : Key) (a : ℕ) → k ≡ 0 → add y a ≡ row_call k y a
unfolding row_call
added k y a e = rw (eq-eqb k 0 e) refl

removed : (k : ℕ) (y : Key) (a : ℕ) → (k ≡ 0 → ⊥) → k ≡ 1 → remove y ≡ row_call k y a
unfolding row_call
removed k y a z e = rw (ne_eqb k 0 z, eq-eqb k 1 e) refl

looked : (k : ℕ) (y : Key) (a : ℕ) → (k ≡ 0 → ⊥) → (k ≡ 1 → ⊥) → look y ≡ row_call k y a
unfolding row_call
looked k y a z e = rw (ne_eqb k 0 z, ne_eqb k 1 e) refl

-- what a verdict leaves where it writes what was there
same_left : (v : Verdict) (m : List ℕ) → m ≡ if_accepted v m m
same_left (Ok tt) m = refl
same_left (Err x) m = refl

module _ (m : List ℕ) (k : ℕ) (y : Key) (a : ℕ) where
  pub made-add : {o : List ℕ} {v : Verdict} {r : Result ℕ Refusal} → k ≡ 0 → v ≡ check_of (book_of m) (add y a) → r ≡ by_verdict v (Ok 0) Err → o ≡ contents_after m (add y a) → Made m o (row_call k y a) r
  unfolding number_in value_in
  made-add z e n h = by_call m (added k y a z) (n ∙ ap (λ (v : Verdict). by_verdict v (Ok 0) Err) e, h)

  pub made-remove : {o : List ℕ} {v : Verdict} {r : Result ℕ Refusal} → (k ≡ 0 → ⊥) → k ≡ 1 → v ≡ check_of (book_of m) (remove y) → r ≡ by_verdict v (Ok 0) Err → o ≡ contents_after m (remove y) → Made m o (row_call k y a) r
  unfolding number_in value_in
  made-remove z w e n h = by_call m (removed k y a z w) (n ∙ ap (λ (v : Verdict). by_verdict v (Ok 0) Err) e, h)

  pub made-look : {r : Result ℕ Refusal} → (k ≡ 0 → ⊥) → (k ≡ 1 → ⊥) → r ≡ number_of (book_of m) (look y) → Made m m (row_call k y a) r
  unfolding contents_after contents_applied
  made-look z w n = by_call m (looked k y a z w) (n, same_left (check_of (book_of m) (look y)) m)

-- ---- names of more than 32 bytes are refused alike

refused-long : (v : Verdict) → is_refused (v or_else Err refusal.Long) ≡ true
refused-long (Ok tt) = refl
refused-long (Err x) = refl

long-key : (n f : ℕ) (a : List ℕ) → 32 < length a → key_check (key n f a) ≡ (bench_check n or_else Err refusal.Long)
unfolding key_check
long-key n f a h = rw (ne_eqb (length a) 0 (λ e. omega arith), lt-ltb 32 (length a) h) refl

told-alike : {v w : Verdict} (x y : ℕ) → v ≡ w → is_refused w ≡ true → by_verdict v (Ok x) Err ≡ by_verdict w (Ok y) Err
told-alike {v} {w} x y e h = ap (λ (u : Verdict). by_verdict u (Ok x) Err) e ∙ by-verdict w h
  where
    by-verdict : (w : Verdict) → is_refused w ≡ true → by_verdict w (Ok x) Err ≡ by_verdict w (Ok y) Err
    by-verdict (Ok tt) h = cc
    by-verdict (Err z) h = refl

left-alike : {v w : Verdict} (x y m : List ℕ) → v ≡ w → is_refused w ≡ true → if_accepted v x m ≡ if_accepted w y m
left-alike {v} {w} x y m e h = ap (λ (u : Verdict). if_accepted u x m) e ∙ by-verdict w h
  where
    by-verdict : (w : Verdict) → is_refused w ≡ true → if_accepted w x m ≡ if_accepted w y m
    by-verdict (Ok tt) h = cc
    by-verdict (Err z) h = refl

-- two calls that are refused for the same
calls-alike : (m : List ℕ) (c d : Call) {w : Verdict} → check_of (book_of m) c ≡ w → check_of (book_of m) d ≡ w → is_refused w ≡ true → (number_of (book_of m) c ≡ number_of (book_of m) d) × (contents_after m c ≡ contents_after m d)
unfolding number_in contents_after
calls-alike m c d e f h =
    let g : is_refused (check_of (book_of m) d) ≡ true = ap is_refused f ∙ h in
    (told-alike (value_in (book_of m) c) (value_in (book_of m) d) (e ∙ sym f) g, left-alike (contents_applied c m) (contents_applied d m) m (e ∙ sym f) g)

-- a call on one row by a key that is refused is refused for that
row-refused : (b : Book) (k : ℕ) (y : Key) (a : ℕ) → is_refused (key_check y) ≡ true → check_of b (row_call k y a) ≡ key_check y
unfolding row_call call_check
row-refused b k y a h =
    cases (eqb k 0)
    (λ t. rw t (stop (key_check y) _ h))
    (λ t. cases (eqb k 1) (λ u. rw (t, u) (stop (key_check y) _ h)) (λ u. rw (t, u) (stop (key_check y) _ h)))

long-alike : (m : List ℕ) (k n f : ℕ) (x y : List ℕ) (a : ℕ) → 32 < length x → 32 < length y → (number_of (book_of m) (row_call k (key n f x) a) ≡ number_of (book_of m) (row_call k (key n f y) a)) × (contents_after m (row_call k (key n f x) a) ≡ contents_after m (row_call k (key n f y) a))
long-alike m k n f x y a h g =
    let w = bench_check n or_else Err refusal.Long in
    let r = refused-long (bench_check n) in
    let p = long-key n f x h in
    let q = long-key n f y g in
    calls-alike m (row_call k (key n f x) a) (row_call k (key n f y) a)
    (row-refused (book_of m) k (key n f x) a (ap is_refused p ∙ r) ∙ p)
    (row-refused (book_of m) k (key n f y) a (ap is_refused q ∙ r) ∙ q)
    r

-- a call by the name cut to 33 bytes is the call by the whole name
pub made-cut : (m s : List ℕ) (k n f a from c l : ℕ) {o : List ℕ} {r : Result ℕ Refusal} → from + l ≤ length s → c ≡ cond (ltb l 33) l 33 → Made m o (row_call k (key n f (bytes_at s from c)) a) r → Made m o (row_call k (key n f (bytes_at s from l)) a) r
made-cut m s k n f a from c l h e d =
    cases (ltb l 33)
    (λ t. let q : c ≡ l = rw t at e in by_call m (ap (λ (x : ℕ). row_call k (key n f (bytes_at s from x)) a) q) d)
    (λ t.
    let q : c ≡ 33 = rw t at e in
    let long : 33 ≤ l = ltb-false l 33 t in
    let x = length-name s from c (omega arith) in
    let y = length-name s from l h in
    let z = long-alike m k n f (bytes_at s from c) (bytes_at s from l) a (omega arith) (omega arith) in
    (d.0 ∙ z.0, d.1 ∙ z.1))

cut-bounds : (c l : ℕ) → c ≡ cond (ltb l 33) l 33 → (c ≤ 33) × (c ≤ l)
cut-bounds c l e =
    cases (ltb l 33)
    (λ t. let q : c ≡ l = rw t at e in let h = ltb-true l 33 t in (omega arith, omega arith))
    (λ t. let q : c ≡ 33 = rw t at e in let h = ltb-false l 33 t in (omega arith, omega arith))

-- the part of a name that is read is in the script
pub cut_inside : (s : List ℕ) (at c l : ℕ) → at + 4 + name_length s at ≤ length s → l ≡ name_length s at → c ≡ cond (ltb l 33) l 33 → (c ≤ 33) × (at + 4 + c ≤ length s)
cut_inside s at c l h e d = let b = cut-bounds c l d in (b.0, omega arith)

-- a call by what was read of a script is the call that is there
pub made-read : (m s : List ℕ) (at k n f a c l : ℕ) (bytes : List ℕ) {o : List ℕ} {r : Result ℕ Refusal} → at + 4 + name_length s at ≤ length s → l ≡ name_length s at → c ≡ cond (ltb l 33) l 33 → bytes ≡ sets (replicate 33 0) 0 (bytes_at s (at + 4) c) → k ≡ get_or s at 0 → n ≡ get_or s (at + 1) 0 → f ≡ get_or s (at + 2) 0 → a ≡ get_or s (at + 4 + l) 0 → Made m o (row_call k (key n f (take c bytes)) a) r → Made m o (row_call (get_or s at 0) (key_at s at) (get_or s (at + 4 + name_length s at) 0)) r
unfolding key_at
made-read m s at k n f a c l bytes h el ec eb ek en ef ea made =
    let in-script = cut_inside s at c l h el ec in
    let front : take c bytes ≡ bytes_at s (at + 4) c = ap (take c) eb ∙ stored-front s (at + 4) c in-script.1 in-script.0 in
    let short = by_call m (ap (λ (x : List ℕ). row_call k (key n f x) a) front) made in
    let long = made-cut m s k n f a (at + 4) c l (omega arith) ec short in
    by_call m (rw (ek, en, ef, ea, el) refl) long

-- ---- the call at a place

-- and, of a list l, it leaves p
abbrev pub MadeAt : List ℕ → List ℕ → List ℕ → List ℕ → Call → Result ℕ Refusal → Type 0
MadeAt m o l p c r = (r ≡ number_of (book_of m) c) × ((o ≡ contents_after m c) × (p ≡ list_after (book_of m) c l))

row_list : (b : Book) (k : ℕ) (y : Key) (a : ℕ) (l : List ℕ) → l ≡ list_after b (row_call k y a) l
unfolding row_call list_after
row_list b k y a l =
    cases (eqb k 0)
    (λ t. rw t refl)
    (λ t. cases (eqb k 1) (λ u. rw (t, u) refl) (λ u. rw (t, u) refl))

module _ (p : Places) (given : ℕ) (s : List ℕ) (at : ℕ) where
  row_at : get_or s at 0 < 3 → row_call (get_or s at 0) (key_at s at) (get_or s (at + 4 + name_length s at) 0) ≡ call_at p given s at
  unfolding call_at
  row_at h = rw (lt-ltb (get_or s at 0) 3 h) refl

  fill-at : 3 ≤ get_or s at 0 → fill (get_or s (at + 1) 0) p given ≡ call_at p given s at
  unfolding call_at
  fill-at h = rw (le-ltb (get_or s at 0) 3 h) refl

  -- a name is a list of bytes
  pub byte-call : ByteName (call_at p given s at)
  unfolding call_at row_call key_at
  byte-call =
      cases (ltb (get_or s at 0) 3)
      (λ t.
      cases (eqb (get_or s at 0) 0)
      (λ u. rw (t, u) (bytes-name s (at + 4) (name_length s at)))
      (λ u. cases (eqb (get_or s at 0) 1) (λ w. rw (t, u, w) (bytes-name s (at + 4) (name_length s at))) (λ w. rw (t, u, w) tt)))
      (λ t. rw t tt)

  module _ (m l : List ℕ) {o q : List ℕ} {r : Result ℕ Refusal} where
    by_place : {c : Call} → c ≡ call_at p given s at → MadeAt m o l q c r → MadeAt m o l q (call_at p given s at) r
    by_place e h =
        (h.0 ∙ ap (number_of (book_of m)) e, (h.1.0 ∙ ap (contents_after m) e, h.1.1 ∙ ap (λ (c : Call). list_after (book_of m) c l) e))

  pub made_row : (m l : List ℕ) {o : List ℕ} {r : Result ℕ Refusal} → get_or s at 0 < 3 → Made m o (row_call (get_or s at 0) (key_at s at) (get_or s (at + 4 + name_length s at) 0)) r → MadeAt m o l l (call_at p given s at) r
  made_row m l h d =
      by_place m l (row_at h) (d.0, (d.1, row_list (book_of m) (get_or s at 0) (key_at s at) (get_or s (at + 4 + name_length s at) 0) l))

  pub made-fill : (m l : List ℕ) {q : List ℕ} {v : Verdict} {r : Result ℕ Refusal} {n : ℕ} → 3 ≤ get_or s at 0 → n ≡ get_or s (at + 1) 0 → v ≡ check_of (book_of m) (fill n p given) → r ≡ by_verdict v (Ok 0) Err → q ≡ memory_in (length (book_of m)) (book_of m) (fill n p given) l → MadeAt m m l q (call_at p given s at) r
  unfolding number_in value_in contents_after contents_applied list_after
  made-fill m l {n = n} h b e x y =
      by_place m l (ap (λ (n : ℕ). fill n p given) b ∙ fill-at h)
      (x ∙ ap (λ (v : Verdict). by_verdict v (Ok 0) Err) e, (same_left (check_of (book_of m) (fill n p given)) m, y))
