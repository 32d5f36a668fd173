-- Reading and writing undo each other, and the number given is the first bad line's. Assumes nothing.
use mathlib.Core.Path.{◌≡◌, refl, sym, ◌∙◌, ap}
use mathlib.Core.Bool.{Bool, true, ◌&&◌}
use mathlib.Core.List.{List, [], ◌∷◌, ◌++◌}
use mathlib.Core.Logic.{◌⊎◌, inl, inr, ⊎_elim}
use Prim.Native.Nat.{ℕ, zero, suc, ◌+◌, ◌≤◌, ◌<◌}
use native.Mathlib.Nat.{zero-add}
use native.Mathlib.Numerals.{add-one}
use native.Mathlib.Omega.{arith}
use borrow.Author.Tests.{leb-true, leb-false, le-leb, ltb-true, ltb-false}
use lib.Dec.{leb, ltb}
use lib.ListN.{length, get_or, take, drop, length-append, length-take, length-drop, take-append-drop}
use lib.Seq.{length-take-le, get_or-take, get_or-drop, take_at, drop_at, take-length, take_all, ext_get_or, take-append-add, take-take}
use Rattle.word.proofs.Test.{and_first, and_second}
use Rattle.update.specs.Update.{Bytes}
use Rattle.record.specs.Record.{Slot, line_of, line_length, written, text_length, data_length, data_at, holds, line_at, bad_from, or_line, surplus, first_bad, read_from}
use Rattle.record.specs.Claim.{Fills, IsText, BadAfter}
use Rattle.record.proofs.Hex.{cases, holds-append, holds-get, get_holds, length-data, bytes-data}
use Rattle.record.proofs.Lines.{length-line, line_read, length-written}

and_both : (a b : Bool) → a ≡ true → b ≡ true → (a && b) ≡ true
and_both a b p q = rw (p, q) refl

bytes_take : (n : ℕ) (ds : List ℕ) → Bytes ds → Bytes (take n ds)
bytes_take zero ds bs k = omega arith
bytes_take (suc n) [] bs k = omega arith
bytes_take (suc n) (d ∷ ds) bs zero = bs 0
bytes_take (suc n) (d ∷ ds) bs (suc k) = bytes_take n ds (λ j. bs (suc j)) k

bytes_drop : (n : ℕ) (ds : List ℕ) → Bytes ds → Bytes (drop n ds)
bytes_drop n ds bs k = rw (get_or-drop n ds k 0) (bs (n + k))

bytes-append : (x y : List ℕ) → Bytes x → Bytes y → Bytes (x ++ y)
bytes-append [] y bx by k = by k
bytes-append (b ∷ x) y bx by zero = bx 0
bytes-append (b ∷ x) y bx by (suc k) = bytes-append x y (λ j. bx (suc j)) by k

-- the data of the first line, and that of the others
pub fills-rest : (s : Slot) (ss : List Slot) (ds : List ℕ) → Fills (s ∷ ss) ds → Fills ss (drop s.count ds)
unfolding data_length
fills-rest s ss ds f = let m = f.many in record { many = simp length-drop (omega arith); bytes = bytes_drop s.count ds f.bytes }

first-many : (s : Slot) (ss : List Slot) (ds : List ℕ) → Fills (s ∷ ss) ds → length (take s.count ds) ≡ s.count
unfolding data_length
first-many s ss ds f = let m = f.many in length-take-le s.count ds (omega arith)

-- ---- what is written is read

-- a line that is held is as it must be
pub line-good : (t : List ℕ) (p : ℕ) (s : Slot) (ds : List ℕ) → length ds ≡ s.count → Bytes ds → p + line_length s.count ≤ length t → holds t p (line_of s ds) ≡ true → line_at t p s ≡ true
unfolding line_at
line-good t p s ds n bs h e = and_both _ _ (le-leb _ _ h) (rw (line_read t p s ds n bs e) e)

pub lines-good : (n p : ℕ) (ss : List Slot) (t ds : List ℕ) → Fills ss ds → p + text_length ss ≤ length t → holds t p (written ss ds) ≡ true → (bad_from n p ss t ≡ 0) × (read_from p ss t ≡ ds)
unfolding bad_from read_from written text_length data_length
lines-good n p [] t [] f h e = (refl, refl)
lines-good n p [] t (d ∷ ds) f h e = let m = f.many in absurd (omega arith)
lines-good n p (s ∷ ss) t ds f h e =
    let m = f.many in
    let one = first-many s ss ds f in
    let here = take s.count ds in
    let parts = rw (holds-append t p (line_of s here) (written ss (drop s.count ds)), length-line s here, one) at e in
    let first = and_first _ _ parts in
    let good = line-good t p s here one (bytes_take s.count ds f.bytes) (omega arith) first in
    let rest = lines-good (n + 1) (p + line_length s.count) ss t (drop s.count ds) (fills-rest s ss ds f) (omega arith) (and_second (holds t p (line_of s here)) _ parts) in
    (rw good rest.0, rw (line_read t p s here one (bytes_take s.count ds f.bytes) first, rest.1) (take-append-drop s.count ds))

-- reading what was written gives no bad line and the same bytes
pub read-written : (ss : List Slot) (ds : List ℕ) → Fills ss ds → (first_bad ss (written ss ds) ≡ 0) × (read_from 0 ss (written ss ds) ≡ ds)
unfolding first_bad surplus or_line
read-written ss ds f =
    let t = written ss ds in
    let n = length-written ss ds f.many in
    let r = lines-good 1 0 ss t ds f (omega arith) (get_holds t 0 t (λ k h. ap (λ (j : ℕ). get_or t j 0) (zero-add k))) in
    (rw (r.0, le-leb (length t) (text_length ss) (omega arith)) refl, r.1)

-- ---- what is read was written

pub fills-read : (p : ℕ) (ss : List Slot) (t : List ℕ) → Fills ss (read_from p ss t)
unfolding read_from data_length
fills-read p [] t = record { many = refl; bytes = λ k. omega arith }
fills-read p (s ∷ ss) t =
    let r = fills-read (p + line_length s.count) ss t in
    record {
      many = rw (length-append (data_at t (p + 12) s.count) (read_from (p + line_length s.count) ss t), length-data t (p + 12) s.count, r.many) refl;
      bytes = bytes-append (data_at t (p + 12) s.count) (read_from (p + line_length s.count) ss t) (bytes-data t (p + 12) s.count) r.bytes;
    }

unfold-line : (t : List ℕ) (p : ℕ) (s : Slot) → line_at t p s ≡ true → (p + line_length s.count ≤ length t) × (holds t p (line_of s (data_at t (p + 12) s.count)) ≡ true)
unfolding line_at
unfold-line t p s g = (leb-true _ _ (and_first _ _ g), and_second (leb (p + line_length s.count) (length t)) _ g)

or-zero : (b : ℕ) → b ≡ or_line 0 b
unfolding or_line
or-zero b = refl

or-suc : (a b : ℕ) → suc a ≡ or_line (suc a) b
unfolding or_line
or-suc a b = refl

pub lines-held : (n p : ℕ) (ss : List Slot) (t : List ℕ) → 0 < n → p ≤ length t → bad_from n p ss t ≡ 0 → (p + text_length ss ≤ length t) × (holds t p (written ss (read_from p ss t)) ≡ true)
unfolding bad_from read_from written text_length holds
lines-held n p [] t h k e = (omega arith, refl)
lines-held n p (s ∷ ss) t h k e =
    let here = data_at t (p + 12) s.count in
    let next = read_from (p + line_length s.count) ss t in
    cases (line_at t p s)
    (λ g.
    let g2 = unfold-line t p s g in
    let rest = lines-held (n + 1) (p + line_length s.count) ss t (omega arith) g2.0 (rw g at e) in (
      omega (arith, rest.0),
      rw (take_at here next s.count (length-data t (p + 12) s.count), drop_at here next s.count (length-data t (p + 12) s.count), holds-append t p (line_of s here) (written ss next), length-line s here, length-data t (p + 12) s.count)
          (and_both _ _ g2.1 rest.1),
    ))
    (λ g. let z : n ≡ 0 = rw g at e in absurd (omega arith))

-- ---- a text is read exactly where it is the text of some data bytes

whole : (t w : List ℕ) → length t ≡ length w → holds t 0 w ≡ true → t ≡ w
whole t w n e = ext_get_or 0 t w n (λ k h. ap (λ (j : ℕ). get_or t j 0) (sym (zero-add k)) ∙ holds-get t 0 w e k (omega arith))

or-none : (a b : ℕ) → or_line a b ≡ 0 → (a ≡ 0) × (b ≡ 0)
unfolding or_line
or-none zero b e = (refl, e)
or-none (suc a) b e = absurd (omega arith)

no-surplus : (ss : List Slot) (t : List ℕ) → surplus ss t ≡ 0 → length t ≤ text_length ss
unfolding surplus
no-surplus ss t e =
    cases (leb (length t) (text_length ss)) (λ g. leb-true _ _ g) (λ g. let z : length ss + 1 ≡ 0 = rw g at e in absurd (omega arith))

pub written_read : (ss : List Slot) (t : List ℕ) → first_bad ss t ≡ 0 → t ≡ written ss (read_from 0 ss t)
unfolding first_bad
written_read ss t e =
    let z = or-none (bad_from 1 0 ss t) (surplus ss t) e in
    let r = lines-held 1 0 ss t (omega arith) (omega arith) z.0 in
    whole t (written ss (read_from 0 ss t)) (omega (arith, r.0, no-surplus ss t z.1, length-written ss (read_from 0 ss t) (fills-read 0 ss t).many)) r.1

-- a text that is read is as long as its lines
pub text-whole : (ss : List Slot) (t : List ℕ) → first_bad ss t ≡ 0 → length t ≡ text_length ss
text-whole ss t e = ap length (written_read ss t e) ∙ length-written ss (read_from 0 ss t) (fills-read 0 ss t).many

pub read-text : (ss : List Slot) (t : List ℕ) → first_bad ss t ≡ 0 → IsText ss t
read-text ss t e = record { dat = read_from 0 ss t; fills = fills-read 0 ss t; same = written_read ss t e }

pub text-read : (ss : List Slot) (t : List ℕ) → IsText ss t → first_bad ss t ≡ 0
text-read ss t x = rw x.same (read-written ss x.dat x.fills).0

-- ---- the first bad line

-- what a list's first n are
take-held : (n : ℕ) (t w : List ℕ) → n ≤ length w → take n t ≡ take n w → (n ≤ length t) × (holds t 0 (take n w) ≡ true)
take-held n t w h e =
    let same : length (take n t) ≡ length (take n w) = ap length e in
    let long : n ≤ length t = omega (arith, length-take n t, length-take n w) in
    (long, get_holds t 0 (take n w) (λ k l. ap (λ (j : ℕ). get_or t j 0) (zero-add k) ∙ sym (get_or-take n t k 0 (omega (arith, length-take n w))) ∙ ap (λ (x : List ℕ). get_or x k 0) e))

held-take : (n : ℕ) (t w : List ℕ) → n ≤ length t → n ≤ length w → holds t 0 (take n w) ≡ true → take n t ≡ take n w
held-take n t w h l e =
    ext_get_or 0 (take n t) (take n w) (length-take-le n t h ∙ sym (length-take-le n w l))
    (λ k b. get_or-take n t k 0 (omega (arith, length-take n t)) ∙ ap (λ (j : ℕ). get_or t j 0) (sym (zero-add k)) ∙ holds-get t 0 (take n w) e k (omega (arith, length-take n t, length-take n w)))

pub bad-least : (n p : ℕ) (ss : List Slot) (t : List ℕ) → (bad_from n p ss t ≡ 0) ⊎ (n ≤ bad_from n p ss t)
unfolding bad_from
bad-least n p [] t = inl refl
bad-least n p (s ∷ ss) t =
    cases (line_at t p s)
    (λ g. rw g (⊎_elim (λ z. inl z) (λ l. inr (omega arith)) (bad-least (n + 1) (p + line_length s.count) ss t)))
    (λ g. rw g (inr (omega arith)))

-- of the lines from p on, k are as they must be and the next is not
record BadHere (p : ℕ) (ss : List Slot) (k : ℕ) (t : List ℕ) : Type 0 where
  few : k < length ss
  room : p + text_length (take k ss) ≤ length t
  held : holds t p (take (text_length (take k ss)) (written ss (read_from p ss t))) ≡ true
  bad : (ds : List ℕ) → Fills ss ds → p + text_length (take (suc k) ss) ≤ length t → holds t p (take (text_length (take (suc k) ss)) (written ss ds)) ≡ true → ⊥

-- the first line and n more of what follows
front : (s : Slot) (ds w : List ℕ) (n : ℕ) → length ds ≡ s.count → take (line_length s.count + n) (line_of s ds ++ w) ≡ line_of s ds ++ take n w
front s ds w n h = let e : length (line_of s ds) ≡ line_length s.count = rw (length-line s ds, h) refl in rw (sym e) (take-append-add (line_of s ds) w n)

front-holds : (t : List ℕ) (p : ℕ) (s : Slot) (ds w : List ℕ) (n : ℕ) → length ds ≡ s.count
    → holds t p (take (line_length s.count + n) (line_of s ds ++ w)) ≡ (holds t p (line_of s ds) && holds t (p + line_length s.count) (take n w))
front-holds t p s ds w n h = rw (front s ds w n h, holds-append t p (line_of s ds) (take n w), length-line s ds, h) refl

bad-at : (n p : ℕ) (ss : List Slot) (t : List ℕ) (k : ℕ) → 0 < n → p ≤ length t → bad_from n p ss t ≡ n + k → BadHere p ss k t
unfolding bad_from read_from written text_length holds
bad-at n p [] t k h l e = absurd (omega arith)
bad-at n p (s ∷ ss) t zero h l e =
    cases (line_at t p s)
    (λ g. let f : bad_from (n + 1) (p + line_length s.count) ss t ≡ n + 0 = rw g at e in
    absurd (⊎_elim (λ z. omega arith) (λ m. omega arith) (bad-least (n + 1) (p + line_length s.count) ss t)))
    (λ g. record {
      few = omega arith;
      room = omega arith;
      held = refl;
      bad = λ ds f r e2.
          let one = first-many s ss ds f in
          let here = take s.count ds in
          let q = rw (front-holds t p s here (written ss (drop s.count ds)) 0 one) at e2 in
          let good = line-good t p s here one (bytes_take s.count ds f.bytes) (omega arith) (and_first _ _ q) in
          let z : ◌≡◌ {A = ℕ} 0 1 = cc in
          omega arith;
    })
bad-at n p (s ∷ ss) t (suc k) h l e =
    let here = data_at t (p + 12) s.count in
    let many = length-data t (p + 12) s.count in
    let next = read_from (p + line_length s.count) ss t in
    cases (line_at t p s)
    (λ g.
    let g2 = unfold-line t p s g in
    let f : bad_from (n + 1) (p + line_length s.count) ss t ≡ n + suc k = rw g at e in
    let r = bad-at (n + 1) (p + line_length s.count) ss t k (omega arith) g2.0 (omega arith) in
    record {
      few = omega (arith, r.few);
      room = omega (arith, r.room);
      held =
          rw (take_at here next s.count many, drop_at here next s.count many, front-holds t p s here (written ss next) (text_length (take k ss)) many)
          (and_both _ _ g2.1 r.held);
      bad = λ ds fd rm e2.
          let one = first-many s ss ds fd in
          let q = rw (front-holds t p s (take s.count ds) (written ss (drop s.count ds)) (text_length (take (suc k) ss)) one) at e2 in
          r.bad (drop s.count ds) (fills-rest s ss ds fd) (omega arith) (and_second (holds t p (line_of s (take s.count ds))) _ q);
    })
    (λ g. let f : n ≡ n + suc k = rw g at e in absurd (omega arith))

length_front : (k : ℕ) (ss : List Slot) → text_length (take k ss) ≤ text_length ss
unfolding text_length
length_front zero ss = omega arith
length_front (suc k) [] = omega arith
length_front (suc k) (s ∷ ss) = omega (arith, length_front k ss)

from-lines : (ss : List Slot) (t : List ℕ) (k : ℕ) → bad_from 1 0 ss t ≡ 1 + k → BadAfter ss k t
from-lines ss t k e =
    let r = bad-at 1 0 ss t k (omega arith) (omega arith) e in
    let f = fills-read 0 ss t in
    let n = length-written ss (read_from 0 ss t) f.many in
    record {
      few = omega (arith, r.few);
      dat = read_from 0 ss t;
      fills = f;
      before = held-take (text_length (take k ss)) t (written ss (read_from 0 ss t)) (omega (arith, r.room)) (omega (arith, length_front k ss)) r.held;
      bad = λ ds fd l e2.
          let m = length-written ss ds fd.many in
          let h = take-held (text_length (take (suc k) ss)) t (written ss ds) (omega (arith, length_front (suc k) ss)) (rw (add-one k) at e2) in
          r.bad ds fd (omega (arith, h.0)) h.1;
      more = λ z. absurd (omega (arith, r.few));
    }

from-surplus : (ss : List Slot) (t : List ℕ) (k : ℕ) → bad_from 1 0 ss t ≡ 0 → surplus ss t ≡ k + 1 → BadAfter ss k t
unfolding surplus
from-surplus ss t k z e =
    cases (leb (length t) (text_length ss))
    (λ g. let y : 0 ≡ k + 1 = rw g at e in absurd (omega arith))
    (λ g.
    let long : text_length ss < length t = leb-false (length t) (text_length ss) g in
    let y : length ss + 1 ≡ k + 1 = rw g at e in
    let all : k ≡ length ss = omega arith in
    let f = fills-read 0 ss t in
    let n = length-written ss (read_from 0 ss t) f.many in
    let r = lines-held 1 0 ss t (omega arith) (omega arith) z in
    record {
      few = omega arith;
      dat = read_from 0 ss t;
      fills = f;
      before = rw (all, take-length ss) (held-take (text_length ss) t (written ss (read_from 0 ss t)) (omega (arith, r.0)) (omega arith)
          (rw (take_all (text_length ss) (written ss (read_from 0 ss t)) (omega arith)) r.1));
      bad = λ ds fd l e2. omega arith;
      more = λ y2. long;
    })

pub first-bad : (ss : List Slot) (t : List ℕ) (k : ℕ) → first_bad ss t ≡ k + 1 → BadAfter ss k t
unfolding first_bad
first-bad ss t k e = by_number (bad_from 1 0 ss t) refl e
  where
    by_number : (b : ℕ) → bad_from 1 0 ss t ≡ b → or_line b (surplus ss t) ≡ k + 1 → BadAfter ss k t
    by_number zero z e2 = from-surplus ss t k z (or-zero (surplus ss t) ∙ e2)
    by_number (suc b) z e2 = from-lines ss t k (z ∙ or-suc b (surplus ss t) ∙ e2 ∙ omega arith)

-- no other line is: the first j lines of t are some text's, so the first k + 1 are where k is below j
take-fewer : (n m : ℕ) (t w : List ℕ) → n ≤ m → take m t ≡ take m w → take n t ≡ take n w
take-fewer n m t w h e = sym (take-take n m t h) ∙ ap (λ (x : List ℕ). take n x) e ∙ take-take n m w h

front-fewer : (j k : ℕ) (ss : List Slot) → j ≤ k → text_length (take j ss) ≤ text_length (take k ss)
unfolding text_length
front-fewer zero k ss h = omega arith
front-fewer (suc j) zero ss h = absurd (omega arith)
front-fewer (suc j) (suc k) [] h = omega arith
front-fewer (suc j) (suc k) (s ∷ ss) h = omega (arith, front-fewer j k ss (omega arith))

not-before : (ss : List Slot) (t : List ℕ) (k j : ℕ) → BadAfter ss k t → BadAfter ss j t → k < j → ⊥
not-before ss t k j a b h =
    let n = b.few in
    a.bad b.dat b.fills (omega arith)
    (take-fewer (text_length (take (k + 1) ss)) (text_length (take j ss)) t (written ss b.dat) (front-fewer (k + 1) j ss (omega arith)) b.before)

pub bad-once : (ss : List Slot) (t : List ℕ) (k j : ℕ) → BadAfter ss k t → BadAfter ss j t → k ≡ j
bad-once ss t k j a b =
    cases (ltb k j) (λ g. absurd (not-before ss t k j a b (ltb-true k j g)))
    (λ g. cases (ltb j k) (λ f. absurd (not-before ss t j k b a (ltb-true j k f))) (λ f. let x = ltb-false k j g in let y = ltb-false j k f in omega arith))

-- a text with a bad line is not read, and the number given is that line's
pub bad-first : (ss : List Slot) (t : List ℕ) (k : ℕ) → BadAfter ss k t → first_bad ss t ≡ k + 1
bad-first ss t k a = by_number (first_bad ss t) refl
  where
    by_number : (b : ℕ) → first_bad ss t ≡ b → b ≡ k + 1
    by_number zero z =
        let x = read-text ss t z in
        let same = x.same in
        let n = length-written ss x.dat x.fills.many in
        let all : length t ≡ text_length ss = ap length same ∙ n in
        absurd
        (cases (ltb k (length ss))
        (λ g. a.bad x.dat x.fills (ltb-true k (length ss) g) (ap (λ (l : List ℕ). take (text_length (take (k + 1) ss)) l) same))
        (λ g. let h = ltb-false k (length ss) g in let f = a.few in let l = a.more (omega arith) in omega arith))
    by_number (suc b) z = let e : b ≡ k = bad-once ss t b k (first-bad ss t b (z ∙ omega arith)) a in omega arith
