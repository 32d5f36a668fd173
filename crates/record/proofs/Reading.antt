-- A whole text judged and read, part by part. Assumes nothing.
use mathlib.Core.Path.{◌≡◌, refl, sym, ◌∙◌, ap}
use mathlib.Core.Bool.{true, false, cond}
use mathlib.Core.List.{List, [], ◌∷◌, ◌++◌, append-nil, append_assoc}
use Prim.Native.Nat.{ℕ, zero, suc, ◌+◌, ◌-◌, ◌*◌, ◌/◌, ◌≤◌, ◌<◌, min}
use native.Mathlib.Nat.{add-zero}
use native.Mathlib.Omega.{arith}
use borrow.Author.Tests.{le-leb, lt-leb, ltb-true, ltb-false}
use lib.Dec.{leb, ltb}
use lib.ListN.{length, length-append, take-append-drop}
use lib.Seq.{sets, take_at, drop_at}
use Rattle.update.specs.Update.{Bytes}
use Rattle.update.proofs.Stores.{sets-append}
use Rattle.record.specs.Record.{Slot, slot, line_length, written, text_length, image_slots, last_slot, shape, record_text, data_at, line_at, bad_from, or_line, surplus, first_bad, read_from, text_read, data_read, if_good}
use Rattle.record.specs.Claim.{Fills}
use Rattle.record.proofs.Hex.{cases, length-data}
use Rattle.record.proofs.Lines.{slots-none, slots-more}
use Rattle.record.proofs.Theorems.{read-written, written_read, fills-read, lines-held}
use Rattle.record.proofs.Images.{image-lines, image-data, image-length, shape-length, shape-lines, shape-data}

or_assoc : (a b c : ℕ) → or_line (or_line a b) c ≡ or_line a (or_line b c)
unfolding or_line
or_assoc zero b c = refl
or_assoc (suc a) b c = refl

or-zero : (b : ℕ) → or_line 0 b ≡ b
unfolding or_line
or-zero b = refl

or-more : (a b : ℕ) → 0 < a → or_line a b ≡ a
unfolding or_line
or-more zero b h = absurd (omega arith)
or-more (suc a) b h = refl

pub bad-split : (n p : ℕ) (ss rs : List Slot) (t : List ℕ) → 0 < n → bad_from n p (ss ++ rs) t ≡ or_line (bad_from n p ss t) (bad_from (n + length ss) (p + text_length ss) rs t)
unfolding bad_from text_length
bad-split n p [] rs t h = rw (or-zero (bad_from (n + 0) (p + 0) rs t), add-zero n, add-zero p) refl
bad-split n p (s ∷ ss) rs t h =
    cases (line_at t p s)
    (λ g.
    let u : n + suc (length ss) ≡ n + 1 + length ss = omega arith in
    let v : p + (line_length s.count + text_length ss) ≡ p + line_length s.count + text_length ss = omega arith in
    rw (g, u, v) (bad-split (n + 1) (p + line_length s.count) ss rs t (omega arith)))
    (λ g. rw (g, or-more n (bad_from (n + suc (length ss)) (p + (line_length s.count + text_length ss)) rs t) h) refl)

-- the first bad line, part by part
module _ (t : List ℕ) (ta tn da dn e : ℕ) where
  end_text : ℕ
  end_text = 15 * ((tn + 31) / 32) + 2 * tn

  end_data : ℕ
  end_data = end_text + (15 * ((dn + 31) / 32) + 2 * dn)

  line_data : ℕ
  line_data = (tn + 31) / 32 + 1

  line_last : ℕ
  line_last = line_data + (dn + 31) / 32

  by_parts : first_bad (shape ta tn da dn e) t ≡ or_line (bad_from 1 0 (image_slots ta tn) t) (or_line (bad_from line_data end_text (image_slots da dn) t) (or_line (bad_from line_last end_data (last_slot e ∷ []) t) (surplus (shape ta tn da dn e) t)))
  unfolding first_bad shape end_text end_data line_data line_last
  by_parts =
      let l₁ : 1 + length (image_slots ta tn) ≡ (tn + 31) / 32 + 1 = omega (arith, image-lines ta tn) in
      let p₁ : 0 + text_length (image_slots ta tn) ≡ 15 * ((tn + 31) / 32) + 2 * tn = omega (arith, image-length ta tn) in
      let l₂ : (tn + 31) / 32 + 1 + length (image_slots da dn) ≡ (tn + 31) / 32 + 1 + (dn + 31) / 32 = omega (arith, image-lines da dn) in
      let p₂ : 15 * ((tn + 31) / 32) + 2 * tn + text_length (image_slots da dn) ≡ 15 * ((tn + 31) / 32) + 2 * tn + (15 * ((dn + 31) / 32) + 2 * dn) = omega (arith, image-length da dn) in
      let s₁ = rw (l₁, p₁) at (bad-split 1 0 (image_slots ta tn) (image_slots da dn ++ (last_slot e ∷ [])) t (omega arith)) in
      let s₂ = rw (l₂, p₂) at (bad-split ((tn + 31) / 32 + 1) (15 * ((tn + 31) / 32) + 2 * tn) (image_slots da dn) (last_slot e ∷ []) t (omega arith)) in
      rw (s₁, s₂, or_assoc, or_assoc) refl

  pub bad-text : (b : ℕ) → b ≡ bad_from 1 0 (image_slots ta tn) t → 0 < b → b ≡ first_bad (shape ta tn da dn e) t
  bad-text b f h = rw (by_parts, ← f, or-more b) refl

  -- what is known where no line of text is bad
  pub text-room : 0 ≡ bad_from 1 0 (image_slots ta tn) t → 15 * ((tn + 31) / 32) + 2 * tn ≤ length t
  text-room z = let r = lines-held 1 0 (image_slots ta tn) t (omega arith) (omega arith) (sym z) in omega (arith, r.0, image-length ta tn)

  pub data-room : 15 * ((tn + 31) / 32) + 2 * tn ≤ length t → 0 ≡ bad_from ((tn + 31) / 32 + 1) (15 * ((tn + 31) / 32) + 2 * tn) (image_slots da dn) t
      → 15 * ((tn + 31) / 32) + 2 * tn + (15 * ((dn + 31) / 32) + 2 * dn) ≤ length t
  data-room h z = let r = lines-held ((tn + 31) / 32 + 1) (15 * ((tn + 31) / 32) + 2 * tn) (image_slots da dn) t (omega arith) h (sym z) in omega (arith, r.0, image-length da dn)

  pub bad-data : (b : ℕ) → 0 ≡ bad_from 1 0 (image_slots ta tn) t → b ≡ bad_from ((tn + 31) / 32 + 1) (15 * ((tn + 31) / 32) + 2 * tn) (image_slots da dn) t → 0 < b → b ≡ first_bad (shape ta tn da dn e) t
  unfolding end_text line_data
  bad-data b z f h = rw (by_parts, ← z, or-zero, ← f, or-more b) refl

  last_line : (n p : ℕ) → bad_from n p (last_slot e ∷ []) t ≡ cond (line_at t p (last_slot e)) 0 n
  unfolding bad_from
  last_line n p = refl

  pub bad_last : 0 ≡ bad_from 1 0 (image_slots ta tn) t → 0 ≡ bad_from ((tn + 31) / 32 + 1) (15 * ((tn + 31) / 32) + 2 * tn) (image_slots da dn) t
      → line_at t (15 * ((tn + 31) / 32) + 2 * tn + (15 * ((dn + 31) / 32) + 2 * dn)) (last_slot e) ≡ false → (tn + 31) / 32 + 1 + (dn + 31) / 32 ≡ first_bad (shape ta tn da dn e) t
  unfolding end_text end_data line_data line_last
  bad_last z y f = rw (by_parts, ← z, or-zero, ← y, or-zero, last_line, f, or-more ((tn + 31) / 32 + 1 + (dn + 31) / 32) (surplus (shape ta tn da dn e) t) (omega arith)) refl

  pub bad_more : 0 ≡ bad_from 1 0 (image_slots ta tn) t → 0 ≡ bad_from ((tn + 31) / 32 + 1) (15 * ((tn + 31) / 32) + 2 * tn) (image_slots da dn) t
      → line_at t (15 * ((tn + 31) / 32) + 2 * tn + (15 * ((dn + 31) / 32) + 2 * dn)) (last_slot e) ≡ true → 15 * ((tn + 31) / 32) + 2 * tn + (15 * ((dn + 31) / 32) + 2 * dn) + 15 < length t → (tn + 31) / 32 + 1 + (dn + 31) / 32 + 1 ≡ first_bad (shape ta tn da dn e) t
  unfolding end_text end_data line_data line_last surplus
  bad_more z y f h =
      let k : leb (length t) (text_length (shape ta tn da dn e)) ≡ false = lt-leb (length t) (text_length (shape ta tn da dn e)) (omega (arith, shape-length ta tn da dn e, image-length ta tn, image-length da dn)) in
      rw (by_parts, ← z, or-zero, ← y, or-zero, last_line, f, or-zero, k) (omega (arith, shape-lines ta tn da dn e))

  pub bad-none : 0 ≡ bad_from 1 0 (image_slots ta tn) t → 0 ≡ bad_from ((tn + 31) / 32 + 1) (15 * ((tn + 31) / 32) + 2 * tn) (image_slots da dn) t
      → line_at t (15 * ((tn + 31) / 32) + 2 * tn + (15 * ((dn + 31) / 32) + 2 * dn)) (last_slot e) ≡ true → length t ≤ 15 * ((tn + 31) / 32) + 2 * tn + (15 * ((dn + 31) / 32) + 2 * dn) + 15 → 0 ≡ first_bad (shape ta tn da dn e) t
  unfolding end_text end_data line_data line_last surplus
  bad-none z y f h =
      let k : leb (length t) (text_length (shape ta tn da dn e)) ≡ true = le-leb (length t) (text_length (shape ta tn da dn e)) (omega (arith, shape-length ta tn da dn e, image-length ta tn, image-length da dn)) in
      rw (by_parts, ← z, or-zero, ← y, or-zero, last_line, f, or-zero, k) refl

-- ---- reading

read-split : (p : ℕ) (ss rs : List Slot) (t : List ℕ) → read_from p (ss ++ rs) t ≡ read_from p ss t ++ read_from (p + text_length ss) rs t
unfolding read_from text_length
read-split p [] rs t = ap (λ (q : ℕ). read_from q rs t) (sym (add-zero p))
read-split p (s ∷ ss) rs t =
    let v : p + (line_length s.count + text_length ss) ≡ p + line_length s.count + text_length ss = omega arith in
    rw (v, read-split (p + line_length s.count) ss rs t) (sym (append_assoc (data_at t (p + 12) s.count) (read_from (p + line_length s.count) ss t) (read_from (p + line_length s.count + text_length ss) rs t)))

pub length-image : (p a n : ℕ) (t : List ℕ) → length (read_from p (image_slots a n) t) ≡ n
length-image p a n t = (fills-read p (image_slots a n) t).many ∙ image-data a n

read-last : (p e : ℕ) (t : List ℕ) → read_from p (last_slot e ∷ []) t ≡ []
unfolding read_from data_at
read-last p e t = refl

-- the two images of a text
read-parts : (ta tn da dn e : ℕ) (t : List ℕ) → read_from 0 (shape ta tn da dn e) t ≡ read_from 0 (image_slots ta tn) t ++ read_from (15 * ((tn + 31) / 32) + 2 * tn) (image_slots da dn) t
unfolding shape
read-parts ta tn da dn e t =
    let p : 0 + text_length (image_slots ta tn) ≡ 15 * ((tn + 31) / 32) + 2 * tn = omega (arith, image-length ta tn) in
    rw (read-split 0 (image_slots ta tn) (image_slots da dn ++ (last_slot e ∷ [])) t, p, read-split (15 * ((tn + 31) / 32) + 2 * tn) (image_slots da dn) (last_slot e ∷ []) t, read-last, append-nil) refl

pub text-part : (ta tn da dn e : ℕ) (t : List ℕ) → read_from 0 (image_slots ta tn) t ≡ text_read ta tn da dn e t
unfolding text_read
text-part ta tn da dn e t = rw (read-parts ta tn da dn e t) (sym (take_at (read_from 0 (image_slots ta tn) t) (read_from (15 * ((tn + 31) / 32) + 2 * tn) (image_slots da dn) t) tn (length-image 0 ta tn t)))

pub data-part : (ta tn da dn e : ℕ) (t : List ℕ) → read_from (15 * ((tn + 31) / 32) + 2 * tn) (image_slots da dn) t ≡ data_read ta tn da dn e t
unfolding data_read
data-part ta tn da dn e t = rw (read-parts ta tn da dn e t) (sym (drop_at (read_from 0 (image_slots ta tn) t) (read_from (15 * ((tn + 31) / 32) + 2 * tn) (image_slots da dn) t) tn (length-image 0 ta tn t)))

-- ---- lines of an image read one by one

more : (a n i : ℕ) → i < n → image_slots (a + i) (n - i) ≡ slot 51 (a + i) (min 32 (n - i)) ∷ image_slots (a + (i + 32)) (n - (i + 32))
more a n i h = let u : a + i + 32 ≡ a + (i + 32) = omega arith in let v : n - i - 32 ≡ n - (i + 32) = omega arith in rw (← u, ← v) (slots-more (a + i) (n - i) (omega arith))

pub read_next : (t o o₁ : List ℕ) (p a n i : ℕ) → i < n → o₁ ≡ sets o i (data_at t (p + 12) (min 32 (n - i)))
    → sets o₁ (i + 32) (read_from (p + (15 + 2 * min 32 (n - i))) (image_slots (a + (i + 32)) (n - (i + 32))) t) ≡ sets o i (read_from p (image_slots (a + i) (n - i)) t)
unfolding read_from
read_next t o o₁ p a n i h e =
    let c = min 32 (n - i) in
    let D = data_at t (p + 12) c in
    let R = read_from (p + (15 + 2 * c)) (image_slots (a + (i + 32)) (n - (i + 32))) t in
    rw (more a n i h, e)
    (cases (ltb (n - i) 32)
    (λ g.
    let k = ltb-true (n - i) 32 g in
    let z : n - (i + 32) ≡ 0 = omega arith in
    rw (z, slots-none (a + (i + 32)), append-nil D) refl)
    (λ g.
    let k = ltb-false (n - i) 32 g in
    let z : i + length D ≡ i + 32 = omega (arith, length-data t (p + 12) c) in
    ap (λ (q : ℕ). sets (sets o i D) q R) (sym z) ∙ sym (sets-append o i D R)))

pub read-end : (t o : List ℕ) (p q a n i : ℕ) → n ≤ i → sets o q (read_from p (image_slots (a + i) (n - i)) t) ≡ o
unfolding read_from
read-end t o p q a n i h = let e : n - i ≡ 0 = omega arith in rw (e, slots-none (a + i)) refl

-- ---- a whole text

pub if-bad : (b : ℕ) (image old : List ℕ) → 0 < b → old ≡ if_good b image old
unfolding if_good
if-bad zero image old h = absurd (omega arith)
if-bad (suc b) image old h = refl

pub if-good : (image old : List ℕ) → image ≡ if_good 0 image old
unfolding if_good
if-good image old = refl

no_lines : (a b : ℕ) → 0 ≡ or_line a b → a ≡ 0
unfolding or_line
no_lines zero b e = refl
no_lines (suc a) b e = absurd (omega arith)

pub text-fits : (ta tn da dn e : ℕ) (t : List ℕ) → 0 ≡ first_bad (shape ta tn da dn e) t → 15 * ((tn + 31) / 32) + 2 * tn + (15 * ((dn + 31) / 32) + 2 * dn) + 15 ≤ length t
unfolding first_bad
text-fits ta tn da dn e t z =
    let r = lines-held 1 0 (shape ta tn da dn e) t (omega arith) (omega arith) (no_lines (bad_from 1 0 (shape ta tn da dn e) t) (surplus (shape ta tn da dn e) t) z) in
    omega (arith, r.0, shape-length ta tn da dn e, image-length ta tn, image-length da dn)

-- ---- the claims for two images

length_part : (ta tn da dn e : ℕ) (t : List ℕ) → length (read_from 0 (shape ta tn da dn e) t) ≡ tn + dn
length_part ta tn da dn e t = (fills-read 0 (shape ta tn da dn e) t).many ∙ shape-data ta tn da dn e

pub length-text : (ta tn da dn e : ℕ) (t : List ℕ) → length (text_read ta tn da dn e t) ≡ tn
length-text ta tn da dn e t = rw (← text-part ta tn da dn e t) (length-image 0 ta tn t)

pub length-dat : (ta tn da dn e : ℕ) (t : List ℕ) → length (data_read ta tn da dn e t) ≡ dn
length-dat ta tn da dn e t = rw (← data-part ta tn da dn e t) (length-image (15 * ((tn + 31) / 32) + 2 * tn) da dn t)

bytes-append : (x y : List ℕ) → Bytes x → Bytes y → Bytes (x ++ y)
bytes-append [] y bx by k = by k
bytes-append (b ∷ x) y bx by zero = bx 0
bytes-append (b ∷ x) y bx by (suc k) = bytes-append x y (λ j. bx (suc j)) by k

-- reading what was written: no line is bad, and the images come back
pub images-back : (ta : ℕ) (text : List ℕ) (da : ℕ) (dat : List ℕ) (e : ℕ) → Bytes text → Bytes dat
    → (first_bad (shape ta (length text) da (length dat) e) (record_text ta text da dat e) ≡ 0)
    × (text_read ta (length text) da (length dat) e (record_text ta text da dat e) ≡ text)
    × (data_read ta (length text) da (length dat) e (record_text ta text da dat e) ≡ dat)
unfolding record_text text_read data_read
images-back ta text da dat e bt bd =
    let ss = shape ta (length text) da (length dat) e in
    let f : Fills ss (text ++ dat) = record { many = length-append text dat ∙ sym (shape-data ta (length text) da (length dat) e); bytes = bytes-append text dat bt bd } in
    let r = read-written ss (text ++ dat) f in
    (r.0, rw r.1 (take_at text dat (length text) refl), rw r.1 (drop_at text dat (length text) refl))

joined : (ta tn da dn e : ℕ) (t : List ℕ) → read_from 0 (shape ta tn da dn e) t ≡ text_read ta tn da dn e t ++ data_read ta tn da dn e t
unfolding text_read data_read
joined ta tn da dn e t = sym (take-append-drop tn (read_from 0 (shape ta tn da dn e) t))

-- a text that is read is the very text that writing its images gives
pub text-back : (ta tn da dn e : ℕ) (t : List ℕ) → first_bad (shape ta tn da dn e) t ≡ 0 → t ≡ record_text ta (text_read ta tn da dn e t) da (data_read ta tn da dn e t) e
unfolding record_text
text-back ta tn da dn e t z =
    written_read (shape ta tn da dn e) t z
    ∙ rw (length-text ta tn da dn e t, length-dat ta tn da dn e t) (ap (λ (l : List ℕ). written (shape ta tn da dn e) l) (joined ta tn da dn e t))
