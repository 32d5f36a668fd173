-- The lines of an image one at a time, and the lengths of a shape. Assumes nothing.
use mathlib.Core.Path.{◌≡◌, refl, sym, ◌∙◌, ap}
use mathlib.Core.List.{List, [], ◌∷◌, ◌++◌, append-nil, append_assoc}
use Prim.Native.Nat.{ℕ, zero, suc, ◌+◌, ◌-◌, ◌*◌, ◌/◌, ◌≤◌, ◌<◌, min}
use native.Mathlib.Omega.{arith}
use borrow.Author.Tests.{ltb-true, ltb-false}
use lib.Dec.{ltb}
use lib.ListN.{drop_of_length-le, length, take, drop, length-append, length-drop, length-take}
use lib.Seq.{sets, drop-drop, take-append-le, drop-append-le}
use Rattle.update.proofs.Stores.{sets-append, sets-whole}
use Rattle.record.specs.Record.{Slot, slot, line_of, written, text_length, data_length, slots_in, image_slots, last_slot, shape, record_text}
use Rattle.record.proofs.Lines.{slots-none, slots-more, length-line, length-written}
use Rattle.record.proofs.Stores.{join}
use Rattle.record.proofs.Hex.{cases}

-- ---- lengths

pub text-length : (ss : List Slot) → text_length ss ≡ 15 * length ss + 2 * data_length ss
unfolding text_length data_length
text-length [] = refl
text-length (s ∷ ss) = omega (arith, text-length ss)

length-slots : (k a n : ℕ) → length (slots_in k a n) ≡ k
unfolding slots_in
length-slots zero a n = refl
length-slots (suc k) a n = ap suc (length-slots k (a + 32) (n - 32))

data-slots : (k a n : ℕ) → n ≤ 32 * k → data_length (slots_in k a n) ≡ n
unfolding slots_in data_length
data-slots zero a n h = omega arith
data-slots (suc k) a n h = omega (arith, data-slots k (a + 32) (n - 32) (omega arith))

pub image-lines : (a n : ℕ) → length (image_slots a n) ≡ (n + 31) / 32
unfolding image_slots
image-lines a n = length-slots ((n + 31) / 32) a n

pub image-data : (a n : ℕ) → data_length (image_slots a n) ≡ n
unfolding image_slots
image-data a n = data-slots ((n + 31) / 32) a n (omega arith)

pub image-length : (a n : ℕ) → text_length (image_slots a n) ≡ 15 * ((n + 31) / 32) + 2 * n
image-length a n = omega (arith, text-length (image_slots a n), image-lines a n, image-data a n)

pub length-split : (ss rs : List Slot) → text_length (ss ++ rs) ≡ text_length ss + text_length rs
unfolding text_length
length-split [] rs = omega arith
length-split (s ∷ ss) rs = omega (arith, length-split ss rs)

pub data-split : (ss rs : List Slot) → data_length (ss ++ rs) ≡ data_length ss + data_length rs
unfolding data_length
data-split [] rs = omega arith
data-split (s ∷ ss) rs = omega (arith, data-split ss rs)

pub shape-data : (ta tn da dn e : ℕ) → data_length (shape ta tn da dn e) ≡ tn + dn
unfolding shape data_length
shape-data ta tn da dn e =
    omega (arith, data-split (image_slots ta tn) (image_slots da dn ++ (last_slot e ∷ [])), data-split (image_slots da dn) (last_slot e ∷ []), image-data ta tn, image-data da dn)

pub shape-length : (ta tn da dn e : ℕ) → text_length (shape ta tn da dn e) ≡ text_length (image_slots ta tn) + text_length (image_slots da dn) + 15
unfolding shape text_length
shape-length ta tn da dn e =
    omega (arith, length-split (image_slots ta tn) (image_slots da dn ++ (last_slot e ∷ [])), length-split (image_slots da dn) (last_slot e ∷ []))

pub shape-lines : (ta tn da dn e : ℕ) → length (shape ta tn da dn e) ≡ (tn + 31) / 32 + (dn + 31) / 32 + 1
unfolding shape
shape-lines ta tn da dn e =
    omega (arith, length-append (image_slots ta tn) (image_slots da dn ++ (last_slot e ∷ [])), length-append (image_slots da dn) (last_slot e ∷ []), image-lines ta tn, image-lines da dn)

-- ---- one line more

pub length-next : (a n i : ℕ) → i < n → text_length (image_slots (a + i) (n - i)) ≡ 15 + 2 * min 32 (n - i) + text_length (image_slots (a + (i + 32)) (n - (i + 32)))
length-next a n i h = omega (arith, image-length (a + i) (n - i), image-length (a + (i + 32)) (n - (i + 32)))

pub length-done : (a n : ℕ) → n ≡ 0 → text_length (image_slots a n) ≡ 0
length-done a n e = omega (arith, image-length a n)

-- what is left behind a line
rest_of : (x : List ℕ) (i : ℕ) → i < length x → drop (min 32 (length x - i)) (drop i x) ≡ drop (i + 32) x
rest_of x i h =
    drop-drop (min 32 (length x - i)) i x
    ∙ cases (ltb (length x - i) 32)
    (λ g.
    let k = ltb-true (length x - i) 32 g in
    drop_of_length-le x {i = i + min 32 (length x - i)} (omega arith) ∙ sym (drop_of_length-le x {i = i + 32} (omega arith)))
    (λ g. let k = ltb-false (length x - i) 32 g in let z : i + min 32 (length x - i) ≡ i + 32 = omega arith in rw z refl)

-- lines written after i bytes: one more
pub image-next : (o o₁ l : List ℕ) (p a i : ℕ) → i < length l → o₁ ≡ sets o p (line_of (slot 51 (a + i) (min 32 (length l - i))) (take (min 32 (length l - i)) (drop i l)))
    → sets o₁ (p + (15 + 2 * min 32 (length l - i))) (written (image_slots (a + (i + 32)) (length l - (i + 32))) (drop (i + 32) l)) ≡ sets o p (written (image_slots (a + i) (length l - i)) (drop i l))
unfolding written
image-next o o₁ l p a i h e =
    let n = length l in
    let c = min 32 (n - i) in
    let s = slot 51 (a + i) c in
    let part = take c (drop i l) in
    let more : image_slots (a + i) (n - i) ≡ s ∷ image_slots (a + (i + 32)) (n - (i + 32)) =
    (let u : a + i + 32 ≡ a + (i + 32) = omega arith in let v : n - i - 32 ≡ n - (i + 32) = omega arith in rw (← u, ← v) (slots-more (a + i) (n - i) (omega arith)))
    in
    let long : length (line_of s part) ≡ 15 + 2 * c = rw (length-line s part) (ap (λ (x : ℕ). 15 + 2 * x) (simp (length-take, length-drop) (omega arith))) in
    let rest : drop c (drop i l) ≡ drop (i + 32) l = rest_of l i h in
    rw (more, rest, e, ← long) (sym (sets-append o p (line_of s part) (written (image_slots (a + (i + 32)) (n - (i + 32))) (drop (i + 32) l))))

pub image-end : (o l : List ℕ) (p a i : ℕ) → length l ≤ i → sets o p (written (image_slots (a + i) (length l - i)) (drop i l)) ≡ o
unfolding written
image-end o l p a i h = let e : length l - i ≡ 0 = omega arith in rw (e, slots-none (a + i)) refl

-- the same for a whole line, and for the last one
pub image-whole : (o o₁ l : List ℕ) (p a i : ℕ) → i + 32 ≤ length l → o₁ ≡ sets o p (line_of (slot 51 (a + i) 32) (take 32 (drop i l)))
    → sets o₁ (p + 79) (written (image_slots (a + (i + 32)) (length l - (i + 32))) (drop (i + 32) l)) ≡ sets o p (written (image_slots (a + i) (length l - i)) (drop i l))
image-whole o o₁ l p a i h e =
    let k : min 32 (length l - i) ≡ 32 = omega arith in
    rw k at (image-next o o₁ l p a i (omega arith) (rw k e))

pub image-last : (o o₁ l : List ℕ) (p a i : ℕ) → i < length l → length l ≤ i + 32 → o₁ ≡ sets o p (line_of (slot 51 (a + i) (length l - i)) (take (length l - i) (drop i l)))
    → o₁ ≡ sets o p (written (image_slots (a + i) (length l - i)) (drop i l))
image-last o o₁ l p a i h g e =
    let k : min 32 (length l - i) ≡ length l - i = omega arith in
    sym (image-end o₁ l (p + (15 + 2 * min 32 (length l - i))) a (i + 32) g) ∙ image-next o o₁ l p a i h (rw k e)

-- two shapes with the data of each
pub written-split : (ss rs : List Slot) (x y : List ℕ) → length x ≡ data_length ss → written (ss ++ rs) (x ++ y) ≡ written ss x ++ written rs y
unfolding written data_length
written-split [] rs [] y h = refl
written-split [] rs (b ∷ x) y h = absurd (omega arith)
written-split (s ∷ ss) rs x y h =
    let c = s.count in
    let few : c ≤ length x = omega arith in
    let more : length (drop c x) ≡ data_length ss = simp length-drop (omega arith) in
    rw (take-append-le c x y few, drop-append-le c x y few, written-split ss rs (drop c x) y more) (sym (append_assoc (line_of s (take c x)) (written ss (drop c x)) (written rs y)))

one : (e : ℕ) → written (last_slot e ∷ []) [] ≡ line_of (last_slot e) []
unfolding written
one e = append-nil (line_of (last_slot e) [])

-- the three parts of the record text
pub text-parts : (ta : ℕ) (text : List ℕ) (da : ℕ) (dat : List ℕ) (e : ℕ) → record_text ta text da dat e ≡ written (image_slots ta (length text)) text ++ (written (image_slots da (length dat)) dat ++ line_of (last_slot e) [])
unfolding record_text shape
text-parts ta text da dat e =
    written-split (image_slots ta (length text)) (image_slots da (length dat) ++ (last_slot e ∷ [])) text dat (sym (image-data ta (length text)))
    ∙ ap (λ (l : List ℕ). written (image_slots ta (length text)) text ++ l)
    (ap (λ (l : List ℕ). written (image_slots da (length dat) ++ (last_slot e ∷ [])) l) (sym (append-nil dat))
    ∙ written-split (image_slots da (length dat)) (last_slot e ∷ []) dat [] (sym (image-data da (length dat)))
    ∙ ap (λ (l : List ℕ). written (image_slots da (length dat)) dat ++ l) (one e))

pub text-stored : (o₀ o₁ o₂ o₃ text dat : List ℕ) (ta da e p q : ℕ) → length o₀ ≡ text_length (shape ta (length text) da (length dat) e)
    → p ≡ 0 + text_length (image_slots ta (length text)) → o₁ ≡ sets o₀ 0 (written (image_slots ta (length text)) text)
    → q ≡ p + text_length (image_slots da (length dat)) → o₂ ≡ sets o₁ p (written (image_slots da (length dat)) dat)
    → o₃ ≡ sets o₂ q (line_of (last_slot e) []) → o₃ ≡ record_text ta text da dat e
text-stored o₀ o₁ o₂ o₃ text dat ta da e p q n ep e₁ eq e₂ e₃ =
    let T = written (image_slots ta (length text)) text in
    let D = written (image_slots da (length dat)) dat in
    let S = line_of (last_slot e) [] in
    let nt : length T ≡ text_length (image_slots ta (length text)) = length-written (image_slots ta (length text)) text (sym (image-data ta (length text))) in
    let nd : length D ≡ text_length (image_slots da (length dat)) = length-written (image_slots da (length dat)) dat (sym (image-data da (length dat))) in
    let f : o₃ ≡ sets o₁ p (D ++ S) = join o₁ o₂ o₃ p q D S e₂ (omega arith) e₃ in
    let g : o₃ ≡ sets o₀ 0 (T ++ (D ++ S)) = join o₀ o₁ o₃ 0 p T (D ++ S) e₁ (omega arith) f in
    let all : length (T ++ (D ++ S)) ≡ length o₀ = omega (arith, length-append T (D ++ S), length-append D S, length-line (last_slot e) [], shape-length ta (length text) da (length dat) e) in
    g ∙ sets-whole o₀ (T ++ (D ++ S)) all ∙ sym (text-parts ta text da dat e)
