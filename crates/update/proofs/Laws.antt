-- Laws of fields that are written and added to, once over the width w in bytes. Assumes nothing.
use Rattle.std.proofs.Common.{◌≡◌, ℕ, zero, suc, ◌+◌, ◌-◌, ◌*◌, ◌/◌, ◌%◌, ◌^◌, ◌<◌, ◌≤◌, ◌⊎◌, List, [], ◌∷◌, ◌++◌, length, get_or, take, drop, set, ℤ, pos, ◌+ℤ◌, neg_ℤ, sym, refl, ap, ◌∙◌, subst, append_assoc, mod-eq_of_lt, zero-lt-suc, mul_assoc, mul_comm, suc-add, div-add-mod', zero-add, arith, take-append-drop, length-take, get_or-drop, get_or-take, drop-drop, ext_get_or, pow-add}
use mathlib.Core.Path.{fun_ext}
use mathlib.Core.Logic.{⊎_swap}
use native.Mathlib.Nat.{mod-one, pow-succ', one-le-pow, div-div-eq-div-mul, mul-add-div_right, mul-add-mod_self_right, add-mod-mod, mod-mod}
use native.Mathlib.Decide.{dec_lt}
use lib.ListN.{get_or-eq_default}
use lib.Seq.{sets, length-sets, sets-eq}
use lib.Arith.{mod-mul, digits_div, digits_lt}
use lib.IntN.{+ℤ_assoc, +ℤ_comm, +ℤ_idr, +ℤ_invr}
use Rattle.word.specs.Number.{value_of, field_at}
use Rattle.word.proofs.Number.{length-field}
use Rattle.update.specs.Update.{bytes_of_number, put_field, update, remainder, add_in, add_field, Apart, Bytes}
use Rattle.update.proofs.Remainder.{remainder-lt, remainder-small, remainder-cong, remainder-add, remainder-sub}
use Rattle.update.proofs.Stores.{sets-apart, sets_same, sets-append, sets-outside, sets-inside, part-outside, part-stored}

-- ---- a number and its bytes

-- 256 ^ w is never 0
pub power-positive : (w : ℕ) → 0 < 256 ^ w
power-positive w = one-le-pow w 256 (zero-lt-suc 255)

-- the w bytes of a number are w
pub length-bytes : (w v : ℕ) → length (bytes_of_number w v) ≡ w
unfolding bytes_of_number
length-bytes zero v = refl
length-bytes (suc w) v = ap suc (length-bytes w v)

-- the w bytes of a number stand for it, without what passes w bytes
pub value-bytes : (w v : ℕ) → value_of (bytes_of_number w v) ≡ v % 256 ^ w
unfolding bytes_of_number value_of
value-bytes zero v = sym (mod-one v)
value-bytes (suc w) v =
    simp (length-bytes w v, value-bytes w v, pow-succ' 256 w) (sym (mod-mul v {m = 256} {c = 256 ^ w} (zero-lt-suc 255) (power-positive w)))

-- bytes stand for a number that fits them
pub value-lt : (bs : List ℕ) → Bytes bs → value_of bs < 256 ^ length bs
unfolding value_of
value-lt [] h = omega arith
value-lt (b ∷ bs) h = rw (pow-succ' 256 (length bs)) (digits_lt (h 0) (value-lt bs (λ k. h (suc k))))

-- what is above w bytes is not in the w bytes
bytes_low : (w q v : ℕ) → bytes_of_number w (q * 256 ^ w + v) ≡ bytes_of_number w v
unfolding bytes_of_number
bytes_low zero q v = refl
bytes_low (suc w) q v =
    let e : q * 256 ^ suc w ≡ q * 256 * 256 ^ w = ap (λ (k : ℕ). q * k) (pow-succ' 256 w) ∙ sym (mul_assoc q 256 (256 ^ w)) in
    rw (e, mul-add-div_right (power-positive w) (q * 256) v, mul-add-mod_self_right q 256 (v / 256 ^ w), bytes_low w (q * 256) v)

-- so a number and its remainder have the same w bytes
bytes-remainder : (w v : ℕ) → bytes_of_number w (v % 256 ^ w) ≡ bytes_of_number w v
bytes-remainder w v = sym (bytes_low w (v / 256 ^ w) (v % 256 ^ w)) ∙ ap (λ (k : ℕ). bytes_of_number w k) (div-add-mod' v (256 ^ w))

-- the bytes of the number that bytes stand for are those bytes
pub bytes-value : (bs : List ℕ) → Bytes bs → bytes_of_number (length bs) (value_of bs) ≡ bs
unfolding bytes_of_number value_of
bytes-value [] h = refl
bytes-value (b ∷ bs) h =
    let small : value_of bs < 256 ^ length bs = value-lt bs (λ k. h (suc k)) in
    let q : (b * 256 ^ length bs + value_of bs) / 256 ^ length bs ≡ b = digits_div b small in
    let r : b % 256 ≡ b = mod-eq_of_lt (h 0) in
    rw (q, r) (ap (λ (x : List ℕ). b ∷ x) (bytes_low (length bs) b (value_of bs) ∙ bytes-value bs (λ k. h (suc k))))

-- the a + b bytes of a number are its high a bytes and its low b
bytes-split : (a b v : ℕ) → bytes_of_number (a + b) v ≡ bytes_of_number a (v / 256 ^ b) ++ bytes_of_number b v
unfolding bytes_of_number
bytes-split zero b v = ap (λ (k : ℕ). bytes_of_number k v) (zero-add b)
bytes-split (suc a) b v =
    let q : v / 256 ^ (a + b) ≡ v / 256 ^ b / 256 ^ a =
    ap (λ (k : ℕ). v / k) (pow-add 256 a b ∙ mul_comm (256 ^ a) (256 ^ b)) ∙ sym (div-div-eq-div-mul v (256 ^ b) (256 ^ a)) in
    rw (suc-add a b, q, bytes-split a b v)

-- ---- a field that is written

-- a write keeps the length
pub length-put : (w off v : ℕ) (bs : List ℕ) → length (put_field w off v bs) ≡ length bs
unfolding put_field
length-put w off v bs = length-sets bs off (bytes_of_number w v)

-- a field that was written holds what was written, without what passes its width
pub field_put : (w off v : ℕ) (bs : List ℕ) → off + w ≤ length bs → field_at w off (put_field w off v bs) ≡ v % 256 ^ w
unfolding put_field field_at
field_put w off v bs h = ap value_of (part-stored bs off w (bytes_of_number w v) (length-bytes w v) h) ∙ value-bytes w v

-- a field apart from the written one holds what it held
pub field_apart : (w off v w' off' : ℕ) (bs : List ℕ) → Apart off w off' w' → field_at w' off' (put_field w off v bs) ≡ field_at w' off' bs
unfolding put_field field_at
field_apart w off v w' off' bs h = ap value_of (part-outside bs off off' w' (bytes_of_number w v) (rw length-bytes h))

-- of two writes of one field the later stays
pub put-put : (w off v u : ℕ) (bs : List ℕ) → put_field w off u (put_field w off v bs) ≡ put_field w off u bs
unfolding put_field
put-put w off v u bs = sets_same bs off (bytes_of_number w v) (bytes_of_number w u) (length-bytes w v ∙ sym (length-bytes w u))

-- writes of fields apart can change places
pub put-apart : (w off v w' off' u : ℕ) (bs : List ℕ) → Apart off w off' w' → put_field w off v (put_field w' off' u bs) ≡ put_field w' off' u (put_field w off v bs)
unfolding put_field
put-apart w off v w' off' u bs h = sets-apart bs off off' (bytes_of_number w v) (bytes_of_number w' u) (rw (length-bytes w v, length-bytes w' u) h)

-- a byte outside the written field is unchanged
pub put-outside : (w off v k : ℕ) (bs : List ℕ) → (k < off) ⊎ (off + w ≤ k) → get_or (put_field w off v bs) k 0 ≡ get_or bs k 0
unfolding put_field
put-outside w off v k bs h = sets-outside bs off k (bytes_of_number w v) 0 (rw length-bytes h)

-- a byte inside it is a byte of the number
pub put-inside : (w off v k : ℕ) (bs : List ℕ) → off + w ≤ length bs → off ≤ k → k < off + w → get_or (put_field w off v bs) k 0 ≡ get_or (bytes_of_number w v) (k - off) 0
unfolding put_field
put-inside w off v k bs h a b =
    let n : length (bytes_of_number w v) ≡ w = length-bytes w v in
    sets-inside bs off k (bytes_of_number w v) 0 (omega arith) a (omega arith)

-- a field is written by its first a bytes and its last b
pub put-split : (a b off v : ℕ) (bs : List ℕ) → put_field (a + b) off v bs ≡ put_field b (off + a) (v % 256 ^ b) (put_field a off (v / 256 ^ b) bs)
unfolding put_field
put-split a b off v bs = rw (bytes-split a b v, sets-append, length-bytes a (v / 256 ^ b), bytes-remainder b v)

-- a field of one byte
pub put_one : (off v : ℕ) (bs : List ℕ) → v < 256 → put_field 1 off v bs ≡ set bs off v
unfolding put_field bytes_of_number
put_one off v bs h =
    let e : v / 256 ^ 0 % 256 ≡ v = omega arith in
    ap (λ (k : ℕ). set bs off k) e

-- a part of a list of bytes is a list of bytes
bytes-part : (w off : ℕ) (bs : List ℕ) → Bytes bs → Bytes (take w (drop off bs))
bytes-part w off bs h k = go (dec_lt k w)
  where
    go : Dec (k < w) → get_or (take w (drop off bs)) k 0 < 256
    go (yes a) = rw (get_or-take w (drop off bs) k 0 a, get_or-drop) (h (off + k))
    go (no b) =
        let z : get_or (take w (drop off bs)) k 0 ≡ 0 = get_or-eq_default (take w (drop off bs)) 0 (rw length-take (omega arith)) in omega arith

-- the field of a list of bytes fits its width
pub field_lt : (w off : ℕ) (bs : List ℕ) → Bytes bs → off + w ≤ length bs → field_at w off bs < 256 ^ w
unfolding field_at
field_lt w off bs h r =
    subst (λ (k : ℕ). value_of (take w (drop off bs)) < 256 ^ k) (length-field w off bs r) (value-lt (take w (drop off bs)) (bytes-part w off bs h))

-- a part written over itself
sets-own : (w off : ℕ) (bs : List ℕ) → off + w ≤ length bs → sets bs off (take w (drop off bs)) ≡ bs
sets-own w off bs h =
    let n : length (take w (drop off bs)) ≡ w = length-field w off bs h in
    sets-eq (take w (drop off bs)) bs off (omega arith)
    ∙ rw (n, append_assoc (take off bs) (take w (drop off bs)) (drop (off + w) bs), ← drop-drop w off bs, take-append-drop w (drop off bs), take-append-drop off bs)

-- a field written with what it holds
pub put-field : (w off : ℕ) (bs : List ℕ) → Bytes bs → off + w ≤ length bs → put_field w off (field_at w off bs) bs ≡ bs
unfolding put_field field_at
put-field w off bs h r =
    let f : List ℕ = take w (drop off bs) in
    let e : bytes_of_number w (value_of f) ≡ f =
    subst (λ (k : ℕ). bytes_of_number k (value_of f) ≡ f) (length-field w off bs r) (bytes-value f (bytes-part w off bs h)) in
    ap (λ (x : List ℕ). sets bs off x) e ∙ sets-own w off bs r

-- ---- a field whose number is changed by a function

-- a change of a field keeps the length
pub length-update : (w off : ℕ) (f : ℕ → ℕ) (bs : List ℕ) → length (update w off f bs) ≡ length bs
unfolding update
length-update w off f bs = length-put w off (f (field_at w off bs)) bs

-- a byte outside the changed field is unchanged
pub update-outside : (w off k : ℕ) (f : ℕ → ℕ) (bs : List ℕ) → (k < off) ⊎ (off + w ≤ k) → get_or (update w off f bs) k 0 ≡ get_or bs k 0
unfolding update
update-outside w off k f bs h = put-outside w off (f (field_at w off bs)) k bs h

-- two changes of one field are one, if the first fits the field
pub update-update : (w off : ℕ) (f g : ℕ → ℕ) (bs : List ℕ) → off + w ≤ length bs → f (field_at w off bs) < 256 ^ w → update w off g (update w off f bs) ≡ update w off (λ v. g (f v)) bs
unfolding update
update-update w off f g bs h small =
    rw (field_put w off (f (field_at w off bs)) bs h, put-put, mod-eq_of_lt small)

-- changes of fields apart can change places
pub update_apart : (w off w' off' : ℕ) (f g : ℕ → ℕ) (bs : List ℕ) → Apart off w off' w' → update w off f (update w' off' g bs) ≡ update w' off' g (update w off f bs)
unfolding update
update_apart w off w' off' f g bs h =
    rw (field_apart w' off' (g (field_at w' off' bs)) w off bs (⊎_swap h), field_apart w off (f (field_at w off bs)) w' off' bs h)
    (put-apart w off (f (field_at w off bs)) w' off' (g (field_at w' off' bs)) bs h)

-- fields of equal bytes are equal
pub field-agree : (w off : ℕ) (xs ys : List ℕ) → off + w ≤ length xs → off + w ≤ length ys → ((k : ℕ) → off ≤ k → k < off + w → get_or xs k 0 ≡ get_or ys k 0) → field_at w off xs ≡ field_at w off ys
unfolding field_at
field-agree w off xs ys h h' e =
    ap value_of (ext_get_or 0 (take w (drop off xs)) (take w (drop off ys)) (length-field w off xs h ∙ sym (length-field w off ys h')) at)
  where
    at : (i : ℕ) → i < length (take w (drop off xs)) → get_or (take w (drop off xs)) i 0 ≡ get_or (take w (drop off ys)) i 0
    at i l =
        let l' : i < w = omega (arith, length-field w off xs h) in
        rw (get_or-take w (drop off xs) i 0 l', get_or-take w (drop off ys) i 0 l', get_or-drop off xs i 0, get_or-drop off ys i 0) (e (off + i) (omega arith) (omega arith))

-- ---- a field to which an exact integer is added

-- a sum fits its width
pub add_in-lt : (w : ℕ) (z : ℤ) (v : ℕ) → add_in w z v < 256 ^ w
unfolding add_in
add_in-lt w z v = remainder-lt (256 ^ w) (power-positive w) (pos v +ℤ z)

-- a number plus a, then plus b, is the number plus a + b
pub add_in-add_in : (w : ℕ) (a b : ℤ) (v : ℕ) → add_in w b (add_in w a v) ≡ add_in w (a +ℤ b) v
unfolding add_in
add_in-add_in w a b v =
    remainder-add (256 ^ w) (power-positive w) (pos v +ℤ a) b ∙ ap (λ (k : ℤ). remainder k (256 ^ w)) (+ℤ_assoc (pos v) a b)

-- an addition keeps the length
pub length-add : (w off : ℕ) (z : ℤ) (bs : List ℕ) → length (add_field w off z bs) ≡ length bs
unfolding add_field
length-add w off z bs = length-update w off (add_in w z) bs

-- a byte outside the field is unchanged
pub add-outside : (w off k : ℕ) (z : ℤ) (bs : List ℕ) → (k < off) ⊎ (off + w ≤ k) → get_or (add_field w off z bs) k 0 ≡ get_or bs k 0
unfolding add_field
add-outside w off k z bs h = update-outside w off k (add_in w z) bs h

-- adding a, then b, is adding a + b
pub add-add : (w off : ℕ) (a b : ℤ) (bs : List ℕ) → off + w ≤ length bs → add_field w off b (add_field w off a bs) ≡ add_field w off (a +ℤ b) bs
unfolding add_field
add-add w off a b bs h =
    update-update w off (add_in w a) (add_in w b) bs h (add_in-lt w a (field_at w off bs))
    ∙ ap (λ (f : ℕ → ℕ). update w off f bs) (fun_ext (add_in-add_in w a b))

-- additions to fields apart can change places
pub add_apart : (w off w' off' : ℕ) (a b : ℤ) (bs : List ℕ) → Apart off w off' w' → add_field w off a (add_field w' off' b bs) ≡ add_field w' off' b (add_field w off a bs)
unfolding add_field
add_apart w off w' off' a b bs h = update_apart w off w' off' (add_in w a) (add_in w' b) bs h

-- additions to one field can change places
pub add_same : (w off : ℕ) (a b : ℤ) (bs : List ℕ) → off + w ≤ length bs → add_field w off a (add_field w off b bs) ≡ add_field w off b (add_field w off a bs)
add_same w off a b bs h =
    add-add w off b a bs h ∙ ap (λ (k : ℤ). add_field w off k bs) (+ℤ_comm b a) ∙ sym (add-add w off a b bs h)

-- integers with one remainder modulo 256 ^ w have one effect
pub add_cong : (w off : ℕ) (a b : ℤ) (bs : List ℕ) → remainder a (256 ^ w) ≡ remainder b (256 ^ w) → add_field w off a bs ≡ add_field w off b bs
unfolding add_field update add_in
add_cong w off a b bs e =
    let v : ℕ = field_at w off bs in
    ap (λ (k : ℕ). put_field w off k bs)
    (ap (λ (k : ℤ). remainder k (256 ^ w)) (+ℤ_comm (pos v) a) ∙ remainder-cong (256 ^ w) (power-positive w) a b (pos v) e
    ∙ ap (λ (k : ℤ). remainder k (256 ^ w)) (+ℤ_comm b (pos v)))

-- adding 0 changes nothing
pub add-zero : (w off : ℕ) (bs : List ℕ) → Bytes bs → off + w ≤ length bs → add_field w off (pos 0) bs ≡ bs
unfolding add_field update add_in
add-zero w off bs h r =
    ap (λ (k : ℕ). put_field w off k bs)
    (ap (λ (k : ℤ). remainder k (256 ^ w)) (+ℤ_idr (pos (field_at w off bs))) ∙ remainder-small (256 ^ w) (power-positive w) (field_at w off bs) (field_lt w off bs h r))
    ∙ put-field w off bs h r

-- subtracting what was added gives the bytes of before
pub add-inverse : (w off : ℕ) (z : ℤ) (bs : List ℕ) → Bytes bs → off + w ≤ length bs → add_field w off (neg_ℤ z) (add_field w off z bs) ≡ bs
add-inverse w off z bs h r =
    add-add w off z (neg_ℤ z) bs r ∙ ap (λ (k : ℤ). add_field w off k bs) (+ℤ_invr z) ∙ add-zero w off bs h r

-- the field's bytes afterwards depend on its bytes before and on nothing else
pub add-agree : (w off k : ℕ) (z : ℤ) (xs ys : List ℕ) → off + w ≤ length xs → off + w ≤ length ys → ((j : ℕ) → off ≤ j → j < off + w → get_or xs j 0 ≡ get_or ys j 0) → off ≤ k → k < off + w → get_or (add_field w off z xs) k 0 ≡ get_or (add_field w off z ys) k 0
unfolding add_field update
add-agree w off k z xs ys h h' e l u =
    put-inside w off (add_in w z (field_at w off xs)) k xs h l u
    ∙ ap (λ (v : ℕ). get_or (bytes_of_number w (add_in w z v)) (k - off) 0) (field-agree w off xs ys h h' e)
    ∙ sym (put-inside w off (add_in w z (field_at w off ys)) k ys h' l u)

-- ---- what the functions of this crate compute

-- a field set to its wrapping sum with d has d added
pub put-sum : (w off d r : ℕ) (bs : List ℕ) → r ≡ (field_at w off bs + d % 256 ^ w) % 256 ^ w → put_field w off r bs ≡ add_field w off (pos d) bs
unfolding add_field update add_in remainder
put-sum w off d r bs e =
    ap (λ (k : ℕ). put_field w off k bs) (e ∙ add-mod-mod (field_at w off bs) d (256 ^ w))

-- a field set to its wrapping difference with d has d subtracted
pub put-difference : (w off d r : ℕ) (bs : List ℕ) → r < 256 ^ w → (r + d % 256 ^ w) % 256 ^ w ≡ field_at w off bs → put_field w off r bs ≡ add_field w off (neg_ℤ (pos d)) bs
unfolding add_field update add_in
put-difference w off d r bs h e =
    ap (λ (k : ℕ). put_field w off k bs)
    (remainder-sub (256 ^ w) (power-positive w) r (pos (field_at w off bs)) (pos d) h (same (field_at w off bs) e))
  where
    same : (v : ℕ) → (r + d % 256 ^ w) % 256 ^ w ≡ v → remainder (pos (r + d)) (256 ^ w) ≡ remainder (pos v) (256 ^ w)
    same v e' = unfold remainder in
        (let f : (r + d) % 256 ^ w ≡ v = sym (add-mod-mod r d (256 ^ w)) ∙ e' in
        f ∙ sym (ap (λ (k : ℕ). k % 256 ^ w) (sym f) ∙ mod-mod (r + d) (256 ^ w) ∙ f))
