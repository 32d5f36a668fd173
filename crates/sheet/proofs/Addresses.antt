-- Laws of the addresses of a sheet as a list and as bytes, and of the loops that read and write them. Assumes nothing.
use mathlib.Core.Path.{◌≡◌, refl, sym, ◌∙◌, ap}
use mathlib.Core.List.{List, [], ◌∷◌, ◌++◌}
use Prim.Native.Nat.{ℕ, zero, suc, ◌+◌, ◌-◌, ◌*◌, ◌<◌, ◌≤◌, ◌^◌}
use native.Mathlib.Nat.{zero-add, mod-eq_of_lt}
use native.Mathlib.Numerals.{add-one}
use native.Mathlib.Omega.{arith}
use lib.ListN.{length, get_or, take, drop, set, length-append, take-append-drop, drop_of_length-le}
use lib.Seq.{sets, take_at, drop-append-add, drop-drop, drop-cons}
use Rattle.word.specs.Number.{value_of, field_at}
use Rattle.update.specs.Update.{bytes_of_number, put_field, Bytes}
use Rattle.update.proofs.Laws.{length-bytes, value-bytes, put-field}
use Rattle.update.proofs.Stores.{sets-append, part-stored, sets-whole}
use Rattle.sheet.specs.Sheet.{count_width, head_length, sheet_length, numbers_from, address_bytes, sheet_bytes}
use Rattle.sheet.specs.declared.SheetForm.{SheetForm}

-- ---- lengths

-- n numbers are read
pub length-numbers : (s : List ℕ) (off n : ℕ) → length (numbers_from s off n) ≡ n
unfolding numbers_from
length-numbers s off zero = refl
length-numbers s off (suc n) = ap suc (length-numbers s (off + 8) n)

-- each address takes 8 bytes
pub length-addresses : (list : List ℕ) → length (address_bytes list) ≡ length list * 8
unfolding address_bytes
length-addresses [] = refl
length-addresses (a ∷ list) =
    rw (length-append (bytes_of_number 8 a) (address_bytes list), length-bytes 8 a, length-addresses list) (omega arith)

-- a sheet of k addresses has the length that k needs
pub length-sheet : (f : SheetForm) (text dat : ℕ) (list : List ℕ) → length (sheet_bytes f text dat list) ≡ sheet_length f (length list)
unfolding sheet_bytes
length-sheet f text dat list =
    simp (length-append, length-bytes, length-addresses) (omega arith)

-- ---- the loops

-- one address read more
pub fill-next : (s l : List ℕ) (off i n v : ℕ) → i < n → v ≡ field_at 8 (off + i * 8) s → sets (set l i v) (i + 1) (numbers_from s (off + (i + 1) * 8) (n - (i + 1))) ≡ sets l i (numbers_from s (off + i * 8) (n - i))
unfolding numbers_from
fill-next s l off i n v h e =
    let left : n - i ≡ suc (n - (i + 1)) = omega arith in
    let place : off + (i + 1) * 8 ≡ off + i * 8 + 8 = omega arith in
    rw (left, place, add-one i, e) refl

-- none is left to read
pub fill_end : (s l : List ℕ) (off i n : ℕ) → n ≤ i → sets l i (numbers_from s off (n - i)) ≡ l
unfolding numbers_from
fill_end s l off i n h = let left : n - i ≡ 0 = omega arith in rw left refl

-- a number put into its field, and then bytes after it
put_then : (w off v : ℕ) (s t : List ℕ) → sets (put_field w off v s) (off + w) t ≡ sets s off (bytes_of_number w v ++ t)
unfolding put_field
put_then w off v s t =
    ap (λ (k : ℕ). sets (sets s off (bytes_of_number w v)) (off + k) t) (sym (length-bytes w v)) ∙ sym (sets-append s off (bytes_of_number w v) t)

-- one address written more
pub write-next : (s list : List ℕ) (off i : ℕ) → i < length list → sets (put_field 8 (off + i * 8) (get_or list i 0) s) (off + (i + 1) * 8) (address_bytes (drop (i + 1) list)) ≡ sets s (off + i * 8) (address_bytes (drop i list))
unfolding address_bytes
write-next s list off i h =
    let place : off + (i + 1) * 8 ≡ off + i * 8 + 8 = omega arith in
    rw (place, add-one i, drop-cons list i 0 h) (put_then 8 (off + i * 8) (get_or list i 0) s (address_bytes (drop (suc i) list)))

-- none is left to write
pub write-end : (s list : List ℕ) (off i : ℕ) → length list ≤ i → sets s off (address_bytes (drop i list)) ≡ s
unfolding address_bytes
write-end s list off i h = rw (drop_of_length-le list h) refl

-- the four numbers of the head and the addresses after them are the sheet
pub sheet-written : (f : SheetForm) (text dat : ℕ) (list s : List ℕ) → length s ≡ sheet_length f (length list) → sets (put_field (count_width f) (count_width f + 8 + 8) (length list) (put_field 8 (count_width f + 8) dat (put_field 8 (count_width f) text (put_field (count_width f) 0 2 s)))) (head_length f) (address_bytes list) ≡ sheet_bytes f text dat list
unfolding sheet_bytes
sheet-written f text dat list s h =
    let w : ℕ = count_width f in
    let first = put_field w 0 2 s in
    let second = put_field 8 w text first in
    let third = put_field 8 (w + 8) dat second in
    let last : List ℕ = address_bytes list in
    let from_count : List ℕ = bytes_of_number w (length list) ++ last in
    let from_data : List ℕ = bytes_of_number 8 dat ++ from_count in
    let from_text : List ℕ = bytes_of_number 8 text ++ from_data in
    put_then w (w + 8 + 8) (length list) third last
    ∙ put_then 8 (w + 8) dat second from_count
    ∙ put_then 8 w text first from_data
    ∙ ap (λ (k : ℕ). sets first k from_text) (sym (zero-add w))
    ∙ put_then w 0 2 s from_text
    ∙ sets-whole s (bytes_of_number w 2 ++ from_text) (length-sheet f text dat list ∙ sym h)

-- ---- numbers and bytes

-- a number's bytes at the start are read as that number
pub field-first : (w v : ℕ) (t : List ℕ) → v < 256 ^ w → field_at w 0 (bytes_of_number w v ++ t) ≡ v
unfolding field_at
field-first w v t h =
    ap value_of (take_at (bytes_of_number w v) t w (length-bytes w v)) ∙ value-bytes w v ∙ mod-eq_of_lt h

-- what is after a number's n bytes, from n places later on
drop-later : (n v off : ℕ) (t : List ℕ) → drop (n + off) (bytes_of_number n v ++ t) ≡ drop off t
drop-later n v off t =
    ap (λ (k : ℕ). drop (k + off) (bytes_of_number n v ++ t)) (sym (length-bytes n v)) ∙ drop-append-add (bytes_of_number n v) t off

-- so a field after them is n places later
pub field-later : (n v w place off : ℕ) (t : List ℕ) → place ≡ n + off → field_at w place (bytes_of_number n v ++ t) ≡ field_at w off t
unfolding field_at
field-later n v w place off t e = rw e (ap (λ (x : List ℕ). value_of (take w x)) (drop-later n v off t))

-- and so are the numbers after them
pub numbers-later : (n v k place off : ℕ) (t : List ℕ) → place ≡ n + off → numbers_from (bytes_of_number n v ++ t) place k ≡ numbers_from t off k
unfolding numbers_from
numbers-later n v zero place off t e = refl
numbers-later n v (suc k) place off t e =
    rw (field-later n v 8 place off t e, numbers-later n v k (place + 8) (off + 8) t (omega arith)) refl

-- the bytes of addresses are read as those addresses
pub numbers-addresses : (list : List ℕ) → ((k : ℕ) → get_or list k 0 < 2 ^ 64) → numbers_from (address_bytes list) 0 (length list) ≡ list
unfolding numbers_from address_bytes
numbers-addresses [] h = refl
numbers-addresses (a ∷ list) h =
    let small : a < 256 ^ 8 = omega (arith, h 0) in
    rw (field-first 8 a (address_bytes list) small, numbers-later 8 a (length list) (0 + 8) 0 (address_bytes list) refl, numbers-addresses list (λ k. h (suc k))) refl

-- a field's number has the field's bytes
bytes-field : (w off : ℕ) (s : List ℕ) → Bytes s → off + w ≤ length s → bytes_of_number w (field_at w off s) ≡ take w (drop off s)
unfolding put_field
bytes-field w off s b h =
    sym (part-stored s off w (bytes_of_number w (field_at w off s)) (length-bytes w (field_at w off s)) h)
    ∙ ap (λ (x : List ℕ). take w (drop off x)) (put-field w off s b h)

-- with the bytes after the field they are the bytes from the field on
pub bytes-then : (w off : ℕ) (s t : List ℕ) → Bytes s → off + w ≤ length s → t ≡ drop (off + w) s → bytes_of_number w (field_at w off s) ++ t ≡ drop off s
bytes-then w off s t b h e = rw (e, ← drop-drop w off s, bytes-field w off s b h) (take-append-drop w (drop off s))

-- the addresses read from the end of a sheet have the sheet's bytes
pub addresses-numbers : (s : List ℕ) (off n : ℕ) → Bytes s → off + n * 8 ≡ length s → address_bytes (numbers_from s off n) ≡ drop off s
unfolding numbers_from address_bytes
addresses-numbers s off zero b h = sym (drop_of_length-le s {i = off} (omega arith))
addresses-numbers s off (suc n) b h =
    bytes-then 8 off s (address_bytes (numbers_from s (off + 8) n)) b (omega arith) (addresses-numbers s (off + 8) n b (omega arith))
