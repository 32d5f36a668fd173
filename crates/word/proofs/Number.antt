-- The laws of numbers in bytes, once over the width. Assumes nothing.
use mathlib.Core.Path.{◌≡◌, ◌∙◌}
use mathlib.Core.List.{List, [], ◌∷◌, ◌++◌}
use Prim.Native.Nat.{ℕ, ◌+◌, ◌*◌, ◌/◌, ◌%◌, ◌^◌, ◌≤◌, ◌<◌}
use native.Mathlib.Omega.{arith}
use lib.ListN.{length, get_or, take, drop, length-append, length-drop}
use lib.Seq.{take-add, drop-drop, length-take-le, drop-cons}
use lib.Pow.{pow-add}
use Rattle.word.specs.Number.{value_of, field_at}

-- the bytes of a field that is whole
pub length-field : (w off : ℕ) (bs : List ℕ) → off + w ≤ length bs → length (take w (drop off bs)) ≡ w
length-field w off bs h = length-take-le w (drop off bs) (rw length-drop (omega arith))

value-append : (xs ys : List ℕ) → value_of (xs ++ ys) ≡ value_of xs * 256 ^ length ys + value_of ys
unfolding value_of
value-append [] ys = omega arith
value-append (x ∷ xs) ys = rw (length-append xs ys, pow-add 256 (length xs) (length ys), value-append xs ys) (omega arith)

-- a field is its first a bytes and its last b
pub field-split : (a b off : ℕ) (bs : List ℕ) → off + (a + b) ≤ length bs → field_at (a + b) off bs ≡ field_at a off bs * 256 ^ b + field_at b (off + a) bs
unfolding field_at
field-split a b off bs h =
    let n : length (take b (drop (off + a) bs)) ≡ b = length-field b (off + a) bs (omega arith) in
    rw (take-add a b (drop off bs), drop-drop a off bs, value-append, n)

-- a field of one byte
pub field-one : (off : ℕ) (bs : List ℕ) → off + 1 ≤ length bs → field_at 1 off bs ≡ get_or bs off 0
unfolding field_at value_of
field-one off bs h = rw (drop-cons bs off 0 (omega arith)) (omega arith)

-- a field of four bytes, byte by byte
pub field-four : (off : ℕ) (bs : List ℕ) → off + 4 ≤ length bs → field_at 4 off bs ≡ get_or bs off 0 * 16777216 + get_or bs (off + 1) 0 * 65536 + get_or bs (off + 2) 0 * 256 + get_or bs (off + 3) 0
field-four off bs h =
    let q : off + 2 + 1 ≡ off + 3 = omega arith in
    let halves = field-split 2 2 off bs h in
    let high = field-split 1 1 off bs (omega arith) in
    let low = rw q at (field-split 1 1 (off + 2) bs (omega arith)) in
    omega (arith, halves, high, low, field-one off bs (omega arith), field-one (off + 1) bs (omega arith), field-one (off + 2) bs (omega arith), field-one (off + 3) bs (omega arith))

-- the lower and the upper digit of a number, in three bases
byte-digits : (x y : ℕ) → x < 256 → ((x + y * 256) % 256 ≡ x) × ((x + y * 256) / 256 ≡ y)
byte-digits x y h = (omega arith, omega arith)

half-digits : (a b y : ℕ) → a < 256 → b < 256 → (a + b * 256 + y * 65536) / 65536 ≡ y
half-digits a b y p q = omega arith

top_digits : (a b c y : ℕ) → a < 256 → b < 256 → c < 256 → (a + b * 256 + c * 65536 + y * 16777216) / 16777216 ≡ y
top_digits a b c y p q r = omega arith

-- four bytes loaded with the least significant first, and then swapped
pub swapped : (a b c d v r : ℕ) → v ≡ a + b * 256 + c * 65536 + d * 16777216 → (a < 256) × (b < 256) × (c < 256) × (d < 256)
    → r ≡ v % 256 * 16777216 + v / 256 % 256 * 65536 + v / 65536 % 256 * 256 + v / 16777216
    → r ≡ a * 16777216 + b * 65536 + c * 256 + d
swapped a b c d v r e h s =
    let e1 : v ≡ a + (b + (c + d * 256) * 256) * 256 = e ∙ omega arith in
    let e2 : v ≡ (a + b * 256) + (c + d * 256) * 65536 = e ∙ omega arith in
    let last : v % 256 ≡ a = rw e1 (byte-digits a (b + (c + d * 256) * 256) h.0).0 in
    let third : v / 256 ≡ b + (c + d * 256) * 256 = rw e1 (byte-digits a (b + (c + d * 256) * 256) h.0).1 in
    let second : v / 65536 ≡ c + d * 256 = rw e2 (half-digits a b (c + d * 256) h.0 h.1) in
    let first : v / 16777216 ≡ d = rw e (top_digits a b c d h.0 h.1 h.2) in
    rw (last, third, second, first, (byte-digits b (c + d * 256) h.1).0, (byte-digits c d h.2).0) at s
