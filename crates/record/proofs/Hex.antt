-- Digits, and a text that holds a list at a place. Assumes nothing.
use mathlib.Core.Path.{◌≡◌, refl, sym, ◌∙◌, ap}
use mathlib.Core.Bool.{Bool, true, false, ◌&&◌}
use mathlib.Core.List.{List, [], ◌∷◌, ◌++◌}
use Prim.Native.Nat.{ℕ, zero, suc, ◌+◌, ◌-◌, ◌*◌, ◌/◌, ◌%◌, ◌≤◌, ◌<◌}
use native.Mathlib.Nat.{add-zero}
use native.Mathlib.Omega.{arith}
use borrow.Author.Tests.{ltb-true, ltb-false, eqb-true, eq-eqb}
use lib.Dec.{ltb, eqb}
use lib.ListN.{length, get_or}
use Rattle.word.proofs.Test.{either, and_first, and_second}
use Rattle.update.specs.Update.{Bytes}
use Rattle.record.specs.Record.{digit_of, hex_of, digit_in, byte_in, data_at, holds}

-- by a test
pub cases : {P : Type 0} (b : Bool) → (b ≡ true → P) → (b ≡ false → P) → P
cases true h k = h refl
cases false h k = k refl

-- a digit's character is read as the digit
pub digit-read : (d : ℕ) → d < 16 → digit_in (digit_of d) ≡ d
unfolding digit_of digit_in
digit-read d h =
    either (λ c. (c % 16 + c / 64 * 9) % 16 ≡ d) (ltb d 10)
    (λ e.
    let k : d < 10 = ltb-true d 10 e in
    let q : (48 + d) / 64 ≡ 0 = omega arith in
    let r : (48 + d) % 16 ≡ d = omega arith in
    rw (q, r) (omega arith))
    (λ e.
    let k : 10 ≤ d = ltb-false d 10 e in
    let q : (55 + d) / 64 ≡ 1 = omega arith in
    let r : (55 + d) % 16 ≡ d - 9 = omega arith in
    rw (q, r) (omega arith))

-- by a test, as the code has it: a letter stands 7 further on
pub digit-number : (d l : ℕ) → d ≤ 9 → l ≡ 0 → 48 + d + l ≡ digit_of d
unfolding digit_of
digit-number d l h e = either (λ c. 48 + d + l ≡ c) (ltb d 10) (λ g. omega arith) (λ g. let k : 10 ≤ d = ltb-false d 10 g in absurd (omega arith))

pub digit-letter : (d l : ℕ) → 9 < d → l ≡ 7 → 48 + d + l ≡ digit_of d
unfolding digit_of
digit-letter d l h e = either (λ c. 48 + d + l ≡ c) (ltb d 10) (λ g. let k : d < 10 = ltb-true d 10 g in absurd (omega arith)) (λ g. omega arith)

pub digit_in-lt : (c : ℕ) → digit_in c < 16
unfolding digit_in
digit_in-lt c = omega arith

pub hex-append : (x y : List ℕ) → hex_of (x ++ y) ≡ hex_of x ++ hex_of y
unfolding hex_of
hex-append [] y = refl
hex-append (b ∷ x) y = ap (λ (l : List ℕ). digit_of (b / 16) ∷ digit_of (b % 16) ∷ l) (hex-append x y)

pub length-hex : (x : List ℕ) → length (hex_of x) ≡ 2 * length x
unfolding hex_of
length-hex [] = refl
length-hex (b ∷ x) = omega (arith, length-hex x)

pub byte_in-lt : (t : List ℕ) (p : ℕ) → byte_in t p < 256
unfolding byte_in
byte_in-lt t p = omega (arith, digit_in-lt (get_or t p 0), digit_in-lt (get_or t (p + 1) 0))

pub length-data : (t : List ℕ) (p n : ℕ) → length (data_at t p n) ≡ n
unfolding data_at
length-data t p zero = refl
length-data t p (suc n) = ap suc (length-data t (p + 2) n)

pub bytes-data : (t : List ℕ) (p n : ℕ) → Bytes (data_at t p n)
unfolding data_at
bytes-data t p zero k = omega arith
bytes-data t p (suc n) zero = byte_in-lt t p
bytes-data t p (suc n) (suc k) = bytes-data t (p + 2) n k

-- both parts of what is held
and_both : (a b : Bool) → a ≡ true → b ≡ true → (a && b) ≡ true
and_both a b p q = rw (p, q) refl

assoc-test : (a b c : Bool) → (a && (b && c)) ≡ ((a && b) && c)
assoc-test true b c = refl
assoc-test false b c = refl

pub holds-append : (t : List ℕ) (p : ℕ) (x y : List ℕ) → holds t p (x ++ y) ≡ (holds t p x && holds t (p + length x) y)
unfolding holds
holds-append t p [] y = ap (λ (k : ℕ). holds t k y) (sym (add-zero p))
holds-append t p (b ∷ x) y =
    ap (λ (r : Bool). eqb (get_or t p 0) b && r) (holds-append t (p + 1) x y)
    ∙ assoc-test (eqb (get_or t p 0) b) (holds t (p + 1) x) (holds t (p + 1 + length x) y)
    ∙ ap (λ (k : ℕ). (eqb (get_or t p 0) b && holds t (p + 1) x) && holds t k y) (omega arith)

-- what is held, place by place
pub holds-get : (t : List ℕ) (p : ℕ) (x : List ℕ) → holds t p x ≡ true → (k : ℕ) → k < length x → get_or t (p + k) 0 ≡ get_or x k 0
unfolding holds
holds-get t p [] e k h = absurd (omega arith)
holds-get t p (b ∷ x) e zero h = rw (add-zero p) (eqb-true (get_or t p 0) b (and_first _ _ e))
holds-get t p (b ∷ x) e (suc k) h =
    ap (λ (j : ℕ). get_or t j 0) (omega arith) ∙ holds-get t (p + 1) x (and_second (eqb (get_or t p 0) b) _ e) k (omega arith)

pub get_holds : (t : List ℕ) (p : ℕ) (x : List ℕ) → ((k : ℕ) → k < length x → get_or t (p + k) 0 ≡ get_or x k 0) → holds t p x ≡ true
unfolding holds
get_holds t p [] h = refl
get_holds t p (b ∷ x) h =
    and_both _ _
    (eq-eqb (get_or t p 0) b (rw (add-zero p) at (h 0 (omega arith))))
    (get_holds t (p + 1) x (λ k l. ap (λ (j : ℕ). get_or t j 0) (omega arith) ∙ h (suc k) (omega arith)))

-- digits that are held are read as the bytes that they were written of
pub data-held : (t : List ℕ) (p : ℕ) (ds : List ℕ) → Bytes ds → holds t p (hex_of ds) ≡ true → data_at t p (length ds) ≡ ds
unfolding hex_of holds data_at byte_in
data-held t p [] bs e = refl
data-held t p (d ∷ ds) bs e =
    let small : d < 256 = bs 0 in
    let second = and_second (eqb (get_or t p 0) (digit_of (d / 16))) _ e in
    let high : get_or t p 0 ≡ digit_of (d / 16) = eqb-true _ _ (and_first _ _ e) in
    let low : get_or t (p + 1) 0 ≡ digit_of (d % 16) = eqb-true _ _ (and_first _ _ second) in
    let rest : holds t (p + 1 + 1) (hex_of ds) ≡ true = and_second (eqb (get_or t (p + 1) 0) (digit_of (d % 16))) _ second in
    let step : p + 1 + 1 ≡ p + 2 = omega arith in
    let one : digit_in (get_or t p 0) * 16 + digit_in (get_or t (p + 1) 0) ≡ d =
    rw (high, low, digit-read (d / 16) (omega arith), digit-read (d % 16) (omega arith)) (omega arith)
    in
    rw one (ap (λ (l : List ℕ). d ∷ l) (data-held t (p + 2) ds (λ k. bs (suc k)) (rw step at rest)))
