-- What a run of stores leaves, one piece at a time. Assumes nothing.
use mathlib.Core.Path.{◌≡◌, refl, sym, ◌∙◌, ap}
use mathlib.Core.List.{List, [], ◌∷◌, ◌++◌}
use Prim.Native.Nat.{ℕ, suc, ◌+◌, ◌-◌, ◌*◌, ◌/◌, ◌%◌, ◌≤◌, ◌<◌}
use native.Mathlib.Nat.{div-one}
use native.Mathlib.Omega.{arith}
use lib.ListN.{length, get_or, take, drop}
use lib.Seq.{sets, drop-cons}
use Rattle.std.specs.List.{sum}
use Rattle.std.proofs.lemmas.List.Recursion.{is_sum_by}
use Rattle.update.proofs.Stores.{sets-append}
use Rattle.update.specs.Update.{bytes_of_number}
use Rattle.record.specs.Record.{digit_of, hex_of, sum_of, checksum, slot, leading, line_of}
use Rattle.record.proofs.Lines.{head_of, tail_of, line-parts, length-head}
use Rattle.record.proofs.Hex.{length-hex, hex-append}

-- one list after another
pub join : (o₀ o₁ o₂ : List ℕ) (at q : ℕ) (x y : List ℕ) → o₁ ≡ sets o₀ at x → q ≡ at + length x → o₂ ≡ sets o₁ q y → o₂ ≡ sets o₀ at (x ++ y)
join o₀ o₁ o₂ at q x y e p f = f ∙ rw (e, p) (sym (sets-append o₀ at x y))

-- the first of what is left of a part
pub part-more : (l : List ℕ) (from n i : ℕ) → i < n → from + n ≤ length l → take (n - i) (drop (from + i) l) ≡ get_or l (from + i) 0 ∷ take (n - (i + 1)) (drop (from + (i + 1)) l)
part-more l from n i h k =
    let a : n - i ≡ suc (n - (i + 1)) = omega arith in
    let b : from + (i + 1) ≡ suc (from + i) = omega arith in
    let c : from + i < length l = omega arith in
    rw (a, b, drop-cons l (from + i) 0 c) refl

-- one byte more in hex
pub hex-next : (o : List ℕ) (p b : ℕ) (bs : List ℕ) → sets (sets o p (hex_of (b ∷ []))) (p + 2) (hex_of bs) ≡ sets o p (hex_of (b ∷ bs))
unfolding hex_of
hex-next o p b bs = let e : p + 2 ≡ suc (suc p) = omega arith in rw e refl

pub sum-append : (x y : List ℕ) → sum_of (x ++ y) ≡ sum_of x + sum_of y
unfolding sum_of
sum-append [] y = omega arith
sum-append (b ∷ x) y = omega (arith, sum-append x y)

pub sum-leading : (kind a n : ℕ) → sum_of (leading (slot kind a n)) ≡ n + 5 + a / 16777216 % 256 + a / 65536 % 256 + a / 256 % 256 + a % 256
unfolding sum_of leading bytes_of_number
sum-leading kind a n = omega arith

pub leading-is : (kind a n : ℕ) → leading (slot kind a n) ≡ (n + 5) ∷ a / 16777216 % 256 ∷ a / 65536 % 256 ∷ a / 256 % 256 ∷ a % 256 ∷ []
unfolding leading bytes_of_number
leading-is kind a n = ap (λ (z : ℕ). (n + 5) ∷ a / 16777216 % 256 ∷ a / 65536 % 256 ∷ a / 256 % 256 ∷ z % 256 ∷ []) (div-one a)

-- a sum's low byte and its complement
pub complement : (n : ℕ) → (255 - n % 256) + n % 256 ≡ 255
complement n = omega arith

-- the checksum by the two sums
pub checksum-by : (x y : List ℕ) (r s : ℕ) → s ≡ sum_of y → r + (sum_of x + s) % 256 ≡ 255 → r ≡ checksum (x ++ y)
unfolding checksum
checksum-by x y r s e h = rw (sum-append x y, sym e) (omega arith)

-- two digits
pub hex-stored : (o₀ o₁ o₂ : List ℕ) (at h l b : ℕ) → o₁ ≡ sets o₀ at (h ∷ []) → o₂ ≡ sets o₁ (at + 1) (l ∷ []) → h ≡ digit_of (b / 16) → l ≡ digit_of (b % 16) → o₂ ≡ sets o₀ at (hex_of (b ∷ []))
unfolding hex_of
hex-stored o₀ o₁ o₂ at h l b e f p q = let s : at + 1 ≡ suc at = omega arith in rw (f, e, p, q, s) refl

-- one byte more of a line's data
pub data-next : (o o₁ l : List ℕ) (at from n i : ℕ) → i < n → from + n ≤ length l → o₁ ≡ sets o (at + 2 * i) (hex_of (get_or l (from + i) 0 ∷ []))
    → sets o₁ (at + 2 * (i + 1)) (hex_of (take (n - (i + 1)) (drop (from + (i + 1)) l))) ≡ sets o (at + 2 * i) (hex_of (take (n - i) (drop (from + i) l)))
data-next o o₁ l at from n i h k e =
    let p : at + 2 * (i + 1) ≡ at + 2 * i + 2 = omega arith in
    rw (e, p, part-more l from n i h k) (hex-next o (at + 2 * i) (get_or l (from + i) 0) (take (n - (i + 1)) (drop (from + (i + 1)) l)))

-- nothing is left
pub data-end : (o l : List ℕ) (p from n i : ℕ) → n ≤ i → sets o p (hex_of (take (n - i) (drop (from + i) l))) ≡ o
unfolding hex_of
data-end o l p from n i h = let e : n - i ≡ 0 = omega arith in rw e refl

-- the sum is std's
pub sum-is : (b : List ℕ) → sum_of b ≡ sum b
unfolding sum_of
sum-is b = is_sum_by sum_of (λ x. x) refl (λ _ _. refl) b

-- what stands before the data
pub lead-stored : (o₀ o₁ o₂ o₃ o₄ o₅ o₆ o₇ : List ℕ) (at kind a n : ℕ) → o₁ ≡ sets o₀ at (83 ∷ []) → o₂ ≡ sets o₁ (at + 1) (kind ∷ []) → o₃ ≡ sets o₂ (at + 2) (hex_of ((n + 5) ∷ []))
    → o₄ ≡ sets o₃ (at + 4) (hex_of ((a / 16777216 % 256) ∷ [])) → o₅ ≡ sets o₄ (at + 6) (hex_of ((a / 65536 % 256) ∷ [])) → o₆ ≡ sets o₅ (at + 8) (hex_of ((a / 256 % 256) ∷ [])) → o₇ ≡ sets o₆ (at + 10) (hex_of ((a % 256) ∷ []))
    → o₇ ≡ sets o₀ at (83 ∷ kind ∷ hex_of (leading (slot kind a n)))
lead-stored o₀ o₁ o₂ o₃ o₄ o₅ o₆ o₇ at kind a n e₁ e₂ e₃ e₄ e₅ e₆ e₇ =
    let f₂ = join o₀ o₁ o₂ at (at + 1) (83 ∷ []) (kind ∷ []) e₁ refl e₂ in
    let f₃ = join o₀ o₂ o₃ at (at + 2) (83 ∷ kind ∷ []) (hex_of ((n + 5) ∷ [])) f₂ refl e₃ in
    let f₄ = join o₀ o₃ o₄ at (at + 4) (83 ∷ kind ∷ hex_of ((n + 5) ∷ [])) (hex_of ((a / 16777216 % 256) ∷ [])) f₃ (long 1 ((n + 5) ∷ []) refl) e₄ in
    let f₅ = join o₀ o₄ o₅ at (at + 6) (83 ∷ kind ∷ hex_of ((n + 5) ∷ a / 16777216 % 256 ∷ [])) (hex_of ((a / 65536 % 256) ∷ [])) (hexed ((n + 5) ∷ []) (a / 16777216 % 256) f₄) (long 2 ((n + 5) ∷ a / 16777216 % 256 ∷ []) refl) e₅ in
    let f₆ = join o₀ o₅ o₆ at (at + 8) (83 ∷ kind ∷ hex_of ((n + 5) ∷ a / 16777216 % 256 ∷ a / 65536 % 256 ∷ [])) (hex_of ((a / 256 % 256) ∷ [])) (hexed ((n + 5) ∷ a / 16777216 % 256 ∷ []) (a / 65536 % 256) f₅) (long 3 ((n + 5) ∷ a / 16777216 % 256 ∷ a / 65536 % 256 ∷ []) refl) e₆ in
    let f₇ = join o₀ o₆ o₇ at (at + 10) (83 ∷ kind ∷ hex_of ((n + 5) ∷ a / 16777216 % 256 ∷ a / 65536 % 256 ∷ a / 256 % 256 ∷ [])) (hex_of ((a % 256) ∷ [])) (hexed ((n + 5) ∷ a / 16777216 % 256 ∷ a / 65536 % 256 ∷ []) (a / 256 % 256) f₆) (long 4 ((n + 5) ∷ a / 16777216 % 256 ∷ a / 65536 % 256 ∷ a / 256 % 256 ∷ []) refl) e₇ in
    rw (leading-is kind a n) (hexed ((n + 5) ∷ a / 16777216 % 256 ∷ a / 65536 % 256 ∷ a / 256 % 256 ∷ []) (a % 256) f₇)
  where
    long : (k : ℕ) (x : List ℕ) → length x ≡ k → at + (2 + 2 * k) ≡ at + length (83 ∷ kind ∷ hex_of x)
    long k x e = omega (arith, length-hex x)

    hexed : {o : List ℕ} (x : List ℕ) (b : ℕ) → o ≡ sets o₀ at ((83 ∷ kind ∷ hex_of x) ++ hex_of (b ∷ [])) → o ≡ sets o₀ at (83 ∷ kind ∷ hex_of (x ++ (b ∷ [])))
    hexed x b e = e ∙ ap (λ (y : List ℕ). sets o₀ at (83 ∷ kind ∷ y)) (sym (hex-append x (b ∷ [])))

pub line-stored : (o₀ o₁ o₂ o₃ o₄ : List ℕ) (at e kind a n r : ℕ) (ds : List ℕ) → length ds ≡ n → o₁ ≡ sets o₀ at (83 ∷ kind ∷ hex_of (leading (slot kind a n))) → o₂ ≡ sets o₁ (at + 12) (hex_of ds)
    → e ≡ at + 12 + 2 * n → r ≡ checksum (leading (slot kind a n) ++ ds) → o₃ ≡ sets o₂ e (hex_of (r ∷ [])) → o₄ ≡ sets o₃ (e + 2) (10 ∷ []) → o₄ ≡ sets o₀ at (line_of (slot kind a n) ds)
unfolding head_of tail_of
line-stored o₀ o₁ o₂ o₃ o₄ at e kind a n r ds m e₁ e₂ p k e₃ e₄ =
    let s = slot kind a n in
    let t : o₄ ≡ sets o₂ e (tail_of s ds) = join o₂ o₃ o₄ e (e + 2) (hex_of (checksum (leading s ++ ds) ∷ [])) (10 ∷ []) (e₃ ∙ ap (λ (z : ℕ). sets o₂ e (hex_of (z ∷ []))) k) (omega (arith, length-hex (checksum (leading s ++ ds) ∷ []))) e₄ in
    let d : o₄ ≡ sets o₁ (at + 12) (hex_of ds ++ tail_of s ds) = join o₁ o₂ o₄ (at + 12) e (hex_of ds) (tail_of s ds) e₂ (omega (arith, length-hex ds)) t in
    rw (line-parts s ds) (join o₀ o₁ o₄ at (at + 12) (head_of s) (hex_of ds ++ tail_of s ds) e₁ (omega (arith, length-head s)) d)
