-- Counting what a text misses, and judging by the count. Assumes nothing.
use mathlib.Core.Path.{◌≡◌, refl, ◌∙◌, ap}
use mathlib.Core.Bool.{true, false}
use mathlib.Core.List.{List, [], ◌∷◌, ◌++◌}
use Prim.Native.Nat.{ℕ, suc, ◌+◌, ◌-◌, ◌*◌, ◌/◌, ◌%◌, ◌≤◌, ◌<◌, min}
use native.Mathlib.Nat.{add-zero, zero-add}
use native.Mathlib.Omega.{arith}
use borrow.Author.Tests.{eq-eqb, ne_eqb, le-leb, lt-leb, leb-true}
use lib.Dec.{eqb, leb}
use lib.ListN.{length, get_or, set}
use lib.Seq.{sets}
use Rattle.record.specs.Record.{digit_of, hex_of, sum_of, checksum, slot, leading, line_of, line_length, image_slots, byte_in, data_at, holds, line_at, bad_from}
use Rattle.record.specs.Count.{differs, misses}
use Rattle.record.proofs.Hex.{cases, length-hex, length-data}
use Rattle.record.proofs.Lines.{head_of, tail_of, length-head, line-parts, slots-none, slots-more}
use Rattle.record.proofs.Stores.{leading-is}

pub misses-append : (t : List ℕ) (p : ℕ) (x y : List ℕ) → misses t p (x ++ y) ≡ misses t p x + misses t (p + length x) y
unfolding misses
misses-append t p [] y = rw (add-zero p) (omega arith)
misses-append t p (b ∷ x) y = let e : p + 1 + length x ≡ p + suc (length x) = omega arith in omega (arith, rw e at (misses-append t (p + 1) x y))

-- a list is held where nothing of it is missed
pub misses-none : (t : List ℕ) (p : ℕ) (x : List ℕ) → eqb (misses t p x) 0 ≡ holds t p x
unfolding misses holds differs
misses-none t p [] = refl
misses-none t p (b ∷ x) =
    cases (eqb (get_or t p 0) b)
    (λ g. rw (g, zero-add (misses t (p + 1) x)) (misses-none t (p + 1) x))
    (λ g. rw g (ne_eqb (1 + misses t (p + 1) x) 0 (λ e. omega arith)))

pub miss-yes : (t : List ℕ) (p b : ℕ) → get_or t p 0 ≡ b → 0 ≡ misses t p (b ∷ [])
unfolding misses differs
miss-yes t p b e = rw (eq-eqb (get_or t p 0) b e) refl

pub miss-no : (t : List ℕ) (p b : ℕ) → (get_or t p 0 ≡ b → ⊥) → 1 ≡ misses t p (b ∷ [])
unfolding misses differs
miss-no t p b e = rw (ne_eqb (get_or t p 0) b e) refl

pub miss-two : (t : List ℕ) (p h l b r s : ℕ) → h ≡ digit_of (b / 16) → l ≡ digit_of (b % 16) → r ≡ misses t p (h ∷ []) → s ≡ misses t (p + 1) (l ∷ []) → r + s ≡ misses t p (hex_of (b ∷ []))
unfolding hex_of misses
miss-two t p h l b r s e f g k = rw (g, k, e, f) (omega arith)

-- one byte more of a line's data
pub miss-next : (t : List ℕ) (p b : ℕ) (bs : List ℕ) → misses t p (hex_of (b ∷ bs)) ≡ misses t p (hex_of (b ∷ [])) + misses t (p + 2) (hex_of bs)
unfolding hex_of misses
miss-next t p b bs = let e : p + 1 + 1 ≡ p + 2 = omega arith in rw e (omega arith)

pub scan-next : (t : List ℕ) (p n i : ℕ) → i < n → data_at t (p + 2 * i) (n - i) ≡ byte_in t (p + 2 * i) ∷ data_at t (p + 2 * (i + 1)) (n - (i + 1))
unfolding data_at
scan-next t p n i h =
    let e : n - i ≡ suc (n - (i + 1)) = omega arith in
    let f : p + 2 * i + 2 ≡ p + 2 * (i + 1) = omega arith in
    rw (e, f) refl

pub scan-sum : (t : List ℕ) (p n i : ℕ) → i < n → sum_of (data_at t (p + 2 * i) (n - i)) ≡ byte_in t (p + 2 * i) + sum_of (data_at t (p + 2 * (i + 1)) (n - (i + 1)))
unfolding sum_of
scan-sum t p n i h = rw (scan-next t p n i h) refl

pub scan-miss : (t : List ℕ) (p n i : ℕ) → i < n → misses t (p + 2 * i) (hex_of (data_at t (p + 2 * i) (n - i))) ≡ misses t (p + 2 * i) (hex_of (byte_in t (p + 2 * i) ∷ [])) + misses t (p + 2 * (i + 1)) (hex_of (data_at t (p + 2 * (i + 1)) (n - (i + 1))))
scan-miss t p n i h =
    let f : p + 2 * i + 2 ≡ p + 2 * (i + 1) = omega arith in
    rw (scan-next t p n i h) (rw f at (miss-next t (p + 2 * i) (byte_in t (p + 2 * i)) (data_at t (p + 2 * (i + 1)) (n - (i + 1)))))

pub scan-end : (t : List ℕ) (p n i : ℕ) → n ≤ i → (sum_of (data_at t (p + 2 * i) (n - i)) ≡ 0) × (misses t (p + 2 * i) (hex_of (data_at t (p + 2 * i) (n - i))) ≡ 0)
unfolding sum_of data_at hex_of misses
scan-end t p n i h = let e : n - i ≡ 0 = omega arith in (rw e refl, rw e refl)

-- what stands before the data
pub miss-lead : (t : List ℕ) (p kind a n x₀ x₁ x₂ x₃ x₄ x₅ x₆ : ℕ) → x₀ ≡ misses t p (83 ∷ []) → x₁ ≡ misses t (p + 1) (kind ∷ []) → x₂ ≡ misses t (p + 2) (hex_of ((n + 5) ∷ []))
    → x₃ ≡ misses t (p + 4) (hex_of ((a / 16777216 % 256) ∷ [])) → x₄ ≡ misses t (p + 6) (hex_of ((a / 65536 % 256) ∷ [])) → x₅ ≡ misses t (p + 8) (hex_of ((a / 256 % 256) ∷ [])) → x₆ ≡ misses t (p + 10) (hex_of ((a % 256) ∷ []))
    → x₀ + x₁ + x₂ + x₃ + x₄ + x₅ + x₆ ≡ misses t p (83 ∷ kind ∷ hex_of (leading (slot kind a n)))
miss-lead t p kind a n x₀ x₁ x₂ x₃ x₄ x₅ x₆ e₀ e₁ e₂ e₃ e₄ e₅ e₆ =
    let A = a / 16777216 % 256 in let B = a / 65536 % 256 in let C = a / 256 % 256 in let D = a % 256 in
    let q₁ = next (p + 2) (p + 4) (n + 5) (A ∷ B ∷ C ∷ D ∷ []) (omega arith) in
    let q₂ = next (p + 4) (p + 6) A (B ∷ C ∷ D ∷ []) (omega arith) in
    let q₃ = next (p + 6) (p + 8) B (C ∷ D ∷ []) (omega arith) in
    let q₄ = next (p + 8) (p + 10) C (D ∷ []) (omega arith) in
    let h = misses-append t p (83 ∷ []) (kind ∷ hex_of ((n + 5) ∷ A ∷ B ∷ C ∷ D ∷ [])) in
    let k = shift (p + 1) (p + 2) (kind ∷ []) (hex_of ((n + 5) ∷ A ∷ B ∷ C ∷ D ∷ [])) (omega arith) in
    rw (leading-is kind a n) (omega arith)
  where
    next : (q r b : ℕ) (bs : List ℕ) → r ≡ q + 2 → misses t q (hex_of (b ∷ bs)) ≡ misses t q (hex_of (b ∷ [])) + misses t r (hex_of bs)
    next q r b bs e = rw e (miss-next t q b bs)

    shift : (q r : ℕ) (x y : List ℕ) → r ≡ q + length x → misses t q (x ++ y) ≡ misses t q x + misses t r y
    shift q r x y e = rw e (misses-append t q x y)

pub line-judged : (t : List ℕ) (p kind a n x y z w r : ℕ) → p + line_length n ≤ length t
    → x ≡ misses t p (83 ∷ kind ∷ hex_of (leading (slot kind a n))) → y ≡ misses t (p + 12) (hex_of (data_at t (p + 12) n)) → r ≡ checksum (leading (slot kind a n) ++ data_at t (p + 12) n)
    → z ≡ misses t (p + 12 + 2 * n) (hex_of (r ∷ [])) → w ≡ misses t (p + 12 + 2 * n + 2) (10 ∷ []) → eqb (x + y + z + w) 0 ≡ line_at t p (slot kind a n)
unfolding line_at head_of tail_of
line-judged t p kind a n x y z w r h ex ey er ez ew =
    let s = slot kind a n in
    let ds = data_at t (p + 12) n in
    let tl : misses t (p + 12 + 2 * n) (tail_of s ds) ≡ z + w =
    rw (ez, ew, er) (misses-append t (p + 12 + 2 * n) (hex_of (checksum (leading s ++ ds) ∷ [])) (10 ∷ []) ∙ ap (λ (k : ℕ). misses t (p + 12 + 2 * n) (hex_of (checksum (leading s ++ ds) ∷ [])) + misses t (p + 12 + 2 * n + k) (10 ∷ [])) (length-hex (checksum (leading s ++ ds) ∷ [])))
    in
    let len : length (hex_of ds) ≡ 2 * n = rw (length-hex ds, length-data t (p + 12) n) refl in
    let dt = rw len at (misses-append t (p + 12) (hex_of ds) (tail_of s ds)) in
    let hd = rw (length-head s) at (misses-append t p (head_of s) (hex_of ds ++ tail_of s ds)) in
    let sum : x + y + z + w ≡ misses t p (line_of s ds) = rw (line-parts s ds) (omega arith) in
    rw (le-leb (p + line_length n) (length t) h, sum) (misses-none t p (line_of s ds))

pub line-short : (t : List ℕ) (p kind a n : ℕ) → length t < p + line_length n → false ≡ line_at t p (slot kind a n)
unfolding line_at
line-short t p kind a n h = rw (lt-leb (p + line_length n) (length t) h) refl

pub line-room : (t : List ℕ) (p kind a n : ℕ) → line_at t p (slot kind a n) ≡ true → p + line_length n ≤ length t
unfolding line_at
line-room t p kind a n e = cases (leb (p + line_length n) (length t)) (λ g. leb-true _ _ g) (λ g. let z : false ≡ true = rw g at e in let y : ◌≡◌ {A = ℕ} 0 1 = cc in absurd (omega arith))

-- one line more
more : (a n i : ℕ) → i < n → image_slots (a + i) (n - i) ≡ slot 51 (a + i) (min 32 (n - i)) ∷ image_slots (a + (i + 32)) (n - (i + 32))
more a n i h = let u : a + i + 32 ≡ a + (i + 32) = omega arith in let v : n - i - 32 ≡ n - (i + 32) = omega arith in rw (← u, ← v) (slots-more (a + i) (n - i) (omega arith))

pub judge-next : (t : List ℕ) (line p a n i : ℕ) → i < n → line_at t p (slot 51 (a + i) (min 32 (n - i))) ≡ true
    → bad_from (line + 1) (p + (15 + 2 * min 32 (n - i))) (image_slots (a + (i + 32)) (n - (i + 32))) t ≡ bad_from line p (image_slots (a + i) (n - i)) t
unfolding bad_from
judge-next t line p a n i h e = rw (more a n i h, e) refl

pub judge-bad : (t : List ℕ) (line p a n i : ℕ) → i < n → line_at t p (slot 51 (a + i) (min 32 (n - i))) ≡ false → line ≡ bad_from line p (image_slots (a + i) (n - i)) t
unfolding bad_from
judge-bad t line p a n i h e = rw (more a n i h, e) refl

pub judge-end : (t : List ℕ) (line p a n i : ℕ) → n ≤ i → 0 ≡ bad_from line p (image_slots (a + i) (n - i)) t
unfolding bad_from
judge-end t line p a n i h = let e : n - i ≡ 0 = omega arith in rw (e, slots-none (a + i)) refl

-- one byte more read
pub fill-next : (t o : List ℕ) (p n to i : ℕ) → i < n → sets (set o (to + i) (byte_in t (p + 2 * i))) (to + (i + 1)) (data_at t (p + 2 * (i + 1)) (n - (i + 1))) ≡ sets o (to + i) (data_at t (p + 2 * i) (n - i))
fill-next t o p n to i h = let e : to + (i + 1) ≡ suc (to + i) = omega arith in rw (scan-next t p n i h, e) refl

pub fill_end : (t o : List ℕ) (p n q i : ℕ) → n ≤ i → sets o q (data_at t (p + 2 * i) (n - i)) ≡ o
unfolding data_at
fill_end t o p n q i h = let e : n - i ≡ 0 = omega arith in rw e refl
