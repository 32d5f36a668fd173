-- Bytes copied and cleared, and the raw images. Assumes nothing.
use mathlib.Core.Path.{◌≡◌, refl, sym, ◌∙◌, ap, ap₂}
use mathlib.Core.List.{List, ◌++◌, append-nil}
use Prim.Native.Nat.{ℕ, ◌+◌, ◌-◌, ◌≤◌, ◌<◌}
use native.Mathlib.Nat.{zero-add}
use native.Mathlib.Numerals.{add-one}
use native.Mathlib.Decide.{dec_lt}
use native.Mathlib.Omega.{arith}
use lib.ListN.{length, get_or, set, take, drop, replicate, length-drop, length-replicate, drop_of_length-le}
use lib.Seq.{paste, paste-suc, get_or-drop, take_all, take_at, length-take-le}
use Rattle.format.specs.Range.{range, bytes_of}
use Rattle.loadable.specs.declared.Loadable.{Loadable}
use Rattle.history.specs.Images.{images}
use Rattle.plan.specs.Relocatable.{raw_text, raw_data, relocatable_of}

-- n bytes that are in the file where n is not 0 are n bytes
part_length : (f : List ℕ) (at n : ℕ) → (0 < n → at + n ≤ length f) → n ≤ length (drop at f)
part_length f at n h = by_size (dec_lt 0 n)
  where
    by_size : Dec (0 < n) → n ≤ length (drop at f)
    by_size (yes s) = rw length-drop (omega (arith, h s))
    by_size (no s) = omega arith

module _ (d e : List ℕ) (n i : ℕ) where
  -- a turn of the loop that copies n bytes to the start
  pub copy-turn : (f : List ℕ) (at : ℕ) → e ≡ paste d 0 (drop at f) i → i < n → n ≤ length d → (0 < n → at + n ≤ length f)
      → set e i (get_or f (at + i) 0) ≡ paste d 0 (drop at f) (i + 1)
  copy-turn f at p h k b =
      ap (λ (x : List ℕ). set x i (get_or f (at + i) 0)) p
      ∙ ap₂ (λ (j v : ℕ). set (paste d 0 (drop at f) i) j v) (sym (zero-add i)) (sym (get_or-drop at f i 0))
      ∙ paste-suc d 0 (drop at f) i 0 (omega arith) (omega (arith, part_length f at n b))
      ∙ ap (paste d 0 (drop at f)) (sym (add-one i))

  -- at its end i is n
  pub copy-end : (s : List ℕ) → e ≡ paste d 0 s i → i ≡ n → e ≡ paste d 0 s n
  copy-end s p q = p ∙ ap (paste d 0 s) q

-- a section's bytes copied to the start and the rest cleared: its bytes, then zeros
pub filled : (f d e g : List ℕ) (at n : ℕ) → (0 < n → at + n ≤ length f) → n ≤ length d → length e ≡ length d
    → e ≡ paste d 0 (drop at f) n → g ≡ paste e n (replicate (length e - n) 0) (length e - n) → g ≡ take n (drop at f) ++ replicate (length d - n) 0
filled f d e g at n b h k p q =
    let first : take n e ≡ take n (drop at f) =
    ap (take n) p ∙ take_at (take n (drop at f)) (drop (0 + n) d) n (length-take-le n (drop at f) (part_length f at n b)) in
    let zeros : ◌≡◌ {A = List ℕ} (take (length e - n) (replicate (length e - n) 0)) (replicate (length e - n) 0) =
    take_all (length e - n) (replicate (length e - n) 0) (rw length-replicate (omega arith)) in
    let none : drop (n + (length e - n)) e ≡ drop (length e) e = ap (λ (j : ℕ). drop j e) (let j : n + (length e - n) ≡ length e = omega arith in j) in
    q ∙ rw (first, zeros, none, drop_of_length-le e {i = length e} (omega arith), append-nil (take n (drop at f) ++ replicate (length e - n) 0), k) refl

-- both buffers filled are the module's raw images
pub filled-raw : (f : List ℕ) (l : Loadable) (t d t' d' : List ℕ) → length t ≡ l.layout.parts.text.size → length d ≡ l.layout.image
    → t' ≡ bytes_of f (range l.layout.parts.text.start.0 l.layout.parts.text.size) ++ replicate (length t - l.layout.parts.text.size) 0
    → d' ≡ bytes_of f (range l.layout.parts.«data».start.0 l.layout.parts.«data».size) ++ replicate (length d - l.layout.parts.«data».size) 0
    → images t' d' ≡ (relocatable_of f l).raw
unfolding relocatable_of raw_text raw_data
filled-raw f l t d t' d' h k p q =
    let part : List ℕ = take l.layout.parts.text.size (drop l.layout.parts.text.start.0 f) in
    let none : length t - l.layout.parts.text.size ≡ 0 = omega arith in
    ap₂ images (p ∙ ap (λ (n : ℕ). part ++ replicate n 0) none ∙ append-nil part) (q ∙ rw k refl)
