-- Laws of files that agree on a part. Assumes nothing.
use mathlib.Core.Path.{◌≡◌, refl, sym, ◌∙◌, ap}
use mathlib.Core.List.{List, [], ◌∷◌}
use Prim.Native.Nat.{ℕ, zero, suc, ◌+◌, ◌-◌, ◌≤◌, ◌<◌}
use native.Mathlib.Omega.{arith}
use lib.ListN.{length, get_or, take, drop, length-take, length-drop}
use lib.Seq.{drop-drop, take-take, ext_get_or, get_or-take, get_or-drop}
use Rattle.word.specs.declared.Field.{Field}
use Rattle.word.specs.Number.{value_of, field_at, bytes_in, field_in}
use Rattle.format.specs.Range.{range, text_in}
use Rattle.word.specs.Zero.{first_zero}
use Rattle.format.proofs.Layouts.{FieldInside}
use Rattle.frame.specs.Same.{Same}

-- a part of a part
pub part-part : (o w n : ℕ) (l : List ℕ) → o + w ≤ n → take w (drop o (take n l)) ≡ take w (drop o l)
part-part zero w n l h = take-take w n l (omega arith)
part-part (suc o) w zero l h = absurd (omega arith)
part-part (suc o) w (suc n) [] h = refl
part-part (suc o) w (suc n) (x ∷ l) h = part-part o w n l (omega arith)

module _ {off n : ℕ} {xs ys : List ℕ} where
  -- files that agree on a part agree on each part of it
  pub same-part : (o w : ℕ) → o + w ≤ n → Same off n xs ys → Same (off + o) w xs ys
  same-part o w h e =
      record {
        bytes =
            rw (← drop-drop o off xs, ← drop-drop o off ys, ← part-part o w n (drop off xs) h, ← part-part o w n (drop off ys) h)
            (ap (λ (l : List ℕ). take w (drop o l)) e.bytes);
      }

  -- the same, by the place itself
  pub same-within : (j w : ℕ) → off ≤ j → j + w ≤ off + n → Same off n xs ys → Same j w xs ys
  same-within j w a b e =
      let q : off + (j - off) ≡ j = omega arith in
      rw q at (same-part (j - off) w (omega arith) e)

  -- a number in it is the same
  pub same_number : (w j : ℕ) → off ≤ j → j + w ≤ off + n → Same off n xs ys → field_at w j xs ≡ field_at w j ys
  unfolding field_at
  same_number w j a b e = ap value_of (same-within j w a b e).bytes

  -- so is a field
  pub same-field : (f : Field) → FieldInside f 0 n → Same off n xs ys → field_in f off xs ≡ field_in f off ys
  unfolding field_at
  same-field f h e = ap value_of (same-part f.offset (bytes_in f.width) (omega arith) e).bytes

  -- so is a text
  pub same_text : (f : Field) → FieldInside f 0 n → Same off n xs ys → text_in f off xs ≡ text_in f off ys
  unfolding text_in
  same_text f h e = ap (λ (l : List ℕ). range (off + f.offset) (first_zero l)) (same-part f.offset (bytes_in f.width) (omega arith) e).bytes

  pub same-sym : Same off n xs ys → Same off n ys xs
  same-sym e = record { bytes = sym e.bytes }

  pub same-trans : {zs : List ℕ} → Same off n xs ys → Same off n ys zs → Same off n xs zs
  same-trans e h = record { bytes = e.bytes ∙ h.bytes }

-- files of one length whose bytes are the same one by one agree
pub same_bytes_lem : (off n : ℕ) (xs ys : List ℕ) → length xs ≡ length ys → ((k : ℕ) → off ≤ k → k < off + n → get_or xs k 0 ≡ get_or ys k 0) → Same off n xs ys
same_bytes_lem off n xs ys e h =
    record { bytes = ext_get_or 0 (take n (drop off xs)) (take n (drop off ys)) lengths at }
  where
    lengths : length (take n (drop off xs)) ≡ length (take n (drop off ys))
    lengths = rw (length-take n (drop off xs), length-take n (drop off ys), length-drop off xs, length-drop off ys, e) refl

    at : (i : ℕ) → i < length (take n (drop off xs)) → get_or (take n (drop off xs)) i 0 ≡ get_or (take n (drop off ys)) i 0
    at i l =
        let l' : i < n = omega (arith, length-take n (drop off xs)) in
        rw (get_or-take n (drop off xs) i 0 l', get_or-take n (drop off ys) i 0 l', get_or-drop off xs i 0, get_or-drop off ys i 0) (h (off + i) (omega arith) (omega arith))
