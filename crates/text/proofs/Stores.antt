-- The laws of text in a buffer, `sets bs at t`: one byte more before it, and the seam of two texts. Assumes nothing.
use mathlib.Core.Path.{◌≡◌, refl, sym, ◌∙◌, ap}
use mathlib.Core.List.{List, [], ◌∷◌, ◌++◌}
use Prim.Native.Nat.{ℕ, suc, ◌+◌, ◌-◌, ◌/◌, ◌%◌, ◌^◌, ◌≤◌, ◌<◌}
use native.Mathlib.Nat.{add-zero, add-suc, suc-add}
use native.Mathlib.Omega.{arith}
use lib.ListN.{length, set, length-append}
use lib.Seq.{sets, set_comm}
use Rattle.text.specs.Text.{digit_of, digits}

set_below : (bs : List ℕ) (i j a : ℕ) (t : List ℕ) → i < j → set (sets bs j t) i a ≡ sets (set bs i a) j t
set_below bs i j a [] h = refl
set_below bs i j a (x ∷ t) h =
    set_below (set bs j x) i (suc j) a t (omega arith) ∙ ap (λ (y : List ℕ). sets y (suc j) t) (set_comm bs j i x a (omega arith))

-- one digit more, before those that stand from at + i on
pub digit-before : (bs : List ℕ) (at b n i v : ℕ) → 0 < i → i ≤ n → set (sets bs (at + i) (digits b (n - i) v)) (at + (i - 1)) (digit_of (v / b ^ (n - i) % b)) ≡ sets bs (at + (i - 1)) (digits b (n - (i - 1)) v)
unfolding digits
digit-before bs at b n i v h k =
    let p : at + i ≡ suc (at + (i - 1)) = omega arith in
    let q : n - (i - 1) ≡ suc (n - i) = omega arith in
    rw (p, q) (set_below bs (at + (i - 1)) (suc (at + (i - 1))) (digit_of (v / b ^ (n - i) % b)) (digits b (n - i) v) (omega arith))

-- a text after a text
pub sets-append : (bs : List ℕ) (i : ℕ) (t u : List ℕ) → sets (sets bs i t) (i + length t) u ≡ sets bs i (t ++ u)
sets-append bs i [] u = ap (λ (k : ℕ). sets bs k u) (add-zero i)
sets-append bs i (x ∷ t) u =
    ap (λ (k : ℕ). sets (sets (set bs i x) (suc i) t) k u) (add-suc i (length t) ∙ sym (suc-add i (length t)))
    ∙ sets-append (set bs i x) (suc i) t u

-- what each function ensures: the text t stands at `at`, and `next` is the place after it
pub record Wrote (bs : List ℕ) (at : ℕ) (t end : List ℕ) (next : ℕ) : Type 0 where
  pub place : next ≡ at + length t
  pub text : end ≡ sets bs at t

pub wrote : {bs end : List ℕ} {at next : ℕ} (t : List ℕ) → next ≡ at + length t → end ≡ sets bs at t → Wrote bs at t end next
wrote t p e = record { place = p; text = e }

-- at the start of the buffer
pub wrote-first : {bs end : List ℕ} {next : ℕ} (t : List ℕ) → next ≡ length t → end ≡ sets bs 0 t → Wrote bs 0 t end next
wrote-first t p e = record { place = omega arith; text = e }

-- one text after another
pub ◌then◌ : {bs mid end t u : List ℕ} {at next last : ℕ} → Wrote bs at t mid next → Wrote mid next u end last → Wrote bs at (t ++ u) end last
◌then◌ {bs} {mid} {end} {t} {u} {at} h k =
    record {
      place = omega (arith, length-append t u);
      text = k.text ∙ rw (h.text, h.place) (sets-append bs at t u);
    }

infixl 4 ◌then◌
