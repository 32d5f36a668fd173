-- Single bytes of the images: outside the fields, and in a field. Assumes nothing.
use mathlib.Core.Path.{◌≡◌, refl, sym, ◌∙◌, ap}
use mathlib.Core.Bool.{Bool, true, false, Bool-discrete}
use mathlib.Core.Logic.{◌⊎◌, inl, inr}
use mathlib.Core.List.{List, [], ◌∷◌}
use Prim.Native.Nat.{ℕ, ◌+◌, ◌≤◌, ◌<◌}
use native.Mathlib.Decide.{dec_le, dec_lt}
use native.Mathlib.Omega.{arith}
use lib.ListN.{get_or}
use lib.IntN.{ℤ}
use Rattle.update.proofs.Laws.{add-agree}
use Rattle.relocation.specs.declared.FieldPlace.{FieldPlace}
use Rattle.relocation.specs.Relocation.{bytes_wide}
use Rattle.book.proofs.Bytes.{ByteLaws}
use Rattle.book.proofs.Bytes as bytes
use Rattle.history.specs.declared.Relocation.{Relocation}
use Rattle.history.specs.Images.{Images, Shifts, fields, signed, add_at, apply_entry, apply_all, length_of, All, Inside, Pairwise, image_of, InPlace, InField}
use Rattle.history.proofs.Apply.{add_at-outside, add_to, PlacesApart, field_laws, pairwise-either}

-- ---- bytes outside the fields

-- an addition changes no byte outside its field
add-outside : (t : Bool) (k : ℕ) (p : FieldPlace) (z : ℤ) (x : Images) → (InPlace t k p → ⊥) → get_or (image_of t (add_to p z x)) k 0 ≡ get_or (image_of t x) k 0
add-outside t k p z x h =
    add_at-outside p.text t (bytes_wide p.wide) p.offset k z x (λ e. by_place e (dec_le p.offset k) (dec_lt k (p.offset + bytes_wide p.wide)))
  where
    by_place : p.text ≡ t → Dec (p.offset ≤ k) → Dec (k < p.offset + bytes_wide p.wide) → (k < p.offset) ⊎ (p.offset + bytes_wide p.wide ≤ k)
    by_place e (yes a) (yes b) = absurd (h (e, a, b))
    by_place e (yes a) (no b) = inr (omega arith)
    by_place e (no a) d = inl (omega arith)

-- entries applied change no byte outside their fields
pub apply_all-outside : (t : Bool) (k : ℕ) (es : List Relocation) (s : Shifts) (x : Images) → All (λ e. InField t k e → ⊥) es
    → get_or (image_of t (apply_all es s x)) k 0 ≡ get_or (image_of t x) k 0
unfolding apply_all apply_entry
apply_all-outside t k [] s x h = refl
apply_all-outside t k (e ∷ es) s x h =
    apply_all-outside t k es s (apply_entry e s x) h.1 ∙ add-outside t k e.place (signed e.minus (s e.symbol)) x h.0

-- ---- bytes in a field

-- a field holds a byte or not
in-place? : (t : Bool) (k : ℕ) (p : FieldPlace) → Dec (InPlace t k p)
in-place? t k p = go (Bool-discrete p.text t) (dec_le p.offset k) (dec_lt k (p.offset + bytes_wide p.wide))
  where
    go : Dec (p.text ≡ t) → Dec (p.offset ≤ k) → Dec (k < p.offset + bytes_wide p.wide) → Dec (InPlace t k p)
    go (yes a) (yes b) (yes c) = yes (a, b, c)
    go (no a) b c = no (λ h. a h.0)
    go (yes a) (no b) c = no (λ h. b h.1)
    go (yes a) (yes b) (no c) = no (λ h. c h.2)

-- fields apart hold no byte in common
apart-bytes : (p q : FieldPlace) (t : Bool) (k : ℕ) → PlacesApart p q → InPlace t k p → InPlace t k q → ⊥
apart-bytes p q t k (inl h) a b = h (a.0 ∙ sym b.0)
apart-bytes p q t k (inr (e, inl h)) a b = omega (arith, h, a.2, b.1)
apart-bytes p q t k (inr (e, inr h)) a b = omega (arith, h, a.1, b.2)

-- the bytes of a field after an addition depend on its bytes before and on nothing else
add-within : (t u : Bool) (w off k : ℕ) (z : ℤ) (x y : Images) → t ≡ u → off + w ≤ length_of t x → off + w ≤ length_of t y
    → ((j : ℕ) → off ≤ j → j < off + w → get_or (image_of t x) j 0 ≡ get_or (image_of t y) j 0) → off ≤ k → k < off + w
    → get_or (image_of u (add_at t w off z x)) k 0 ≡ get_or (image_of u (add_at t w off z y)) k 0
unfolding add_at
add-within true true w off k z x y e h h' s a b = add-agree w off k z x.text y.text h h' s a b
add-within true false w off k z x y e h h' s a b = cc
add-within false true w off k z x y e h h' s a b = cc
add-within false false w off k z x y e h h' s a b = add-agree w off k z x.dat y.dat h h' s a b

-- what the law of bytes asks of a module's fields: a byte is named by its image and its place there
abbrev byte_laws : ByteLaws fields field_laws (Bool × ℕ)
byte_laws =
    record {
      byte = λ k x. get_or (image_of k.0 x) k.1 0;
      Holds = λ p k. InPlace k.0 k.1 p;
      holds? = λ p k. in-place? k.0 k.1 p;
      apart = λ p q k. apart-bytes p q k.0 k.1;
      outside = λ p a x k. add-outside k.0 k.1 p a x;
      within = λ p a x y k i i' s h. add-within p.text k.0 (bytes_wide p.wide) p.offset k.1 a x y h.0 i i' (λ j l u. s (p.text, j) (refl, l, u)) h.1 h.2;
    }

-- the same shift is the same amount
all-agree : (s s' : Shifts) (t : Bool) (k : ℕ) (es : List Relocation) → All (λ e. InField t k e → s e.symbol ≡ s' e.symbol) es
    → All (bytes.Agrees fields field_laws byte_laws s s' (t, k)) es
all-agree s s' t k [] a = tt
all-agree s s' t k (e ∷ es) a = (λ h. ap (λ (z : ℤ). signed e.minus z) (a.0 h), all-agree s s' t k es a.1)

-- shifts that agree on every entry whose field holds a byte leave the same byte there
pub same_byte : (t : Bool) (k : ℕ) (es : List Relocation) (s s' : Shifts) (x : Images) → All (Inside x) es → Pairwise es
    → All (λ e. InField t k e → s e.symbol ≡ s' e.symbol) es
    → get_or (image_of t (apply_all es s x)) k 0 ≡ get_or (image_of t (apply_all es s' x)) k 0
unfolding apply_all
same_byte t k es s s' x i p a = bytes.same_byte fields field_laws byte_laws s s' (t, k) es x i (pairwise-either es p) (all-agree s s' t k es a)
