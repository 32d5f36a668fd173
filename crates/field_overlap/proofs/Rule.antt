-- The rule as it is computed and the rule as a statement. Assumes nothing.
use mathlib.Core.Path.{◌≡◌, refl, sym, ◌∙◌, ap}
use mathlib.Core.Bool.{Bool, true, false, not, cond}
use Prim.Native.Nat.{ℕ, zero, suc, ◌+◌, ◌≤◌, ◌<◌}
use native.Mathlib.Decide.{dec_lt, dec_le, ℕ_discrete}
use native.Mathlib.Omega.{arith}
use lib.Dec.{ltb, eqb}
use borrow.Author.Tests.{lt-ltb, ltb-true, eqb-true, eq-eqb, ne_eqb}
use Rattle.word.proofs.Test.{and_first, and_second}
use Rattle.relocation.specs.declared.FieldPlace.{FieldPlace}
use Rattle.relocation.specs.Relocation.{bytes_wide}
use Rattle.field_overlap.specs.Overlap.{same_bool, same_field, overlaps, meets_one, meets, Overlapping, Meets, First, Compatible}
use Rattle.field_overlap.specs.Overlap.Compatible.{other_section, same, before, after}

pub no_true : {A : Type 0} → false ≡ true → A
no_true e = let z : ◌≡◌ {A = ℕ} 0 1 = cc in absurd (omega arith)

pub no_false : {A : Type 0} → true ≡ false → A
no_false e = no_true (sym e)

pub same_true : (a b : Bool) → same_bool a b ≡ true → a ≡ b
same_true true true e = refl
same_true true false e = no_true e
same_true false true e = no_true e
same_true false false e = refl

pub same_refl : (a b : Bool) → a ≡ b → same_bool a b ≡ true
same_refl true true e = refl
same_refl true false e = no_false e
same_refl false true e = no_true e
same_refl false false e = refl

eqb_refl : (n : ℕ) → eqb n n ≡ true
eqb_refl n = eq-eqb n n refl

not-true : (t : Bool) → not t ≡ true → t ≡ false
not-true true e = no_true e
not-true false e = refl

wide-some : (b : Bool) → 0 < bytes_wide b
wide-some true = omega arith
wide-some false = omega arith

-- the parts of a overlap
overlap-parts : (a b : FieldPlace) → overlaps a b ≡ true
    → (a.text ≡ b.text) × (a.offset < b.offset + bytes_wide b.wide) × (b.offset < a.offset + bytes_wide a.wide) × (same_field a b ≡ false)
unfolding overlaps
overlap-parts a b e =
    let p = and_second (same_bool a.text b.text) _ e in
    let q = and_second (ltb a.offset (b.offset + bytes_wide b.wide)) _ p in (
      same_true a.text b.text (and_first _ _ e),
      ltb-true _ _ (and_first _ _ p),
      ltb-true _ _ (and_first _ _ q),
      not-true _ (and_second (ltb b.offset (a.offset + bytes_wide a.wide)) _ q),
    )

differ-field : (a b : FieldPlace) → same_field a b ≡ false → (a.offset ≡ b.offset) × (a.wide ≡ b.wide) → ⊥
differ-field a b e d = no_true (sym e ∙ rw (d.0, d.1) same)
  where
    same : same_field b b ≡ true
    same = rw (eqb_refl b.offset, same_refl b.wide b.wide refl) refl

overlap-true : (a b : FieldPlace) → overlaps a b ≡ true → Overlapping a b
overlap-true a b e = go (dec_le a.offset b.offset)
  where
    p : (a.text ≡ b.text) × (a.offset < b.offset + bytes_wide b.wide) × (b.offset < a.offset + bytes_wide a.wide) × (same_field a b ≡ false)
    p = overlap-parts a b e

    go : Dec (a.offset ≤ b.offset) → Overlapping a b
    go (yes h) = record { section = p.0; byte = b.offset; in_a = (h, p.2); in_b = (omega arith, omega (arith, wide-some b.wide)); differ = differ-field a b p.3 }
    go (no h) = record { section = p.0; byte = a.offset; in_a = (omega arith, omega (arith, wide-some a.wide)); in_b = (omega arith, p.1); differ = differ-field a b p.3 }

field-differs : (a b : FieldPlace) → ((a.offset ≡ b.offset) × (a.wide ≡ b.wide) → ⊥) → same_field a b ≡ false
field-differs a b d = go (ℕ_discrete a.offset b.offset) (same_bool a.wide b.wide) refl
  where
    go : Dec (a.offset ≡ b.offset) → (t : Bool) → same_bool a.wide b.wide ≡ t → same_field a b ≡ false
    go (no n) t e = rw (ne_eqb a.offset b.offset n) refl
    go (yes h) true e = absurd (d (h, same_true a.wide b.wide e))
    go (yes h) false e = rw (h, e, eqb_refl b.offset) refl

true-overlap : (a b : FieldPlace) → Overlapping a b → overlaps a b ≡ true
unfolding overlaps
true-overlap a b c =
    let u : a.offset < b.offset + bytes_wide b.wide = omega (arith, c.in_a, c.in_b) in
    let v : b.offset < a.offset + bytes_wide a.wide = omega (arith, c.in_a, c.in_b) in
    rw (same_refl a.text b.text c.section, lt-ltb a.offset (b.offset + bytes_wide b.wide) u, lt-ltb b.offset (a.offset + bytes_wide a.wide) v, field-differs a b c.differ) refl

abbrev field_of : Bool → ℕ → Bool → FieldPlace
field_of text offset wide = record { text = text; offset = offset; wide = wide }

-- fields are equal by their parts
one_field : (a b : FieldPlace) → a.text ≡ b.text → a.offset ≡ b.offset → a.wide ≡ b.wide → a ≡ b
one_field a b x y z =
    let h : field_of a.text a.offset a.wide ≡ field_of b.text b.offset b.wide = cc in
    h

-- what does not overlap is compatible
pub no-overlap : (a b : FieldPlace) → overlaps a b ≡ false → Compatible a b
unfolding overlaps
no-overlap a b e = section (same_bool a.text b.text) refl
  where
    field : same_bool a.text b.text ≡ true → Dec (a.offset < b.offset + bytes_wide b.wide) → Dec (b.offset < a.offset + bytes_wide a.wide)
        → (t : Bool) → same_field a b ≡ t → Compatible a b
    field s (no h) y t q = after (same_true a.text b.text s) (omega arith)
    field s (yes h) (no k) t q = before (same_true a.text b.text s) (omega arith)
    field s (yes h) (yes k) true q =
        same
        (one_field a b (same_true a.text b.text s) (eqb-true a.offset b.offset (and_first _ _ q))
        (same_true a.wide b.wide (and_second (eqb a.offset b.offset) _ q)))
    field s (yes h) (yes k) false q =
        no_false (sym (rw (s, lt-ltb a.offset (b.offset + bytes_wide b.wide) h, lt-ltb b.offset (a.offset + bytes_wide a.wide) k, q) refl) ∙ e)

    section : (t : Bool) → same_bool a.text b.text ≡ t → Compatible a b
    section true s = field s (dec_lt a.offset (b.offset + bytes_wide b.wide)) (dec_lt b.offset (a.offset + bytes_wide a.wide)) (same_field a b) refl
    section false s = other_section (λ h. no_true (sym s ∙ same_refl a.text b.text h))

module _ (r : ℕ → FieldPlace) (e : FieldPlace) where
  -- no earlier one overlaps
  pub one-false : (n : ℕ) → meets_one r e n ≡ false → (j : ℕ) → j < n → overlaps (r j) e ≡ false
  unfolding meets_one
  one-false zero h j l = absurd (omega arith)
  one-false (suc n) h j l = go (λ k d. one-false n k j d) (overlaps (r n) e) refl h (ℕ_discrete j n)
    where
      go : (meets_one r e n ≡ false → j < n → overlaps (r j) e ≡ false) → (t : Bool) → overlaps (r n) e ≡ t → cond t true (meets_one r e n) ≡ false → Dec (j ≡ n) → overlaps (r j) e ≡ false
      go rec true q k d = no_false k
      go rec false q k (yes w) = ap (λ (x : ℕ). overlaps (r x) e) w ∙ q
      go rec false q k (no w) = rec k (omega arith)

  record One (n : ℕ) : Type 0 where
    other : ℕ
    below : other < n
    overlap : Overlapping (r other) e

  one-true : (n : ℕ) → meets_one r e n ≡ true → One n
  unfolding meets_one
  one-true zero h = no_true h
  one-true (suc n) h = go (one-true n) (overlaps (r n) e) refl h
    where
      go : (meets_one r e n ≡ true → One n) → (t : Bool) → overlaps (r n) e ≡ t → cond t true (meets_one r e n) ≡ true → One (suc n)
      go rec true q k = record { other = n; below = omega arith; overlap = overlap-true (r n) e q }
      go rec false q k = let w = rec k in record { other = w.other; below = omega (arith, w.below); overlap = w.overlap }

module _ (r : ℕ → FieldPlace) where
  pub meets-true : (i : ℕ) → meets r i ≡ true → Meets r i
  unfolding meets
  meets-true i h = let w = one-true r (r i) i h in record { other = w.other; earlier = w.below; overlap = w.overlap }

  true-meets : (i : ℕ) (t : Bool) → meets r i ≡ t → Meets r i → t ≡ true
  unfolding meets
  true-meets i true q w = refl
  true-meets i false q w = no_true (sym (one-false r (r i) i q w.other w.earlier) ∙ true-overlap (r w.other) (r i) w.overlap)

  pub meets-false : (i : ℕ) → (Meets r i → ⊥) → meets r i ≡ false
  meets-false i n = go (meets r i) refl
    where
      go : (t : Bool) → meets r i ≡ t → meets r i ≡ false
      go true q = absurd (n (meets-true i q))
      go false q = q

  pub meets-is : (i : ℕ) → Meets r i → meets r i ≡ true
  meets-is i w = go (meets r i) refl
    where
      go : (t : Bool) → meets r i ≡ t → meets r i ≡ true
      go t q = q ∙ true-meets i t q w

  -- the fields of an entry that meets no earlier one are compatible with every earlier one
  pub meets-none : (i : ℕ) → meets r i ≡ false → (j : ℕ) → j < i → Compatible (r j) (r i)
  unfolding meets
  meets-none i h j l = no-overlap (r j) (r i) (one-false r (r i) i h j l)

  -- the first, as it is computed
  pub first-before : (n x : ℕ) → First r n x → (i : ℕ) → i < x → meets r i ≡ false
  first-before n x h i l = meets-false i (h.before i l)

  pub first-here : (n x : ℕ) → First r n x → x < n → meets r x ≡ true
  first-here n x h l = meets-is x (h.here l)
