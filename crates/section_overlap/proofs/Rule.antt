-- The rule as it is computed and the rule as a statement. Assumes nothing.
use mathlib.Core.Path.{◌≡◌, refl, sym, ◌∙◌, ap}
use mathlib.Core.Bool.{Bool, true, false, not, cond}
use mathlib.Core.Logic.{inl, inr}
use Prim.Native.Nat.{ℕ, zero, suc, ◌+◌, ◌≤◌, ◌<◌}
use native.Mathlib.Decide.{dec_lt, dec_le, ℕ_discrete}
use native.Mathlib.Omega.{arith}
use lib.Dec.{ltb, eqb}
use borrow.Author.Tests.{lt-ltb, ltb-true, eqb-true, eq-eqb, ne_eqb}
use Rattle.word.proofs.Test.{and_first, and_second}
use Rattle.field_kind.specs.declared.FieldKind.{FieldKind}
use Rattle.field_kind.specs.declared.FieldKind.TheVariants.{Nothing, Four, Eight, Branch}
use Rattle.field_kind.specs.declared.ObjectField.{ObjectField}
use Rattle.field_kind.specs.Field.{bytes_in, place, FieldsCompatible}
use Rattle.section_overlap.specs.Overlap.{kind_number, same_field, overlaps, meets_one, meets, Overlapping, Meets, First}

pub no_true : {A : Type 0} → false ≡ true → A
no_true e = let z : ◌≡◌ {A = ℕ} 0 1 = cc in absurd (omega arith)

pub no_false : {A : Type 0} → true ≡ false → A
no_false e = no_true (sym e)

eqb_refl : (n : ℕ) → eqb n n ≡ true
eqb_refl n = eq-eqb n n refl

not-true : (t : Bool) → not t ≡ true → t ≡ false
not-true true e = no_true e
not-true false e = refl

-- a kind is told by its number
pub kind-same : (a b : FieldKind) → kind_number a ≡ kind_number b → a ≡ b
kind-same Nothing Nothing e = refl
kind-same Four Four e = refl
kind-same Eight Eight e = refl
kind-same Branch Branch e = refl
kind-same Nothing Four e = absurd (omega arith)
kind-same Nothing Eight e = absurd (omega arith)
kind-same Nothing Branch e = absurd (omega arith)
kind-same Four Nothing e = absurd (omega arith)
kind-same Four Eight e = absurd (omega arith)
kind-same Four Branch e = absurd (omega arith)
kind-same Eight Nothing e = absurd (omega arith)
kind-same Eight Four e = absurd (omega arith)
kind-same Eight Branch e = absurd (omega arith)
kind-same Branch Nothing e = absurd (omega arith)
kind-same Branch Four e = absurd (omega arith)
kind-same Branch Eight e = absurd (omega arith)

-- the parts of an overlap
record Parts (a b : ObjectField) : Type 0 where
  some_a : 0 < bytes_in a.kind
  some_b : 0 < bytes_in b.kind
  low : a.offset < b.offset + bytes_in b.kind
  high : b.offset < a.offset + bytes_in a.kind
  other : same_field a b ≡ false

overlap-parts : (a b : ObjectField) → overlaps a b ≡ true → Parts a b
unfolding overlaps
overlap-parts a b e =
    let p = and_second (ltb 0 (bytes_in a.kind)) _ e in
    let q = and_second (ltb 0 (bytes_in b.kind)) _ p in
    let s = and_second (ltb a.offset (b.offset + bytes_in b.kind)) _ q in
    record {
      some_a = ltb-true 0 (bytes_in a.kind) (and_first _ _ e);
      some_b = ltb-true 0 (bytes_in b.kind) (and_first _ _ p);
      low = ltb-true a.offset (b.offset + bytes_in b.kind) (and_first _ _ q);
      high = ltb-true b.offset (a.offset + bytes_in a.kind) (and_first _ _ s);
      other = not-true _ (and_second (ltb b.offset (a.offset + bytes_in a.kind)) _ s);
    }

differ-field : (a b : ObjectField) → same_field a b ≡ false → (a.offset ≡ b.offset) × (a.kind ≡ b.kind) → ⊥
differ-field a b e d = no_true (sym e ∙ rw (d.0, d.1) same)
  where
    same : same_field b b ≡ true
    same = rw (eqb_refl b.offset, eqb_refl (kind_number b.kind)) refl

overlap-true : (a b : ObjectField) → overlaps a b ≡ true → Overlapping a b
overlap-true a b e = go (dec_le a.offset b.offset)
  where
    p : Parts a b
    p = overlap-parts a b e

    go : Dec (a.offset ≤ b.offset) → Overlapping a b
    go (yes h) = record { byte = b.offset; in_a = (h, p.high); in_b = (omega arith, omega (arith, p.some_b)); differ = differ-field a b p.other }
    go (no h) = record { byte = a.offset; in_a = (omega arith, omega (arith, p.some_a)); in_b = (omega arith, p.low); differ = differ-field a b p.other }

field-differs : (a b : ObjectField) → ((a.offset ≡ b.offset) × (a.kind ≡ b.kind) → ⊥) → same_field a b ≡ false
field-differs a b d = go (ℕ_discrete a.offset b.offset) (ℕ_discrete (kind_number a.kind) (kind_number b.kind))
  where
    go : Dec (a.offset ≡ b.offset) → Dec (kind_number a.kind ≡ kind_number b.kind) → same_field a b ≡ false
    go (no n) t = rw (ne_eqb a.offset b.offset n) refl
    go (yes h) (yes k) = absurd (d (h, kind-same a.kind b.kind k))
    go (yes h) (no k) = rw (eq-eqb a.offset b.offset h, ne_eqb (kind_number a.kind) (kind_number b.kind) k) refl

true-overlap : (a b : ObjectField) → Overlapping a b → overlaps a b ≡ true
unfolding overlaps
true-overlap a b c =
    let m : 0 < bytes_in a.kind = omega (arith, c.in_a) in
    let n : 0 < bytes_in b.kind = omega (arith, c.in_b) in
    let u : a.offset < b.offset + bytes_in b.kind = omega (arith, c.in_a, c.in_b) in
    let v : b.offset < a.offset + bytes_in a.kind = omega (arith, c.in_a, c.in_b) in
    rw (lt-ltb 0 (bytes_in a.kind) m, lt-ltb 0 (bytes_in b.kind) n, lt-ltb a.offset (b.offset + bytes_in b.kind) u, lt-ltb b.offset (a.offset + bytes_in a.kind) v, field-differs a b c.differ) refl

-- fields are equal by their parts
pub one_field : (a b : ObjectField) → a.offset ≡ b.offset → a.kind ≡ b.kind → a ≡ b
one_field a b y z =
    let h : place a.offset a.kind ≡ place b.offset b.kind = cc in
    h

-- fields with bytes that do not overlap are the same or share none
pub no-overlap : (a b : ObjectField) → overlaps a b ≡ false → 0 < bytes_in a.kind → 0 < bytes_in b.kind → FieldsCompatible a b
unfolding overlaps
no-overlap a b e m n = go (dec_lt a.offset (b.offset + bytes_in b.kind)) (dec_lt b.offset (a.offset + bytes_in a.kind)) (same_field a b) refl
  where
    go : Dec (a.offset < b.offset + bytes_in b.kind) → Dec (b.offset < a.offset + bytes_in a.kind) → (t : Bool) → same_field a b ≡ t → FieldsCompatible a b
    go (no h) y t q = inr (inr (omega arith))
    go (yes h) (no k) t q = inr (inl (omega arith))
    go (yes h) (yes k) true q =
        inl
        (one_field a b (eqb-true a.offset b.offset (and_first _ _ q))
        (kind-same a.kind b.kind (eqb-true (kind_number a.kind) (kind_number b.kind) (and_second (eqb a.offset b.offset) _ q))))
    go (yes h) (yes k) false q =
        no_false (sym (rw (lt-ltb 0 (bytes_in a.kind) m, lt-ltb 0 (bytes_in b.kind) n, lt-ltb a.offset (b.offset + bytes_in b.kind) h, lt-ltb b.offset (a.offset + bytes_in a.kind) k, q) refl) ∙ e)

module _ (r : ℕ → ObjectField) (e : ObjectField) where
  -- no earlier one overlaps
  pub one-false : (n : ℕ) → meets_one r e n ≡ false → (j : ℕ) → j < n → overlaps (r j) e ≡ false
  unfolding meets_one
  one-false zero h j l = absurd (omega arith)
  one-false (suc n) h j l = go (λ k d. one-false n k j d) (overlaps (r n) e) refl h (ℕ_discrete j n)
    where
      go : (meets_one r e n ≡ false → j < n → overlaps (r j) e ≡ false) → (t : Bool) → overlaps (r n) e ≡ t → cond t true (meets_one r e n) ≡ false → Dec (j ≡ n) → overlaps (r j) e ≡ false
      go rec true q k d = no_false k
      go rec false q k (yes w) = ap (λ (x : ℕ). overlaps (r x) e) w ∙ q
      go rec false q k (no w) = rec k (omega arith)

  record One (n : ℕ) : Type 0 where
    other : ℕ
    below : other < n
    overlap : Overlapping (r other) e

  one-true : (n : ℕ) → meets_one r e n ≡ true → One n
  unfolding meets_one
  one-true zero h = no_true h
  one-true (suc n) h = go (one-true n) (overlaps (r n) e) refl h
    where
      go : (meets_one r e n ≡ true → One n) → (t : Bool) → overlaps (r n) e ≡ t → cond t true (meets_one r e n) ≡ true → One (suc n)
      go rec true q k = record { other = n; below = omega arith; overlap = overlap-true (r n) e q }
      go rec false q k = let w = rec k in record { other = w.other; below = omega (arith, w.below); overlap = w.overlap }

module _ (r : ℕ → ObjectField) where
  pub meets-true : (i : ℕ) → meets r i ≡ true → Meets r i
  unfolding meets
  meets-true i h = let w = one-true r (r i) i h in record { other = w.other; earlier = w.below; overlap = w.overlap }

  true-meets : (i : ℕ) (t : Bool) → meets r i ≡ t → Meets r i → t ≡ true
  unfolding meets
  true-meets i true q w = refl
  true-meets i false q w = no_true (sym (one-false r (r i) i q w.other w.earlier) ∙ true-overlap (r w.other) (r i) w.overlap)

  pub meets-false : (i : ℕ) → (Meets r i → ⊥) → meets r i ≡ false
  meets-false i n = go (meets r i) refl
    where
      go : (t : Bool) → meets r i ≡ t → meets r i ≡ false
      go true q = absurd (n (meets-true i q))
      go false q = q

  pub meets-is : (i : ℕ) → Meets r i → meets r i ≡ true
  meets-is i w = go (meets r i) refl
    where
      go : (t : Bool) → meets r i ≡ t → meets r i ≡ true
      go t q = q ∙ true-meets i t q w

  -- an entry that meets no earlier one overlaps with none
  pub meets-none : (i : ℕ) → meets r i ≡ false → (j : ℕ) → j < i → overlaps (r j) (r i) ≡ false
  unfolding meets
  meets-none i h j l = one-false r (r i) i h j l

  -- the first, as it is computed
  pub first-before : (n x : ℕ) → First r n x → (i : ℕ) → i < x → meets r i ≡ false
  first-before n x h i l = meets-false i (h.before i l)

  pub first-here : (n x : ℕ) → First r n x → x < n → meets r x ≡ true
  first-here n x h l = meets-is x (h.here l)
