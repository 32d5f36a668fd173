-- Laws of fields in ascending order. Assumes nothing.
use mathlib.Core.Path.{◌≡◌, refl, sym, ◌∙◌, ap, subst}
use mathlib.Core.Logic.{◌⊎◌, inl, inr, ⊎_elim}
use mathlib.Core.Bool.{Bool, true, false}
use Prim.Native.Nat.{ℕ, ◌+◌, ◌≤◌, ◌<◌}
use native.Mathlib.Decide.{ℕ_discrete}
use native.Mathlib.Omega.{arith}
use Rattle.relocation.specs.declared.FieldPlace.{FieldPlace}
use Rattle.relocation.specs.Relocation.{bytes_wide}
use Rattle.field_overlap.specs.declared.Extent.{Extent}
use Rattle.field_overlap.specs.declared.LastFields.{LastFields}
use Rattle.field_overlap.specs.Overlap.{Meets, First}
use Rattle.field_overlap.specs.Ascending.{extent_of, Follows, LastField, Ascending, StepOut}
use Rattle.field_overlap.proofs.Rule.{no_true, no_false}

abbrev extent : ℕ → ℕ → Extent
extent start end = record { start = start; end = end }

start-same : {x y : Extent} → x ≡ y → x.start ≡ y.start
start-same e = ap (λ (x : Extent). x.start) e

end_same : {x y : Extent} → x ≡ y → x.end ≡ y.end
end_same e = ap (λ (x : Extent). x.end) e

bytes_same : (a b : Bool) → bytes_wide a ≡ bytes_wide b → a ≡ b
bytes_same true true e = refl
bytes_same true false e = absurd (omega arith)
bytes_same false true e = absurd (omega arith)
bytes_same false false e = refl

-- fields of one extent are alike
extent-field : (a b : FieldPlace) → extent_of a ≡ extent_of b → (a.offset ≡ b.offset) × (a.wide ≡ b.wide)
extent-field a b e =
    let o : a.offset ≡ b.offset = start-same e in
    let w : a.offset + bytes_wide a.wide ≡ b.offset + bytes_wide b.wide = end_same e in
    (o, bytes_same a.wide b.wide (omega arith))

module _ (r : ℕ → FieldPlace) (i : ℕ) where
  first_next : First r i i → (Meets r i → ⊥) → First r (i + 1) (i + 1)
  first_next f n = record { within = omega arith; before = λ j l m. go j l m (ℕ_discrete j i); here = λ l. absurd (omega arith) }
    where
      go : (j : ℕ) → j < i + 1 → Meets r j → Dec (j ≡ i) → ⊥
      go j l m (yes e) = n (subst (Meets r) e m)
      go j l m (no d) = f.before j (omega arith) m

  module _ (t : Bool) (last : Extent) (l : LastField r t i last) where
    -- a field that follows the last one of its section overlaps with no earlier one
    no-meet : (r i).text ≡ t → Follows last (extent_of (r i)) → Meets r i → ⊥
    no-meet s h m = ⊎_elim (λ q. is_last q h) (λ q. before_last q h) (l.earlier m.other m.earlier (m.overlap.section ∙ s))
      where
        is_last : extent_of (r m.other) ≡ last → Follows last (extent_of (r i)) → ⊥
        is_last q (inl a) = omega (arith, end_same q, m.overlap.in_a, m.overlap.in_b)
        is_last q (inr a) = m.overlap.differ (extent-field (r m.other) (r i) (q ∙ sym a))

        before_last : (r m.other).offset + bytes_wide (r m.other).wide ≤ last.start → Follows last (extent_of (r i)) → ⊥
        before_last q (inl a) = omega (arith, l.ordered, m.overlap.in_a, m.overlap.in_b)
        before_last q (inr a) = omega (arith, start-same a, m.overlap.in_a, m.overlap.in_b)

    -- it is then the last one
    last-next : Follows last (extent_of (r i)) → LastField r t (i + 1) (extent_of (r i))
    last-next h = record { ordered = omega arith; earlier = λ j k s. go j k s (ℕ_discrete j i) }
      where
        is_last : (j : ℕ) → extent_of (r j) ≡ last → Follows last (extent_of (r i)) → (extent_of (r j) ≡ extent_of (r i)) ⊎ ((r j).offset + bytes_wide (r j).wide ≤ (r i).offset)
        is_last j q (inl a) = inr (omega (arith, end_same q))
        is_last j q (inr a) = inl (q ∙ sym a)

        before_last : (j : ℕ) → (r j).offset + bytes_wide (r j).wide ≤ last.start → Follows last (extent_of (r i)) → (r j).offset + bytes_wide (r j).wide ≤ (r i).offset
        before_last j q (inl a) = omega (arith, l.ordered)
        before_last j q (inr a) = omega (arith, start-same a)

        go : (j : ℕ) → j < i + 1 → (r j).text ≡ t → Dec (j ≡ i) → (extent_of (r j) ≡ extent_of (r i)) ⊎ ((r j).offset + bytes_wide (r j).wide ≤ (r i).offset)
        go j k s (yes e) = inl (ap (λ (x : ℕ). extent_of (r x)) e)
        go j k s (no d) = ⊎_elim (λ q. is_last j q h) (λ q. inr (before_last j q h)) (l.earlier j (omega arith) s)

    -- a field of the other section leaves it
    other-next : ((r i).text ≡ t → ⊥) → LastField r t (i + 1) last
    other-next n = record { ordered = l.ordered; earlier = λ j k s. go j k s (ℕ_discrete j i) }
      where
        go : (j : ℕ) → j < i + 1 → (r j).text ≡ t → Dec (j ≡ i) → (extent_of (r j) ≡ last) ⊎ ((r j).offset + bytes_wide (r j).wide ≤ last.start)
        go j k s (yes e) = absurd (n (ap (λ (x : ℕ). (r x).text) (sym e) ∙ s))
        go j k s (no d) = l.earlier j (omega arith) s

-- past the last entry
pub none-overlap : (r : ℕ → FieldPlace) (i n : ℕ) (last : LastFields) → i ≤ n → n ≤ i → Ascending r i last → First r n n
none-overlap r i n last h k a = let e : i ≡ n = omega arith in subst (λ (x : ℕ). First r x x) e a.none

module _ (last : LastFields) (e : FieldPlace) where
  text-next : e.text ≡ true → Follows last.text (extent_of e) → StepOut last e (record { text = extent_of e; «data» = last.«data» })
  text-next s h r i q a =
      let k : (r i).text ≡ true = sym (ap (λ (x : FieldPlace). x.text) q) ∙ s in
      let g : Follows last.text (extent_of (r i)) = subst (λ (x : FieldPlace). Follows last.text (extent_of x)) q h in
      record {
        none = first_next r i a.none (no-meet r i true last.text a.in_text k g);
        in_text = subst (λ (x : FieldPlace). LastField r true (i + 1) (extent_of x)) (sym q) (last-next r i true last.text a.in_text g);
        in_data = other-next r i false last.«data» a.in_data (λ d. no_false (sym k ∙ d));
      }

  data-next : e.text ≡ false → Follows last.«data» (extent_of e) → StepOut last e (record { text = last.text; «data» = extent_of e })
  data-next s h r i q a =
      let k : (r i).text ≡ false = sym (ap (λ (x : FieldPlace). x.text) q) ∙ s in
      let g : Follows last.«data» (extent_of (r i)) = subst (λ (x : FieldPlace). Follows last.«data» (extent_of x)) q h in
      record {
        none = first_next r i a.none (no-meet r i false last.«data» a.in_data k g);
        in_text = other-next r i true last.text a.in_text (λ d. no_true (sym k ∙ d));
        in_data = subst (λ (x : FieldPlace). LastField r false (i + 1) (extent_of x)) (sym q) (last-next r i false last.«data» a.in_data g);
      }

  -- the same, by the extent that was compared
  pub text-step : (x : Extent) → x ≡ extent_of e → e.text ≡ true → Follows last.text x → StepOut last e (record { text = x; «data» = last.«data» })
  text-step x q s h =
      subst (λ (y : Extent). StepOut last e (record { text = y; «data» = last.«data» })) (sym q) (text-next s (subst (Follows last.text) q h))

  pub data-step : (x : Extent) → x ≡ extent_of e → e.text ≡ false → Follows last.«data» x → StepOut last e (record { text = last.text; «data» = x })
  data-step x q s h =
      subst (λ (y : Extent). StepOut last e (record { text = last.text; «data» = y })) (sym q) (data-next s (subst (Follows last.«data») q h))
