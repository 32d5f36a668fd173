-- Laws of fields in ascending order. Assumes nothing.
use mathlib.Core.Path.{◌≡◌, sym, ◌∙◌, ap, subst}
use mathlib.Core.Logic.{◌⊎◌, inl, inr}
use Prim.Native.Nat.{ℕ, ◌+◌, ◌≤◌, ◌<◌}
use native.Mathlib.Decide.{ℕ_discrete}
use native.Mathlib.Omega.{arith}
use Rattle.field_kind.specs.declared.ObjectField.{ObjectField}
use Rattle.field_kind.specs.Field.{bytes_in}
use Rattle.section_overlap.specs.Overlap.{Meets, First}
use Rattle.section_overlap.proofs.Rule.{one_field}
use Rattle.section_overlap.specs.Ascending.{Follows, Ascending}

offset-same : {x y : ObjectField} → x ≡ y → x.offset ≡ y.offset
offset-same e = ap (λ (x : ObjectField). x.offset) e

kind-of-same : {x y : ObjectField} → x ≡ y → x.kind ≡ y.kind
kind-of-same e = ap (λ (x : ObjectField). x.kind) e

end_same : {x y : ObjectField} → x ≡ y → x.offset + bytes_in x.kind ≡ y.offset + bytes_in y.kind
end_same e = ap (λ (x : ObjectField). x.offset + bytes_in x.kind) e

module _ (r : ℕ → ObjectField) (i : ℕ) where
  first_next : First r i i → (Meets r i → ⊥) → First r (i + 1) (i + 1)
  first_next f n = record { within = omega arith; before = λ j l m. go j l m (ℕ_discrete j i); here = λ l. absurd (omega arith) }
    where
      go : (j : ℕ) → j < i + 1 → Meets r j → Dec (j ≡ i) → ⊥
      go j l m (yes e) = n (subst (Meets r) e m)
      go j l m (no d) = f.before j (omega arith) m

  module _ (last : ObjectField) (a : Ascending r i last) where
    -- a field that follows the last one overlaps with no earlier one
    no-meet : Follows last (r i) → Meets r i → ⊥
    no-meet h m = by (a.earlier m.other m.earlier) h
      where
        j : ℕ
        j = m.other

        by : (bytes_in (r j).kind ≡ 0) ⊎ (r j ≡ last) ⊎ ((r j).offset + bytes_in (r j).kind ≤ last.offset) → Follows last (r i) → ⊥
        by (inl z) f = omega (arith, m.overlap.in_a)
        by (inr e) (inl z) = omega (arith, m.overlap.in_b)
        by (inr (inl e)) (inr (inl f)) = m.overlap.differ (offset-same e ∙ sym (offset-same f), kind-of-same e ∙ sym (kind-of-same f))
        by (inr (inl e)) (inr (inr f)) = omega (arith, end_same e, m.overlap.in_a, m.overlap.in_b)
        by (inr (inr e)) (inr (inl f)) = omega (arith, offset-same f, m.overlap.in_a, m.overlap.in_b)
        by (inr (inr e)) (inr (inr f)) = omega (arith, m.overlap.in_a, m.overlap.in_b)

    pub empty-next : bytes_in (r i).kind ≡ 0 → Ascending r (i + 1) last
    empty-next z = record { none = first_next a.none (no-meet (inl z)); earlier = λ j k. go j k (ℕ_discrete j i) }
      where
        go : (j : ℕ) → j < i + 1 → Dec (j ≡ i) → (bytes_in (r j).kind ≡ 0) ⊎ (r j ≡ last) ⊎ ((r j).offset + bytes_in (r j).kind ≤ last.offset)
        go j k (yes e) = inl (ap (λ (x : ℕ). bytes_in (r x).kind) e ∙ z)
        go j k (no d) = a.earlier j (omega arith)

    pub field_next : (r i ≡ last) ⊎ (last.offset + bytes_in last.kind ≤ (r i).offset) → Ascending r (i + 1) (r i)
    field_next f = record { none = first_next a.none (no-meet (inr f)); earlier = λ j k. go j k (ℕ_discrete j i) }
      where
        by : (j : ℕ) → (bytes_in (r j).kind ≡ 0) ⊎ (r j ≡ last) ⊎ ((r j).offset + bytes_in (r j).kind ≤ last.offset)
            → (r i ≡ last) ⊎ (last.offset + bytes_in last.kind ≤ (r i).offset)
            → (bytes_in (r j).kind ≡ 0) ⊎ (r j ≡ r i) ⊎ ((r j).offset + bytes_in (r j).kind ≤ (r i).offset)
        by j (inl z) f = inl z
        by j (inr (inl e)) (inl f) = inr (inl (e ∙ sym f))
        by j (inr (inl e)) (inr f) = inr (inr (omega (arith, end_same e)))
        by j (inr (inr e)) (inl f) = inr (inr (omega (arith, offset-same f)))
        by j (inr (inr e)) (inr f) = inr (inr (omega arith))

        go : (j : ℕ) → j < i + 1 → Dec (j ≡ i) → (bytes_in (r j).kind ≡ 0) ⊎ (r j ≡ r i) ⊎ ((r j).offset + bytes_in (r j).kind ≤ (r i).offset)
        go j k (yes e) = inr (inl (ap r e))
        go j k (no d) = by j (a.earlier j (omega arith)) f

-- past the last entry
pub none-overlap : (r : ℕ → ObjectField) (i n : ℕ) (last : ObjectField) → i ≤ n → n ≤ i → Ascending r i last → First r n n
none-overlap r i n last h k a = let e : i ≡ n = omega arith in subst (λ (x : ℕ). First r x x) e a.none

module _ (last x : ObjectField) where
  pub step-empty : bytes_in x.kind ≡ 0 → (r : ℕ → ObjectField) (i : ℕ) → x ≡ r i → Ascending r i last → Ascending r (i + 1) last
  step-empty z r i q a = empty-next r i last a (subst (λ (y : ObjectField). bytes_in y.kind ≡ 0) q z)

  pub step_after : last.offset + bytes_in last.kind ≤ x.offset → (r : ℕ → ObjectField) (i : ℕ) → x ≡ r i → Ascending r i last → Ascending r (i + 1) x
  step_after h r i q a =
      subst (λ (y : ObjectField). Ascending r (i + 1) y) (sym q)
      (field_next r i last a (inr (subst (λ (y : ObjectField). last.offset + bytes_in last.kind ≤ y.offset) q h)))

  pub step_same : last.offset ≡ x.offset → last.kind ≡ x.kind → (r : ℕ → ObjectField) (i : ℕ) → x ≡ r i → Ascending r i last → Ascending r (i + 1) x
  step_same e k r i q a =
      subst (λ (y : ObjectField). Ascending r (i + 1) y) (sym q) (field_next r i last a (inl (sym q ∙ sym (one_field last x e k))))
