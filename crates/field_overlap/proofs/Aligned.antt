-- Laws of aligned fields. Assumes nothing.
use mathlib.Core.Path.{◌≡◌, sym, ◌∙◌}
use mathlib.Core.Bool.{Bool, true, false}
use Prim.Native.Nat.{ℕ, ◌+◌, ◌%◌, ◌≤◌, ◌<◌}
use native.Mathlib.Omega.{arith}
use Rattle.relocation.specs.declared.FieldPlace.{FieldPlace}
use Rattle.relocation.specs.Relocation.{bytes_wide}
use Rattle.field_overlap.specs.Overlap.{Overlapping, First}
use Rattle.field_overlap.specs.Aligned.{Aligned}

-- of two multiples of a width that are both at most that width below a byte, each is the other
one_place : (wide : Bool) (a b k : ℕ) → a % bytes_wide wide ≡ 0 → b % bytes_wide wide ≡ 0 → a ≤ k → k < a + bytes_wide wide → b ≤ k → k < b + bytes_wide wide → a ≡ b
one_place true a b k p q h h' l l' = omega arith
one_place false a b k p q h h' l l' = omega arith

-- two aligned fields do not overlap
pub no-overlap : (wide : Bool) (a b : FieldPlace) → Aligned wide a → Aligned wide b → Overlapping a b → ⊥
no-overlap wide a b x y o =
    let h = rw x.width at o.in_a in
    let l = rw y.width at o.in_b in
    o.differ (one_place wide a.offset b.offset o.byte x.place y.place h.0 h.1 l.0 l.1, x.width ∙ sym y.width)

-- so none of n does
pub none-overlap-aligned : (wide : Bool) (r : ℕ → FieldPlace) (i n : ℕ) → n ≤ i → ((j : ℕ) → j < i → Aligned wide (r j)) → First r n n
none-overlap-aligned wide r i n h a =
    record {
      within = omega arith;
      before = λ k l m. no-overlap wide (r m.other) (r k) (a m.other (omega (arith, m.earlier))) (a k (omega arith)) m.overlap;
      here = λ l. absurd (omega arith);
    }
