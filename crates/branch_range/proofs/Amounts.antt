-- Amounts as they are added to a sum. Assumes nothing.
use mathlib.Core.Path.{◌≡◌, sym, ◌∙◌, ap}
use mathlib.Core.List.{List}
use Prim.Native.Nat.{ℕ}
use lib.ListN.{get_or}
use lib.IntN.{ℤ, pos, neg_ℤ, ◌+ℤ◌, ◌-ℤ◌, +ℤ_assoc, +ℤ_comm, neg_ℤ-+ℤ, neg_ℤ-neg_ℤ}
use Rattle.book.specs.Machine.{Shifts}
use Rattle.branch.specs.Branch.{branch_value, wide}
use Rattle.branch.proofs.Wide.{wide-add}
use Rattle.object_history.specs.declared.AmountKind.{AmountKind}
use Rattle.object_history.specs.declared.AmountKind.TheVariants.{Plus, Minus, Relative}
use Rattle.object_history.specs.declared.ObjectEntry.{ObjectEntry}
use Rattle.object_history.specs.Entry.{amount_by, amount_of}
use Rattle.object_plan.specs.Shifts.{address_shifts}

-- one after the other
pub add-both : (a : ℕ) (z w : ℤ) {m k : ℕ} → m ≡ wide (pos a +ℤ z) → k ≡ wide (pos m +ℤ w) → k ≡ wide (pos a +ℤ (z +ℤ w))
add-both a z w e f = f ∙ ap (λ (x : ℕ). wide (pos x +ℤ w)) e ∙ wide-add (pos a +ℤ z) w ∙ ap wide (+ℤ_assoc (pos a) z w)

turned : (z w : ℤ) → w -ℤ z ≡ neg_ℤ (z -ℤ w)
turned z w = sym (neg_ℤ-+ℤ z (neg_ℤ w) ∙ ap (λ (x : ℤ). neg_ℤ z +ℤ x) (neg_ℤ-neg_ℤ w) ∙ +ℤ_comm (neg_ℤ z) w)

module _ (a : ℕ) (to from : List ℕ) (k own : ℕ) {kind : AmountKind} {m : ℕ} where
  pub added-plus : kind ≡ Plus → m ≡ wide (pos a +ℤ (pos (get_or to k 0) -ℤ pos (get_or from k 0))) → m ≡ wide (pos a +ℤ amount_by kind (address_shifts to from k) (address_shifts to from own))
  unfolding address_shifts
  added-plus e h = rw e h

  pub added-minus : kind ≡ Minus → m ≡ wide (pos a +ℤ (pos (get_or from k 0) -ℤ pos (get_or to k 0))) → m ≡ wide (pos a +ℤ amount_by kind (address_shifts to from k) (address_shifts to from own))
  unfolding address_shifts
  added-minus e h = rw e (h ∙ ap (λ (z : ℤ). wide (pos a +ℤ z)) (turned (pos (get_or to k 0)) (pos (get_or from k 0))))

  pub added-relative : kind ≡ Relative → {x : ℕ} → x ≡ wide (pos a +ℤ (pos (get_or to k 0) -ℤ pos (get_or from k 0))) → m ≡ wide (pos x +ℤ (pos (get_or from own 0) -ℤ pos (get_or to own 0)))
      → m ≡ wide (pos a +ℤ amount_by kind (address_shifts to from k) (address_shifts to from own))
  unfolding address_shifts
  added-relative e g h =
      rw e (add-both a (pos (get_or to k 0) -ℤ pos (get_or from k 0)) (pos (get_or from own 0) -ℤ pos (get_or to own 0)) g h
      ∙ ap (λ (z : ℤ). wide (pos a +ℤ ((pos (get_or to k 0) -ℤ pos (get_or from k 0)) +ℤ z))) (turned (pos (get_or to own 0)) (pos (get_or from own 0))))

-- a word's own value and the first entry on it
pub word-start : (word : ℕ → ℕ) (s : Shifts) (v : ℕ) (e d : ObjectEntry) {m k : ℕ} → e ≡ d → v ≡ word e.field.offset → m ≡ wide (branch_value v) → k ≡ wide (pos m +ℤ amount_of e s)
    → k ≡ wide (branch_value (word d.field.offset) +ℤ amount_of d s)
word-start word s v e d q p f h =
    h ∙ ap (λ (x : ℕ). wide (pos x +ℤ amount_of e s)) f ∙ wide-add (branch_value v) (amount_of e s)
    ∙ ap (λ (x : ℕ). wide (branch_value x +ℤ amount_of e s)) p
    ∙ ap (λ (x : ObjectEntry). wide (branch_value (word x.field.offset) +ℤ amount_of x s)) q

pub amount-as : (s : Shifts) (a : ℕ) {e d : ObjectEntry} {k : ℕ} → e ≡ d → k ≡ wide (pos a +ℤ amount_of e s) → k ≡ wide (pos a +ℤ amount_of d s)
amount-as s a q h = h ∙ ap (λ (x : ObjectEntry). wide (pos a +ℤ amount_of x s)) q
