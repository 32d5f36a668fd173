-- Laws of an object file's entries: what composition asks of them. Assumes nothing.
use mathlib.Core.Path.{◌≡◌, refl, sym, ◌∙◌, ap}
use mathlib.Core.Logic.{◌⊎◌}
use mathlib.Core.List.{List, [], ◌∷◌}
use Prim.Native.Nat.{ℕ, ◌+◌, ◌≤◌, ◌<◌}
use lib.ListN.{length, get_or}
use lib.IntN.{ℤ, pos, neg_ℤ, ◌+ℤ◌, ◌-ℤ◌, +ℤ_assoc, +ℤ_comm, neg_ℤ-+ℤ}
use Rattle.update.specs.Update.{Bytes}
use Rattle.book.specs.Machine.{Shifts, unshifted, sum}
use Rattle.book.specs.Entries as entries
use Rattle.book.proofs.Entries as composition
use Rattle.book.proofs.Entries.{FieldLaws}
use Rattle.field_kind.specs.Field.{bytes_in, add_to, FieldInside, FieldsApart}
use Rattle.field_kind.proofs.Laws.{length-add_to, add_to-add_to, add_to-apart, add_to-zero, add_to-outside}
use Rattle.object_history.specs.declared.AmountKind.{AmountKind}
use Rattle.object_history.specs.declared.AmountKind.TheVariants.{Plus, Minus, Relative}
use Rattle.object_history.specs.declared.ObjectEntry.{ObjectEntry}
use Rattle.object_history.specs.Entry.{amount_by, amount_of, fields, apply_all, Inside, Compatible}

-- ---- amounts

-- the difference of sums is the sum of differences
sub-add : (a b c d : ℤ) → (a -ℤ b) +ℤ (c -ℤ d) ≡ (a +ℤ c) -ℤ (b +ℤ d)
sub-add a b c d =
    +ℤ_assoc a (neg_ℤ b) (c -ℤ d)
    ∙ ap (λ (z : ℤ). a +ℤ z) (sym (+ℤ_assoc (neg_ℤ b) c (neg_ℤ d)) ∙ ap (λ (z : ℤ). z -ℤ d) (+ℤ_comm (neg_ℤ b) c) ∙ +ℤ_assoc c (neg_ℤ b) (neg_ℤ d))
    ∙ sym (+ℤ_assoc a c (neg_ℤ b +ℤ neg_ℤ d))
    ∙ ap (λ (z : ℤ). a +ℤ c +ℤ z) (sym (neg_ℤ-+ℤ b d))

-- an amount goes over a sum of shifts
amount_by-add : (k : AmountKind) (a b c d : ℤ) → amount_by k a b +ℤ amount_by k c d ≡ amount_by k (a +ℤ c) (b +ℤ d)
amount_by-add Plus a b c d = refl
amount_by-add Minus a b c d = sym (neg_ℤ-+ℤ a c)
amount_by-add Relative a b c d = sub-add a b c d

pub amount-add : (e : ObjectEntry) (s t : Shifts) → amount_of e s +ℤ amount_of e t ≡ amount_of e (sum s t)
amount-add e s t = amount_by-add e.amount (s e.symbol) (s e.name.section.0) (t e.symbol) (t e.name.section.0)

-- ---- composition

abbrev field_laws : FieldLaws fields
field_laws =
    record {
      Inside = FieldInside;
      Apart = FieldsApart;
      inside-add = λ p q a x i. rw (length-add_to q a x) i;
      add-add = add_to-add_to;
      add_apart = add_to-apart;
      amount-sum = amount-add;
    }

-- all entries by s and then all by t are all by s + t
pub apply_all-add : (es : List ObjectEntry) (s t : Shifts) (x : List ℕ) → entries.All (Inside x) es → entries.Pairwise Compatible es
    → apply_all es t (apply_all es s x) ≡ apply_all es (sum s t) x
unfolding apply_all
apply_all-add es s t x i p = composition.apply_all-add fields field_laws es s t x i p

-- entries applied keep the length
pub apply_all-length : (es : List ObjectEntry) (s : Shifts) (x : List ℕ) → length (apply_all es s x) ≡ length x
unfolding apply_all
apply_all-length [] s x = refl
apply_all-length (e ∷ es) s x = apply_all-length es s (add_to e.field (amount_of e s) x) ∙ length-add_to e.field (amount_of e s) x

-- ---- shifts of 0, and bytes outside the fields

pub amount-zero : (k : AmountKind) → amount_by k (pos 0) (pos 0) ≡ pos 0
amount-zero Plus = refl
amount-zero Minus = refl
amount-zero Relative = refl

-- entries applied by 0 change nothing
pub apply_all-zero : (es : List ObjectEntry) (x : List ℕ) → Bytes x → entries.All (Inside x) es → apply_all es unshifted x ≡ x
unfolding apply_all
apply_all-zero [] x h i = refl
apply_all-zero (e ∷ es) x h i =
    ap (apply_all es unshifted) (ap (λ (z : ℤ). add_to e.field z x) (amount-zero e.amount) ∙ add_to-zero e.field x h i.0) ∙ apply_all-zero es x h i.1

-- entries applied change no byte outside their fields
pub apply_all-outside : (k : ℕ) (es : List ObjectEntry) (s : Shifts) (x : List ℕ)
    → entries.All (λ e. (k < e.field.offset) ⊎ (e.field.offset + bytes_in e.field.kind ≤ k)) es → get_or (apply_all es s x) k 0 ≡ get_or x k 0
unfolding apply_all
apply_all-outside k [] s x h = refl
apply_all-outside k (e ∷ es) s x h =
    apply_all-outside k es s (add_to e.field (amount_of e s) x) h.1
    ∙ add_to-outside e.field (amount_of e s) k x h.0
