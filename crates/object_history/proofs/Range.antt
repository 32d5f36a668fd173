-- What RANGE guarantees: a branch gets its exact value, its bottom two bits stay, and what is judged after an accepted call is what is judged at once. Assumes nothing.
use mathlib.Core.Path.{◌≡◌, refl, sym, ◌∙◌, ap, ap₂}
use mathlib.Core.Logic.{◌⊎◌, inl, inr, ⊎_swap, ⊎_elim}
use mathlib.Core.Bool.{Bool, true, false, cond, not, ◌&&◌}
use mathlib.Core.List.{List, [], ◌∷◌}
use Prim.Native.Nat.{ℕ, ◌+◌, ◌/◌, ◌%◌, ◌≤◌, ◌<◌}
use native.Mathlib.Nat.{mod-eq_of_lt}
use native.Mathlib.Omega.{arith}
use lib.Dec.{lit<, eqb}
use lib.ListN.{length}
use lib.IntN.{ℤ, pos, ◌+ℤ◌, +ℤ_assoc, +ℤ_comm, +ℤ_idr, +ℤ_idl}
use borrow.Author.Tests.{eq-eqb, ne_eqb, not-false}
use Rattle.word.specs.Number.{field_at}
use Rattle.refusal.specs.declared.Refusal.TheVariants as refusal
use Rattle.refusal.specs.Order.{◌or_else◌, refuse_if}
use Rattle.refusal.proofs.Order.{accepted-first, accepted-rest, accepted-test}
use Rattle.update.specs.Update.{update, remainder, Apart}
use Rattle.update.proofs.Remainder.{remainder-lt}
use Rattle.update.proofs.Laws.{field_put, field_apart}
use Rattle.book.specs.Machine.{Shifts, unshifted, sum}
use Rattle.book.specs.Entries.{All, Pairwise}
use Rattle.field_kind.specs.declared.FieldKind.{FieldKind}
use Rattle.field_kind.specs.declared.FieldKind.TheVariants.{Nothing, Four, Eight, Branch}
use Rattle.field_kind.specs.declared.ObjectField.{ObjectField}
use Rattle.field_kind.specs.Field.{bytes_in, branch_limit, add_low, add_it, add_to, FieldsApart}
use Rattle.field_kind.proofs.Laws.{add_low-lt, add_low-cong, length-add_to}
use Rattle.branch.specs.Branch.{branch_value, in_range}
use Rattle.branch.proofs.Value.{rem, rem-pos, value-exact, bottom-kept, value-in-range}
use Rattle.object_history.specs.declared.ObjectEntry.{ObjectEntry}
use Rattle.object_history.specs.Entry.{amount_of, apply_all, Inside, Compatible}
use Rattle.object_history.specs.Range.{is_branch, is_on, amounts_on, branch_sum, out_of_range, range_from}
use Rattle.object_history.proofs.Entry.{amount-add, amount-zero}
use Rattle.std.specs.Prelude.{Ok}
use Rattle.refusal.specs.Verdict.{Verdict}

-- ---- a branch word after all entries

abbrev branch_at : ℕ → ObjectField
branch_at off = record { offset = off; kind = Branch }

field-branch : (f : ObjectField) → f.kind ≡ Branch → f ≡ branch_at f.offset
field-branch f e = ap (λ (k : FieldKind). record-field f.offset k) e
  where
    record-field : ℕ → FieldKind → ObjectField
    record-field o k = record { offset = o; kind = k }

-- an entry of the word is on it, and one apart is not
on_same : (off : ℕ) (g : ObjectEntry) → branch_at off ≡ g.field → is_on off g ≡ true
on_same off g q = rw (← q) (eq-eqb off off refl)

on-apart : (off j : ℕ) (k : FieldKind) → Apart off 4 j (bytes_in k) → (is_branch k && eqb j off) ≡ false
on-apart off j Nothing h = refl
on-apart off j Four h = refl
on-apart off j Eight h = refl
on-apart off j Branch h = ne_eqb j off (λ e. ⊎_elim (λ l. omega arith) (λ l. omega arith) h)

-- the word after an addition to it, and after one apart
word_same : (off : ℕ) (a : ℤ) (x : List ℕ) → off + 4 ≤ length x → field_at 4 off (add_to (branch_at off) a x) ≡ add_low a (field_at 4 off x)
unfolding add_to add_it update
word_same off a x i = field_put 4 off (add_low a (field_at 4 off x)) x i ∙ mod-eq_of_lt (add_low-lt a (field_at 4 off x))

word-apart : (off : ℕ) (f : ObjectField) (a : ℤ) (x : List ℕ) → FieldsApart (branch_at off) f → field_at 4 off (add_to f a x) ≡ field_at 4 off x
unfolding add_to update
word-apart off f a x h = field_apart (bytes_in f.kind) f.offset _ 4 off x (⊎_swap h)

-- the word's low 26 bits after all entries
word_after : (off : ℕ) (es : List ObjectEntry) (s : Shifts) (x : List ℕ) → All (λ g. (branch_at off ≡ g.field) ⊎ FieldsApart (branch_at off) g.field) es → off + 4 ≤ length x
    → field_at 4 off (apply_all es s x) % branch_limit ≡ rem (pos (field_at 4 off x) +ℤ amounts_on off es s)
unfolding apply_all amounts_on
word_after off [] s x c i = sym (ap rem (+ℤ_idr (pos (field_at 4 off x))) ∙ rem-pos (field_at 4 off x))
word_after off (g ∷ es) s x c i =
    word_after off es s (add_to g.field (amount_of g s) x) c.1 (rw (length-add_to g.field (amount_of g s) x) i) ∙ by_place c.0
  where
    a : ℤ
    a = amount_of g s

    rest : ℤ
    rest = amounts_on off es s

    by_place : (branch_at off ≡ g.field) ⊎ FieldsApart (branch_at off) g.field
        → rem (pos (field_at 4 off (add_to g.field a x)) +ℤ rest) ≡ rem (pos (field_at 4 off x) +ℤ (cond (is_on off g) a (pos 0) +ℤ rest))
    by_place (inl q) =
        ap (λ (k : ℕ). rem (pos k +ℤ rest)) (ap (λ (f : ObjectField). field_at 4 off (add_to f a x)) (sym q) ∙ word_same off a x i)
        ∙ add_low-cong a rest (field_at 4 off x)
        ∙ ap rem (+ℤ_assoc (pos (field_at 4 off x)) a rest)
        ∙ ap (λ (t : Bool). rem (pos (field_at 4 off x) +ℤ (cond t a (pos 0) +ℤ rest))) (sym (on_same off g q))
    by_place (inr h) =
        ap (λ (k : ℕ). rem (pos k +ℤ rest)) (word-apart off g.field a x h)
        ∙ ap (λ (z : ℤ). rem (pos (field_at 4 off x) +ℤ z)) (sym (+ℤ_idl rest))
        ∙ ap (λ (t : Bool). rem (pos (field_at 4 off x) +ℤ (cond t a (pos 0) +ℤ rest))) (sym (on-apart off g.field.offset g.field.kind h))

-- the word's high six bits stay
high-kept : (a : ℤ) (v : ℕ) → add_low a v / branch_limit % 64 ≡ v / branch_limit % 64
unfolding add_low
high-kept a v =
    let l : remainder (pos v +ℤ a) branch_limit < branch_limit = remainder-lt branch_limit (lit< tt) (pos v +ℤ a) in
    omega arith

high_after : (off : ℕ) (es : List ObjectEntry) (s : Shifts) (x : List ℕ) → All (λ g. (branch_at off ≡ g.field) ⊎ FieldsApart (branch_at off) g.field) es → off + 4 ≤ length x
    → field_at 4 off (apply_all es s x) / branch_limit % 64 ≡ field_at 4 off x / branch_limit % 64
unfolding apply_all
high_after off [] s x c i = refl
high_after off (g ∷ es) s x c i =
    high_after off es s (add_to g.field (amount_of g s) x) c.1 (rw (length-add_to g.field (amount_of g s) x) i) ∙ by_place c.0
  where
    a : ℤ
    a = amount_of g s

    by_place : (branch_at off ≡ g.field) ⊎ FieldsApart (branch_at off) g.field
        → field_at 4 off (add_to g.field a x) / branch_limit % 64 ≡ field_at 4 off x / branch_limit % 64
    by_place (inl q) =
        ap (λ (k : ℕ). k / branch_limit % 64) (ap (λ (f : ObjectField). field_at 4 off (add_to f a x)) (sym q) ∙ word_same off a x i)
        ∙ high-kept a (field_at 4 off x)
    by_place (inr h) = ap (λ (k : ℕ). k / branch_limit % 64) (word-apart off g.field a x h)

-- ---- sums of amounts

swap_add : (a b c d : ℤ) → (a +ℤ b) +ℤ (c +ℤ d) ≡ (a +ℤ c) +ℤ (b +ℤ d)
swap_add a b c d =
    +ℤ_assoc a b (c +ℤ d) ∙ ap (λ (z : ℤ). a +ℤ z) (sym (+ℤ_assoc b c d) ∙ ap (λ (z : ℤ). z +ℤ d) (+ℤ_comm b c) ∙ +ℤ_assoc c b d) ∙ sym (+ℤ_assoc a c (b +ℤ d))

pub amounts-add : (off : ℕ) (es : List ObjectEntry) (s t : Shifts) → amounts_on off es s +ℤ amounts_on off es t ≡ amounts_on off es (sum s t)
unfolding amounts_on
amounts-add off [] s t = refl
amounts-add off (e ∷ es) s t =
    swap_add (cond (is_on off e) (amount_of e s) (pos 0)) (amounts_on off es s) (cond (is_on off e) (amount_of e t) (pos 0)) (amounts_on off es t)
    ∙ ap₂ (λ (a b : ℤ). a +ℤ b) (by-test (is_on off e)) (amounts-add off es s t)
  where
    by-test : (b : Bool) → cond b (amount_of e s) (pos 0) +ℤ cond b (amount_of e t) (pos 0) ≡ cond b (amount_of e (sum s t)) (pos 0)
    by-test true = amount-add e s t
    by-test false = refl

-- ---- each entry against all

compatible-sym : (e g : ObjectEntry) → Compatible e g → Compatible g e
compatible-sym e g (inl q) = inl (sym q)
compatible-sym e g (inr h) = inr (⊎_swap h)

with_first : (e : ObjectEntry) (es ds : List ObjectEntry) → All (Compatible e) ds → All (λ g. All (Compatible g) es) ds → All (λ g. All (Compatible g) (e ∷ es)) ds
with_first e es [] a b = tt
with_first e es (g ∷ ds) a b = ((compatible-sym e g a.0, b.0), with_first e es ds a.1 b.1)

pub each_two : (es : List ObjectEntry) → Pairwise Compatible es → All (λ e. All (Compatible e) es) es
each_two [] p = tt
each_two (e ∷ es) p = ((inl refl, p.0), with_first e es es p.0 (each_two es p.1))

-- ---- what RANGE guarantees

is-branch : (k : FieldKind) → is_branch k ≡ true → k ≡ Branch
is-branch Nothing h = cc
is-branch Four h = cc
is-branch Eight h = cc
is-branch Branch h = refl

module _ (es : List ObjectEntry) (s : Shifts) (x : List ℕ) where
  -- the branch word of an entry before and after the entries are applied: the exact sum is its value, and the other six and two bits stay
  pub record Kept (e : ObjectEntry) : Type 0 where
    pub exact : branch_value (field_at 4 e.field.offset (apply_all es s x)) ≡ branch_sum es s x e.field.offset
    pub bottom : field_at 4 e.field.offset (apply_all es s x) % 4 ≡ field_at 4 e.field.offset x % 4
    pub high : field_at 4 e.field.offset (apply_all es s x) / branch_limit % 64 ≡ field_at 4 e.field.offset x / branch_limit % 64

  compatible-branch : (e : ObjectEntry) (f : ObjectField) → e.field ≡ f → (ds : List ObjectEntry) → All (Compatible e) ds
      → All (λ g. (f ≡ g.field) ⊎ FieldsApart f g.field) ds
  compatible-branch e f q ds c = rw q at c

  inside-branch : (e : ObjectEntry) → e.field.kind ≡ Branch → Inside x e → e.field.offset + 4 ≤ length x
  inside-branch e k i = rw k at i

  -- a branch entry within range
  kept : (e : ObjectEntry) → All (Compatible e) es → Inside x e → is_branch e.field.kind ≡ true → out_of_range es s x e ≡ false → Kept e
  unfolding out_of_range
  kept e c i b h =
      let k : e.field.kind ≡ Branch = is-branch e.field.kind b in
      let off : ℕ = e.field.offset in
      let d = compatible-branch e (branch_at off) (field-branch e.field k) es c in
      let w = word_after off es s x d (inside-branch e k i) in
      let r : in_range (branch_sum es s x off) ≡ true = not-false _ (rw b at h) in
      record {
        exact = value-exact (field_at 4 off x) (field_at 4 off (apply_all es s x)) (amounts_on off es s) w (rw branch-sum at r) ∙ sym branch-sum;
        bottom = bottom-kept (field_at 4 off x) (field_at 4 off (apply_all es s x)) (amounts_on off es s) w (rw branch-sum at r);
        high = high_after off es s x d (inside-branch e k i);
      }
    where
      branch-sum : branch_sum es s x e.field.offset ≡ branch_value (field_at 4 e.field.offset x) +ℤ amounts_on e.field.offset es s
      branch-sum = unfold branch_sum in refl

  -- so are all that RANGE accepts
  pub all-kept : (ds : List ObjectEntry) → All (λ e. All (Compatible e) es) ds → All (Inside x) ds
      → range_from es s x ds ≡ Ok tt → All (λ e. is_branch e.field.kind ≡ true → Kept e) ds
  unfolding range_from
  all-kept [] c n h = tt
  all-kept (e ∷ ds) c n h = (
    λ b. kept e c.0 n.0 b (accepted-test (out_of_range es s x e) (refusal.Range e.name) (accepted-first _ _ h)),
    all-kept ds c.1 n.1 (accepted-rest (refuse_if (out_of_range es s x e) (refusal.Range e.name)) _ h),
  )

  -- the sum by t of a branch word that was kept is the sum by s + t of the word before
  sum-after : (t : Shifts) (e : ObjectEntry) → Kept e → branch_sum es t (apply_all es s x) e.field.offset ≡ branch_sum es (sum s t) x e.field.offset
  unfolding branch_sum
  sum-after t e k =
      let off : ℕ = e.field.offset in
      ap (λ (z : ℤ). z +ℤ amounts_on off es t) k.exact
      ∙ +ℤ_assoc (branch_value (field_at 4 off x)) (amounts_on off es s) (amounts_on off es t)
      ∙ ap (λ (z : ℤ). branch_value (field_at 4 off x) +ℤ z) (amounts-add off es s t)

  -- so they are judged alike
  test-after : (t : Shifts) (e : ObjectEntry) → (is_branch e.field.kind ≡ true → Kept e) → out_of_range es t (apply_all es s x) e ≡ out_of_range es (sum s t) x e
  unfolding out_of_range
  test-after t e k = by_kind (is_branch e.field.kind) refl
    where
      by_kind : (b : Bool) → is_branch e.field.kind ≡ b
          → (b && not (in_range (branch_sum es t (apply_all es s x) e.field.offset))) ≡ (b && not (in_range (branch_sum es (sum s t) x e.field.offset)))
      by_kind true q = ap (λ (z : ℤ). not (in_range z)) (sum-after t e (k q))
      by_kind false q = refl

  -- RANGE by t of what s left is RANGE by s + t of what was there
  pub range-after : (t : Shifts) (ds : List ObjectEntry) → All (λ e. is_branch e.field.kind ≡ true → Kept e) ds
      → range_from es t (apply_all es s x) ds ≡ range_from es (sum s t) x ds
  unfolding range_from
  range-after t [] k = refl
  range-after t (e ∷ ds) k =
      ap₂ (λ (b : Bool) (v : Verdict). refuse_if b (refusal.Range e.name) or_else v) (test-after t e k.0) (range-after t ds k.1)

-- ---- shifts of 0

-- shifts of 0 add nothing
amounts-zero : (off : ℕ) (es : List ObjectEntry) → amounts_on off es unshifted ≡ pos 0
unfolding amounts_on
amounts-zero off [] = refl
amounts-zero off (e ∷ es) =
    ap₂ (λ (a b : ℤ). a +ℤ b) (by-test (is_on off e)) (amounts-zero off es)
  where
    by-test : (b : Bool) → cond b (amount_of e unshifted) (pos 0) ≡ pos 0
    by-test true = amount-zero e.amount
    by-test false = refl

-- so RANGE accepts shifts of 0 of any bytes
pub range-zero : (es : List ObjectEntry) (x : List ℕ) (ds : List ObjectEntry) → range_from es unshifted x ds ≡ Ok tt
unfolding range_from out_of_range branch_sum
range-zero es x [] = refl
range-zero es x (e ∷ ds) =
    let off : ℕ = e.field.offset in
    let v : ℤ = branch_value (field_at 4 off x) in
    let r : in_range (v +ℤ amounts_on off es unshifted) ≡ true =
    ap in_range (ap (λ (z : ℤ). v +ℤ z) (amounts-zero off es) ∙ +ℤ_idr v) ∙ value-in-range (field_at 4 off x) in
    by-test (is_branch e.field.kind) r (range-zero es x ds)
  where
    by-test : (b : Bool) {t : Bool} → t ≡ true → {w : Verdict} → w ≡ Ok tt → (refuse_if (b && not t) (refusal.Range e.name) or_else w) ≡ Ok tt
    by-test true q h = rw (q, h) refl
    by-test false q h = h
