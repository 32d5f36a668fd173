-- Which form a sheet has, and what is read and refused in each. Assumes nothing.
use mathlib.Core.Path.{◌≡◌, refl}
use mathlib.Core.Bool.{Bool, true, false, cond}
use mathlib.Core.Logic.{◌⊎◌, inl, inr}
use mathlib.Core.List.{List}
use Prim.Native.Nat.{ℕ, ◌+◌, ◌*◌, ◌≤◌, ◌<◌}
use native.Mathlib.Omega.{arith}
use borrow.Author.Tests.{le-ltb, lt-ltb, eq-eqb, ne_eqb}
use lib.Dec.{ltb}
use lib.ListN.{length}
use Rattle.word.specs.Number.{field_at}
use Rattle.word.proofs.Number.{field-split}
use Rattle.refusal.specs.declared.Refusal.{Refusal}
use Rattle.refusal.specs.declared.Refusal.TheVariants as refusal
use Rattle.refusal.specs.declared.LimitItem.TheVariants.{SheetList}
use Rattle.refusal.specs.declared.RoomItem.TheVariants.{AddressList}
use Rattle.sheet.specs.Sheet.{list_limit, form_by, form_of, head_length, sheet_length, first_count, head_of, addresses_of, sheet_check, read_check, head_in, read_in, list_in, head_answer, read_answer, read_list}
use Rattle.sheet.proofs.Answers.{first_two, whole_length}
use Rattle.sheet.specs.declared.SheetForm.{SheetForm}
use Rattle.sheet.specs.declared.SheetForm.TheVariants.{Old, New}
use Rattle.std.specs.Prelude.{Err, None, Ok, Option, Some}

-- ---- the numbers of each form

-- an old sheet of k addresses has 20 + 8k bytes and at most 4,096 of them, a new one 24 + 8k and at most 70,000
pub old-numbers : (k : ℕ) → (head_length Old ≡ 20) × (sheet_length Old k ≡ 20 + 8 * k) × (list_limit Old ≡ 4096)
old-numbers k = (refl, omega arith, refl)

pub new-numbers : (k : ℕ) → (head_length New ≡ 24) × (sheet_length New k ≡ 24 + 8 * k) × (list_limit New ≡ 70000)
new-numbers k = (refl, omega arith, refl)

-- ---- the form by the first two bytes

-- 0002 begins an old sheet, 0000 a new one, and nothing else has a form
pub old-form : (s : List ℕ) → 2 ≤ length s → field_at 2 0 s ≡ 2 → form_of s ≡ Some Old
unfolding form_of form_by
old-form s n e = rw (le-ltb (length s) 2 n, e) refl

pub new-form : (s : List ℕ) → 2 ≤ length s → field_at 2 0 s ≡ 0 → form_of s ≡ Some New
unfolding form_of form_by
new-form s n e = rw (le-ltb (length s) 2 n, e) refl

pub no-form : (s : List ℕ) → (length s < 2) ⊎ ((field_at 2 0 s ≡ 2 → ⊥) × (field_at 2 0 s ≡ 0 → ⊥)) → form_of s ≡ None
unfolding form_of
no-form s (inl n) = rw (lt-ltb (length s) 2 n) refl
no-form s (inr e) = either (ltb (length s) 2) (form_by (field_at 2 0 s)) (unfold form_by in (rw (ne_eqb (field_at 2 0 s) 2 e.0, ne_eqb (field_at 2 0 s) 0 e.1) refl))
  where
    either : (b : Bool) (x : Option SheetForm) → x ≡ None → cond b None x ≡ None
    either true x e = refl
    either false x e = e

-- a sheet that is well-formed in a form begins as that form does: none is well-formed in both
pub one_form : (f : SheetForm) (s : List ℕ) → sheet_check f s ≡ Ok tt → form_of s ≡ Some f
one_form Old s e = old-form s (omega (arith, whole_length Old s e)) (first_two Old s e)
one_form New s e =
    let long = whole_length New s e in
    let halves : field_at 4 0 s ≡ field_at 2 0 s * 65536 + field_at 2 2 s = field-split 2 2 0 s (omega arith) in
    new-form s (omega arith) (omega (arith, first_two New s e))

-- ---- what is read and what is refused

-- the head is refused, and reading too, whatever list is lent: it is as it was
abbrev pub BothRefuse : List ℕ → Refusal → Type 0
BothRefuse s x =
    (head_answer s ≡ Err x) × ((list : List ℕ) → (read_answer s (length list) ≡ Err x) × (read_list s list ≡ list))

-- SHEET: the sheet has no form
pub no-form-refused : (s : List ℕ) → form_of s ≡ None → BothRefuse s refusal.Sheet
unfolding head_answer read_answer read_list
no-form-refused s k = (rw k refl, λ list. (rw k refl, rw k refl))

module _ (f : SheetForm) (s : List ℕ) (k : form_of s ≡ Some f) where
  both-refuse : (x : Refusal) → sheet_check f s ≡ Err x → BothRefuse s x
  unfolding head_answer head_in read_answer read_in read_list list_in read_check
  both-refuse x e = (rw (k, e) refl, λ list. (rw (k, e) refl, rw (k, e) refl))

  -- SHEET: it is too short for its form
  pub short-refused : length s < head_length f → BothRefuse s refusal.Sheet
  unfolding sheet_check
  short-refused n = both-refuse refusal.Sheet (rw (lt-ltb (length s) (head_length f) n) refl)

  module _ (n : head_length f ≤ length s) where
    -- SHEET: its first count is not 2
    pub count-refused : (first_count f s ≡ 2 → ⊥) → BothRefuse s refusal.Sheet
    unfolding sheet_check
    count-refused e = both-refuse refusal.Sheet (rw (le-ltb (length s) (head_length f) n, ne_eqb (first_count f s) 2 e) refl)

    module _ (e : first_count f s ≡ 2) where
      -- LIMIT 2: its list is above the form's limit, whatever the sheet's length
      pub limit-refused : list_limit f < (head_of f s).count → BothRefuse s (refusal.Limit SheetList)
      unfolding sheet_check
      limit-refused m = both-refuse (refusal.Limit SheetList) (rw (le-ltb (length s) (head_length f) n, e, lt-ltb (list_limit f) (head_of f s).count m) refl)

      module _ (m : (head_of f s).count ≤ list_limit f) where
        -- SHEET: it has another length than its count asks for
        pub length-refused : (length s ≡ sheet_length f (head_of f s).count → ⊥) → BothRefuse s refusal.Sheet
        unfolding sheet_check
        length-refused d = both-refuse refusal.Sheet (rw (le-ltb (length s) (head_length f) n, e, le-ltb (list_limit f) (head_of f s).count m, ne_eqb (length s) (sheet_length f (head_of f s).count) d) refl)

        module _ (w : length s ≡ sheet_length f (head_of f s).count) where
          -- every other sheet is well-formed, and says its head
          pub accepted : sheet_check f s ≡ Ok tt
          unfolding sheet_check
          accepted = rw (le-ltb (length s) (head_length f) n, e, le-ltb (list_limit f) (head_of f s).count m, eq-eqb (length s) (sheet_length f (head_of f s).count) w) refl

          pub head-said : head_answer s ≡ Ok (head_of f s)
          unfolding head_answer head_in
          head-said = rw (k, accepted) refl

          -- it is read into a list of its count's places, and into no other: ROOM 2, and the list is as it was
          pub read_whole : (list : List ℕ) → length list ≡ (head_of f s).count → (read_answer s (length list) ≡ Ok (head_of f s)) × (read_list s list ≡ addresses_of f s)
          unfolding read_answer read_in read_list list_in read_check
          read_whole list q = (rw (k, accepted, eq-eqb (length list) (head_of f s).count q) refl, rw (k, accepted, eq-eqb (length list) (head_of f s).count q) refl)

          pub room-refused : (list : List ℕ) → (length list ≡ (head_of f s).count → ⊥) → (read_answer s (length list) ≡ Err (refusal.Room AddressList)) × (read_list s list ≡ list)
          unfolding read_answer read_in read_list list_in read_check
          room-refused list q = (rw (k, accepted, ne_eqb (length list) (head_of f s).count q) refl, rw (k, accepted, ne_eqb (length list) (head_of f s).count q) refl)
