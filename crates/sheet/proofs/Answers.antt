-- What an accepted sheet has, and the answers by the checks that were made. Assumes nothing.
use mathlib.Core.Path.{◌≡◌, refl, sym, ◌∙◌, ap}
use mathlib.Core.Bool.{true, false, not}
use mathlib.Core.List.{List}
use Prim.Native.Nat.{ℕ, ◌≤◌}
use native.Mathlib.Omega.{arith}
use lib.Dec.{eqb, ltb}
use lib.ListN.{length}
use lib.Seq.{sets}
use Rattle.update.specs.Update.{put_field}
use Rattle.refusal.specs.declared.LimitItem.TheVariants.{SheetList}
use Rattle.refusal.specs.declared.Refusal.{Refusal}
use Rattle.refusal.specs.declared.Refusal.TheVariants as refusal
use Rattle.refusal.specs.declared.RoomItem.TheVariants.{SheetBuffer}
use Rattle.refusal.specs.Order.{◌or_else◌, refuse_if, by_verdict, if_accepted}
use Rattle.refusal.specs.Refusal.{is_refused}
use Rattle.refusal.proofs.Order.{accepts, accepted-first, accepted-rest, accepted-equal, accepted-most}
use Rattle.sheet.specs.declared.SheetHead.{SheetHead}
use Rattle.sheet.specs.declared.SheetForm.{SheetForm}
use Rattle.sheet.specs.declared.SheetForm.TheVariants.{Old, New}
use Rattle.sheet.specs.Sheet.{list_limit, by_form, head_length, sheet_length, first_count, head_of, numbers_from, addresses_of, address_bytes, sheet_check, room_check, read_check, head_in, read_in, list_in, form_of, read_answer, read_list, sheet_bytes, write_check, write_sheet, sheet_head, report_of_sheet}
use Rattle.sheet.proofs.Addresses.{sheet-written}
use Rattle.std.specs.Prelude.{Err, None, Ok, Option, Result, Some}
use Rattle.refusal.specs.Verdict.{Verdict}

-- ---- the numbers of both forms

-- a head is short, and a list that passes no limit too
pub few_bytes : (f : SheetForm) → (head_length f ≤ 24) × (list_limit f ≤ 70000)
few_bytes Old = (omega arith, omega arith)
few_bytes New = (omega arith, omega arith)

-- ---- what an accepted sheet has

module _ (f : SheetForm) (s : List ℕ) (e : sheet_check f s ≡ Ok tt) where
  -- what is left to accept after the head's length, and after the first count
  after-length : (refuse_if (not (eqb (first_count f s) 2)) refusal.Sheet or_else refuse_if (ltb (list_limit f) (head_of f s).count) (refusal.Limit SheetList) or_else refuse_if (not (eqb (length s) (sheet_length f (head_of f s).count))) refusal.Sheet) ≡ Ok tt
  unfolding sheet_check
  after-length = accepted-rest (refuse_if (ltb (length s) (head_length f)) refusal.Sheet) _ e

  after_first : (refuse_if (ltb (list_limit f) (head_of f s).count) (refusal.Limit SheetList) or_else refuse_if (not (eqb (length s) (sheet_length f (head_of f s).count))) refusal.Sheet) ≡ Ok tt
  after_first = accepted-rest (refuse_if (not (eqb (first_count f s) 2)) refusal.Sheet) _ after-length

  -- its first count is 2
  pub first_two : first_count f s ≡ 2
  first_two = accepted-equal (first_count f s) 2 refusal.Sheet (accepted-first (refuse_if (not (eqb (first_count f s) 2)) refusal.Sheet) _ after-length)

  -- its list passes no limit
  pub few-addresses : (head_of f s).count ≤ list_limit f
  few-addresses =
      accepted-most (list_limit f) (head_of f s).count (refusal.Limit SheetList)
      (accepted-first (refuse_if (ltb (list_limit f) (head_of f s).count) (refusal.Limit SheetList)) _ after_first)

  -- it has its head and its addresses, and nothing after them
  pub whole_length : length s ≡ sheet_length f (head_of f s).count
  whole_length =
      accepted-equal (length s) (sheet_length f (head_of f s).count) refusal.Sheet
      (accepted-rest (refuse_if (ltb (list_limit f) (head_of f s).count) (refusal.Limit SheetList)) _ after_first)

-- ---- the answers

-- what is given by a form that was found, and where none was
pub by-known : {A : Type 0} {a b : Option SheetForm} {f : SheetForm} (g : SheetForm → A) (z : A) → a ≡ b → a ≡ Some f → g f ≡ by_form b g z
by-known g z e k = rw (← e, k) refl

pub by-none : {A : Type 0} {a b : Option SheetForm} (g : SheetForm → A) (z : A) → a ≡ b → a ≡ None → z ≡ by_form b g z
by-none g z e k = rw (← e, k) refl

-- what reading ensures of its answer r and the list l' that it leaves: of a sheet of the form f, and of any
abbrev pub ReadsIn : SheetForm → List ℕ → List ℕ → Result SheetHead Refusal → List ℕ → Type 0
ReadsIn f s l r l' = (r ≡ read_in s (length l) f) × (l' ≡ list_in s l f)

abbrev pub Reads : List ℕ → List ℕ → Result SheetHead Refusal → List ℕ → Type 0
Reads s l r l' =
    (r ≡ read_answer s (length l)) × ((report_of_sheet r ≡ report_of_sheet (read_answer s (length l))) × (l' ≡ read_list s l))

-- what writing ensures of its verdict and the sheet that it leaves
abbrev pub Writes : ℕ → ℕ → List ℕ → List ℕ → Verdict → List ℕ → Type 0
Writes text dat list sheet v sheet' =
    (v ≡ write_check (length list) (length sheet))
    × ((sheet_head v ≡ sheet_head (write_check (length list) (length sheet))) × (sheet' ≡ write_sheet text dat list sheet))

-- the answers by the check of the sheet
module _ (f : SheetForm) (s : List ℕ) {v : Verdict} (e : v ≡ sheet_check f s) where
  -- a well-formed sheet has its head found, and a malformed one is refused
  pub head-found : {h : SheetHead} → v ≡ Ok tt → h ≡ head_of f s → Ok h ≡ head_in s f
  unfolding head_in
  head-found k q = rw (← e, k, q) refl

  pub head-refused : {x : Refusal} → v ≡ Err x → Err x ≡ head_in s f
  unfolding head_in
  head-refused k = rw (← e, k) refl

  -- a well-formed sheet is read by the places of the list
  pub read_by : {h : SheetHead} {r : Result SheetHead Refusal} (l l' : List ℕ) → v ≡ Ok tt → h ≡ head_of f s → r ≡ by_verdict (room_check (length l) h) (Ok h) Err → l' ≡ if_accepted (room_check (length l) h) (numbers_from s (head_length f) h.count) l → ReadsIn f s l r l'
  unfolding read_in list_in read_check addresses_of
  read_by l l' k q a b = (rw (← e, k, ← q) a, rw (← e, k, ← q) b)

  -- a malformed one is not, and the list is as it was
  pub read-refused : {x : Refusal} (l : List ℕ) → v ≡ Err x → ReadsIn f s l (Err x) l
  unfolding read_in list_in read_check
  read-refused l k = (rw (← e, k) refl, rw (← e, k) refl)

-- reading by the form that was found
module _ (s l : List ℕ) {a : Option SheetForm} (e : a ≡ form_of s) where
  pub read_known : {f : SheetForm} {r : Result SheetHead Refusal} {l' : List ℕ} → a ≡ Some f → ReadsIn f s l r l' → Reads s l r l'
  unfolding read_answer read_list
  read_known k q =
      let c = q.0 ∙ by-known (read_in s (length l)) (Err refusal.Sheet) e k in (c, (ap report_of_sheet c, q.1 ∙ by-known (list_in s l) l e k))

  pub read_none : a ≡ None → Reads s l (Err refusal.Sheet) l
  unfolding read_answer read_list
  read_none k = let c = by-none (read_in s (length l)) (Err refusal.Sheet) e k in (c, (ap report_of_sheet c, by-none (list_in s l) l e k))

-- a writing that is accepted: the list passes no limit, and the sheet has exactly the room
pub room-enough : (list sheet : List ℕ) {v : Verdict} → v ≡ write_check (length list) (length sheet) → is_refused v ≡ false → (length list ≤ list_limit New) × (length sheet ≡ sheet_length New (length list))
unfolding write_check
room-enough list sheet {v} e k =
    let c = sym e ∙ accepts v k in (
      accepted-most (list_limit New) (length list) (refusal.Limit SheetList) (accepted-first (refuse_if (ltb (list_limit New) (length list)) (refusal.Limit SheetList)) _ c),
      accepted-equal (length sheet) (sheet_length New (length list)) (refusal.Room SheetBuffer) (accepted-rest (refuse_if (ltb (list_limit New) (length list)) (refusal.Limit SheetList)) _ c),
    )

-- the answers by the check of a writing
module _ (text dat : ℕ) (list sheet : List ℕ) {v : Verdict} (e : v ≡ write_check (length list) (length sheet)) where
  -- it accepts, and the head and the addresses that are written are the whole sheet
  pub written : {middle sheet' : List ℕ} → is_refused v ≡ false → middle ≡ put_field 4 20 (length list) (put_field 8 12 dat (put_field 8 4 text (put_field 4 0 2 sheet))) → sheet' ≡ sets middle (head_length New) (address_bytes list) → Writes text dat list sheet (Ok tt) sheet'
  unfolding write_sheet
  written k p q =
      let c = sym (accepts v k) ∙ e in
      (c, (ap sheet_head c, rw (← c) (q ∙ rw p (sheet-written New text dat list sheet (room-enough list sheet e k).1))))

  -- it refuses, and the sheet is as it was
  pub unwritten : is_refused v ≡ true → Writes text dat list sheet v sheet
  unfolding write_sheet
  unwritten k = (e, (ap sheet_head e, rw (← e) (as_before v k)))
    where
      as_before : (u : Verdict) → is_refused u ≡ true → sheet ≡ if_accepted u (sheet_bytes New text dat list) sheet
      as_before (Ok tt) r = cc
      as_before (Err x) r = refl
