-- The plan sheet, once over its form: an old one has its two counts in 2 bytes, a new one in 4.
use Rattle.std.specs.Prelude.{ℕ, zero, suc, ◌+◌, ◌*◌, not, cond, List, [], ◌∷◌, ◌++◌, eqb, ltb, length, take, drop, Err, None, Ok, Option, Result, Some}
use Rattle.word.specs.Number.{field_at}
use Rattle.update.specs.Update.{bytes_of_number}
use Rattle.refusal.specs.declared.LimitItem.TheVariants.{SheetList}
use Rattle.refusal.specs.declared.Refusal.TheVariants as refusal
use Rattle.refusal.specs.declared.RoomItem.TheVariants.{SheetBuffer, AddressList}
use Rattle.refusal.specs.Order.{◌or_else◌, refuse_if, by_verdict, if_accepted}
use Rattle.refusal.specs.declared.Head.{Head}
use Rattle.refusal.specs.Refusal.{accepted_head, refused_head}
use Rattle.sheet.specs.declared.SheetForm.{SheetForm}
use Rattle.sheet.specs.declared.SheetForm.TheVariants.{Old, New}
use Rattle.sheet.specs.declared.SheetHead.{SheetHead}
use Rattle.sheet.specs.declared.SheetReport.{SheetReport}
use Rattle.format.specs.Limit.{old_sheet_list_limit, sheet_list_limit}
use Rattle.refusal.specs.declared.Refusal.{Refusal}
use Rattle.refusal.specs.Verdict.{Verdict}

-- ---- the two forms

-- the bytes of each of the two counts
abbrev pub count_width : SheetForm → ℕ
count_width Old = 2
count_width New = 4

-- the most addresses that the list has
abbrev pub list_limit : SheetForm → ℕ
list_limit Old = old_sheet_list_limit
list_limit New = sheet_list_limit

-- an old sheet begins 0002, a new one 0000
unfoldable pub form_by : ℕ → Option SheetForm
form_by v = cond (eqb v 2) (Some Old) (cond (eqb v 0) (Some New) None)

unfoldable pub form_of : List ℕ → Option SheetForm
form_of s = cond (ltb (length s) 2) None (form_by (field_at 2 0 s))

-- what a sheet's form gives, or what is given where it has none
abbrev pub by_form : {A : Type 0} → Option SheetForm → (SheetForm → A) → A → A
by_form (Some f) g a = g f
by_form None g a = a

-- ---- the parts of a sheet

-- the bytes before the list
abbrev pub head_length : SheetForm → ℕ
head_length f = count_width f + 8 + 8 + count_width f

abbrev pub sheet_length : SheetForm → ℕ → ℕ
sheet_length f k = head_length f + k * 8

-- count 2, the text and data addresses, count k
abbrev pub first_count : SheetForm → List ℕ → ℕ
first_count f s = field_at (count_width f) 0 s

abbrev pub head_by : ℕ → ℕ → ℕ → SheetHead
head_by text dat k = record { text = record { 0 = text }; «data» = record { 0 = dat }; count = k }

unfoldable pub head_of : SheetForm → List ℕ → SheetHead
head_of f s =
    let w = count_width f in
    head_by (field_at 8 w s) (field_at 8 (w + 8) s) (field_at w (w + 8 + 8) s)

-- n numbers of 8 bytes from off
unfoldable pub numbers_from : List ℕ → ℕ → ℕ → List ℕ
numbers_from s off zero = []
numbers_from s off (suc n) = field_at 8 off s ∷ numbers_from s (off + 8) n

-- the k addresses
unfoldable pub addresses_of : SheetForm → List ℕ → List ℕ
addresses_of f s = numbers_from s (head_length f) (head_of f s).count

-- the bytes of a list's addresses
unfoldable pub address_bytes : List ℕ → List ℕ
address_bytes [] = []
address_bytes (a ∷ rest) = bytes_of_number 8 a ++ address_bytes rest

-- the sheet of a plan
unfoldable pub sheet_bytes : SheetForm → ℕ → ℕ → List ℕ → List ℕ
sheet_bytes f text dat list =
    let w = count_width f in
    bytes_of_number w 2 ++ (bytes_of_number 8 text ++ (bytes_of_number 8 dat ++ (bytes_of_number w (length list) ++ address_bytes list)))

-- ---- reading: a sheet of either form

-- SHEET, LIMIT 2, SHEET
unfoldable pub sheet_check : SheetForm → List ℕ → Verdict
sheet_check f s =
    refuse_if (ltb (length s) (head_length f)) refusal.Sheet
    or_else refuse_if (not (eqb (first_count f s) 2)) refusal.Sheet
    or_else refuse_if (ltb (list_limit f) (head_of f s).count) (refusal.Limit SheetList)
    or_else refuse_if (not (eqb (length s) (sheet_length f (head_of f s).count))) refusal.Sheet

-- ROOM 2: the lent list has exactly k places
abbrev pub room_check : ℕ → SheetHead → Verdict
room_check places h = refuse_if (not (eqb places h.count)) (refusal.Room AddressList)

unfoldable pub read_check : SheetForm → List ℕ → ℕ → Verdict
read_check f s places = sheet_check f s or_else room_check places (head_of f s)

-- what a sheet of the form f says of itself, and what reading it answers and leaves in the lent list
unfoldable pub head_in : List ℕ → SheetForm → Result SheetHead Refusal
head_in s f = by_verdict (sheet_check f s) (Ok (head_of f s)) Err

unfoldable pub read_in : List ℕ → ℕ → SheetForm → Result SheetHead Refusal
read_in s places f = by_verdict (read_check f s places) (Ok (head_of f s)) Err

unfoldable pub list_in : List ℕ → List ℕ → SheetForm → List ℕ
list_in s list f = if_accepted (read_check f s (length list)) (addresses_of f s) list

-- what a sheet says of itself: its addresses and how many places its list needs; SHEET where it has no form
unfoldable pub head_answer : List ℕ → Result SheetHead Refusal
head_answer s = by_form (form_of s) (head_in s) (Err refusal.Sheet)

-- what reading answers
unfoldable pub read_answer : List ℕ → ℕ → Result SheetHead Refusal
read_answer s places = by_form (form_of s) (read_in s places) (Err refusal.Sheet)

-- what reading leaves in the lent list
unfoldable pub read_list : List ℕ → List ℕ → List ℕ
read_list s list = by_form (form_of s) (list_in s list) list

-- ---- writing: always a new sheet

-- LIMIT 2, ROOM 0
unfoldable pub write_check : ℕ → ℕ → Verdict
write_check k room =
    refuse_if (ltb (list_limit New) k) (refusal.Limit SheetList) or_else refuse_if (not (eqb room (sheet_length New k))) (refusal.Room SheetBuffer)

-- what writing leaves in the lent sheet
unfoldable pub write_sheet : ℕ → ℕ → List ℕ → List ℕ → List ℕ
write_sheet text dat list sheet = if_accepted (write_check (length list) (length sheet)) (sheet_bytes New text dat list) sheet

-- the new form of an old sheet: two zero bytes more before each of its counts
unfoldable pub new_form : List ℕ → List ℕ
new_form s = 0 ∷ 0 ∷ (take 18 s ++ (0 ∷ 0 ∷ drop 18 s))

-- what reports on sheets start with: there is no file, and the offset is 0
abbrev pub sheet_head : Verdict → Head
sheet_head (Ok tt) = accepted_head
sheet_head (Err x) = refused_head x 0

-- the answer in document 01's numbers
abbrev pub report_of_sheet : Result SheetHead Refusal → SheetReport
report_of_sheet (Ok h) = record { head = accepted_head; text = h.text.0; «data» = h.«data».0; count = h.count }
report_of_sheet (Err x) = record { head = refused_head x 0; text = 0; «data» = 0; count = 0 }
