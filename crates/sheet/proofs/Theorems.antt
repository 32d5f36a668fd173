-- The two forms of a sheet: what is written reads back, what is read writes back, and an old sheet becomes a new one. Facts are over the form, so over the counts' width. Assumes nothing.
use mathlib.Core.Path.{◌≡◌, refl, sym, ◌∙◌, ap}
use mathlib.Core.List.{List, ◌∷◌, ◌++◌, append_assoc}
use Prim.Native.Nat.{ℕ, ◌+◌, ◌/◌, ◌%◌, ◌^◌, ◌≤◌, ◌<◌}
use native.Mathlib.Nat.{zero-add}
use native.Mathlib.Omega.{arith}
use borrow.Author.Tests.{le-ltb, eq-eqb}
use lib.ListN.{length, get_or, drop, length-append}
use lib.Seq.{take_at, drop_at}
use Rattle.word.specs.Number.{value_of, field_at}
use Rattle.update.specs.Update.{bytes_of_number, Bytes}
use Rattle.update.proofs.Laws.{length-bytes}
use Rattle.sheet.specs.Sheet.{count_width, list_limit, form_by, form_of, head_length, sheet_length, first_count, head_of, numbers_from, addresses_of, sheet_check, read_check, read_in, list_in, address_bytes, sheet_bytes, write_check, head_by, read_answer, read_list, write_sheet, new_form}
use Rattle.sheet.proofs.Addresses.{length-numbers, length-sheet, field-first, field-later, numbers-later, numbers-addresses, bytes-then, addresses-numbers}
use Rattle.sheet.proofs.Answers.{few_bytes, first_two, few-addresses, whole_length, room-enough}
use Rattle.sheet.specs.declared.SheetForm.{SheetForm}
use Rattle.sheet.specs.declared.SheetForm.TheVariants.{Old, New}
use Rattle.sheet.specs.declared.SheetHead.{SheetHead}
use Rattle.refusal.specs.Order.{by_verdict}
use Rattle.refusal.specs.Refusal.{is_refused}
use Rattle.refusal.proofs.Order.{accepted-first}
use Rattle.std.specs.Prelude.{Err, Ok, Some}
use Rattle.refusal.specs.Verdict.{Verdict}

-- the count has room for every list that passes no limit
wide : (f : SheetForm) → list_limit f < 256 ^ count_width f
wide Old = omega arith
wide New = omega arith

-- ---- writing, then reading

-- the sheet of a plan begins as its form does
written-form : (f : SheetForm) (text dat : ℕ) (list : List ℕ) → form_of (sheet_bytes f text dat list) ≡ Some f
unfolding form_of
written-form f text dat list = rw (length-sheet f text dat list, le-ltb (sheet_length f (length list)) 2 (long f)) (begins f)
  where
    long : (g : SheetForm) → 2 ≤ sheet_length g (length list)
    long Old = omega arith
    long New = omega arith

    begins : (g : SheetForm) → form_by (field_at 2 0 (sheet_bytes g text dat list)) ≡ Some g
    begins Old = unfold form_by sheet_bytes bytes_of_number field_at value_of in refl
    begins New = unfold form_by sheet_bytes bytes_of_number field_at value_of in refl

module _ (f : SheetForm) (text dat : ℕ) (list : List ℕ) (t : text < 2 ^ 64) (d : dat < 2 ^ 64) (n : length list ≤ list_limit f) where
  -- the first count of the sheet that was written is 2
  written-first : first_count f (sheet_bytes f text dat list) ≡ 2
  unfolding sheet_bytes
  written-first = field-first (count_width f) 2 _ (small f)
    where
      small : (g : SheetForm) → 2 < 256 ^ count_width g
      small Old = omega arith
      small New = omega arith

  -- its head has the plan's text and data addresses, and the count of the list
  written-head : head_of f (sheet_bytes f text dat list) ≡ head_by text dat (length list)
  unfolding head_of sheet_bytes
  written-head =
      let w : ℕ = count_width f in
      let from_count : List ℕ = bytes_of_number w (length list) ++ address_bytes list in
      let from_data : List ℕ = bytes_of_number 8 dat ++ from_count in
      let from_text : List ℕ = bytes_of_number 8 text ++ from_data in
      let s : List ℕ = bytes_of_number w 2 ++ from_text in
      let at_text : field_at 8 w s ≡ text = field-later w 2 8 w 0 from_text (omega arith) ∙ field-first 8 text from_data (omega arith) in
      let at_data : field_at 8 (w + 8) s ≡ dat =
      field-later w 2 8 (w + 8) 8 from_text refl ∙ field-later 8 text 8 8 0 from_data refl ∙ field-first 8 dat from_count (omega arith) in
      let at_count : field_at w (w + 8 + 8) s ≡ length list =
      field-later w 2 w (w + 8 + 8) 16 from_text (omega arith) ∙ field-later 8 text w 16 8 from_data refl ∙ field-later 8 dat w 8 0 from_count refl
      ∙ field-first w (length list) (address_bytes list) (omega (arith, wide f)) in
      rw (at_text, at_data, at_count) refl

  -- its addresses are the list
  written-addresses : ((k : ℕ) → get_or list k 0 < 2 ^ 64) → addresses_of f (sheet_bytes f text dat list) ≡ list
  unfolding addresses_of
  written-addresses h = rw written-head (after-head ∙ numbers-addresses list h)
    where
      after-head : numbers_from (sheet_bytes f text dat list) (head_length f) (length list) ≡ numbers_from (address_bytes list) 0 (length list)
      after-head = unfold sheet_bytes in
          (let w : ℕ = count_width f in
          numbers-later w 2 (length list) (head_length f) (8 + (8 + w)) _ (omega arith)
          ∙ numbers-later 8 text (length list) (8 + (8 + w)) (8 + w) _ refl
          ∙ numbers-later 8 dat (length list) (8 + w) w _ refl
          ∙ numbers-later w (length list) (length list) w 0 (address_bytes list) (omega arith))

  -- reading accepts it
  written-accepted : read_check f (sheet_bytes f text dat list) (length list) ≡ Ok tt
  unfolding read_check sheet_check
  written-accepted =
      let k : ℕ = length list in
      rw (written-first, written-head, length-sheet f text dat list, le-ltb (sheet_length f k) (head_length f) (omega arith), le-ltb (list_limit f) k n, eq-eqb (sheet_length f k) (sheet_length f k) refl, eq-eqb k k refl) refl

-- "A plan sheet that was written reads back as the same plan": a sheet that writing left in any buffer is accepted by reading, which gives the text and data addresses, and
-- leaves in any list of that many places every address of the list.
pub written-reads-back : (text dat : ℕ) (list sheet list' : List ℕ) → text < 2 ^ 64 → dat < 2 ^ 64 → ((k : ℕ) → get_or list k 0 < 2 ^ 64)
    → write_check (length list) (length sheet) ≡ Ok tt → length list' ≡ length list
    → (read_answer (write_sheet text dat list sheet) (length list') ≡ Ok (head_by text dat (length list))) × (read_list (write_sheet text dat list sheet) list' ≡ list)
unfolding write_sheet read_answer read_list read_in list_in
written-reads-back text dat list sheet list' t d h e n =
    let few : length list ≤ list_limit New = (room-enough list sheet refl (ap is_refused e)).0 in
    (rw (e, written-form New text dat list, n, written-accepted New text dat list t d few, written-head New text dat list t d few) refl, rw (e, written-form New text dat list, n, written-accepted New text dat list t d few) (written-addresses New text dat list t d few h))

-- ---- reading, then writing

module _ (f : SheetForm) (s : List ℕ) (b : Bytes s) (e : sheet_check f s ≡ Ok tt) where
  -- the sheet that was read has as many addresses as its count says
  length-list : length (addresses_of f s) ≡ (head_of f s).count
  unfolding addresses_of
  length-list = length-numbers s (head_length f) (head_of f s).count

  -- the sheet of what was read, in its own form, has its bytes
  read-bytes : sheet_bytes f (head_of f s).text.0 (head_of f s).«data».0 (addresses_of f s) ≡ s
  unfolding sheet_bytes head_of addresses_of
  read-bytes =
      let w : ℕ = count_width f in
      let whole = whole_length f s e in
      let list : List ℕ = addresses_of f s in
      let last : List ℕ = address_bytes list in
      let from_count : List ℕ = bytes_of_number w (length list) ++ last in
      let from_data : List ℕ = bytes_of_number 8 (field_at 8 (w + 8) s) ++ from_count in
      let from_text : List ℕ = bytes_of_number 8 (field_at 8 w s) ++ from_data in
      let at_count : from_count ≡ drop (w + 8 + 8) s =
      ap (λ (k : ℕ). bytes_of_number w k ++ last) length-list
      ∙ bytes-then w (w + 8 + 8) s last b (omega arith) (addresses-numbers s (head_length f) (head_of f s).count b (sym whole)) in
      let at_text : from_text ≡ drop w s = bytes-then 8 w s from_data b (omega arith) (bytes-then 8 (w + 8) s from_count b (omega arith) at_count) in
      ap (λ (k : ℕ). bytes_of_number w k ++ from_text) (sym (first_two f s e))
      ∙ bytes-then w 0 s from_text b (omega arith) (at_text ∙ ap (λ (k : ℕ). drop k s) (sym (zero-add w)))

  -- writing accepts a buffer of its length in the new form
  read_length : (room : ℕ) → room ≡ sheet_length New (head_of f s).count → write_check (length (addresses_of f s)) room ≡ Ok tt
  unfolding write_check
  read_length room r =
      let k : ℕ = (head_of f s).count in
      rw (length-list, r, le-ltb (list_limit New) k (omega (arith, few-addresses f s e, (few_bytes f).1)), eq-eqb (sheet_length New k) (sheet_length New k) refl) refl

-- an answer that gives a head was accepted, and gives that head
found-head : (v : Verdict) {a h : SheetHead} → by_verdict v (Ok a) Err ≡ Ok h → (v ≡ Ok tt) × (a ≡ h)
found-head (Ok tt) e = (refl, cc)
found-head (Err x) e = let z : ◌≡◌ {A = ℕ} 0 1 = cc in absurd (omega arith)

-- a sheet of the form f that was read is accepted, and the answer and the list are its head and its addresses
module _ (f : SheetForm) (s list : List ℕ) {h : SheetHead} (k : form_of s ≡ Some f) (r : read_answer s (length list) ≡ Ok h) where
  pub was_read : (read_check f s (length list) ≡ Ok tt) × (head_of f s ≡ h)
  unfolding read_answer read_in
  was_read = found-head (read_check f s (length list)) (rw k at r)

  pub well-formed : sheet_check f s ≡ Ok tt
  unfolding read_check
  well-formed = accepted-first (sheet_check f s) _ was_read.0

  list_read : read_list s list ≡ addresses_of f s
  unfolding read_list list_in
  list_read = rw (k, was_read.0) refl

  -- what was read, written into a buffer of the new form's length, is accepted and leaves the new sheet of its addresses
  written_new : Bytes s → (sheet : List ℕ) → length sheet ≡ sheet_length New h.count → (write_check (length (read_list s list)) (length sheet) ≡ Ok tt) × (write_sheet h.text.0 h.«data».0 (read_list s list) sheet ≡ sheet_bytes New (head_of f s).text.0 (head_of f s).«data».0 (addresses_of f s))
  unfolding write_sheet
  written_new b sheet n =
      let c = read_length f s b well-formed (length sheet) (rw was_read.1 n) in
      rw (← was_read.1, list_read, c) (refl, refl)

-- "a sheet that was read writes back as the same bytes", of new sheets: what reading answered and left in a list, written into any buffer of the sheet's length, is accepted and leaves the sheet.
pub read-writes-back : (s list sheet : List ℕ) {h : SheetHead} → Bytes s → form_of s ≡ Some New → read_answer s (length list) ≡ Ok h → length sheet ≡ length s
    → (write_check (length (read_list s list)) (length sheet) ≡ Ok tt) × (write_sheet h.text.0 h.«data».0 (read_list s list) sheet ≡ s)
read-writes-back s list sheet b k r n =
    let e = well-formed New s list k r in
    let w = written_new New s list k r b sheet (n ∙ whole_length New s e ∙ ap (λ (x : SheetHead). sheet_length New x.count) (was_read New s list k r).1) in
    (w.0, w.1 ∙ read-bytes New s b e)

-- ---- an old sheet becomes a new one

-- a number that fits two bytes has two zero bytes before them in four
zeros-before : (v : ℕ) → v < 65536 → bytes_of_number 4 v ≡ 0 ∷ 0 ∷ bytes_of_number 2 v
unfolding bytes_of_number
zeros-before v h =
    let high : v / 256 ^ 3 % 256 ≡ 0 = omega arith in
    let next : v / 256 ^ 2 % 256 ≡ 0 = omega arith in
    rw (high, next) refl

-- the new sheet of a plan is the new form of its old sheet
pub new-of-old : (text dat : ℕ) (list : List ℕ) → length list ≤ list_limit Old → sheet_bytes New text dat list ≡ new_form (sheet_bytes Old text dat list)
unfolding sheet_bytes new_form
new-of-old text dat list n =
    let first : List ℕ = bytes_of_number 2 2 in
    let addresses : List ℕ = bytes_of_number 8 text ++ bytes_of_number 8 dat in
    let front : List ℕ = first ++ addresses in
    let rest : List ℕ = bytes_of_number 2 (length list) ++ address_bytes list in
    let whole : first ++ (bytes_of_number 8 text ++ (bytes_of_number 8 dat ++ rest)) ≡ front ++ rest = split rest in
    let long : length front ≡ 18 = simp (length-append, length-bytes) refl in
    rw (whole, take_at front rest 18 long, drop_at front rest 18 long, zeros-before 2 (omega arith), zeros-before (length list) (omega arith)) (ap (λ (x : List ℕ). 0 ∷ 0 ∷ x) (split (0 ∷ 0 ∷ rest)))
  where
    split : (x : List ℕ) → bytes_of_number 2 2 ++ (bytes_of_number 8 text ++ (bytes_of_number 8 dat ++ x)) ≡ (bytes_of_number 2 2 ++ (bytes_of_number 8 text ++ bytes_of_number 8 dat)) ++ x
    split x = rw (append_assoc (bytes_of_number 2 2) (bytes_of_number 8 text ++ bytes_of_number 8 dat) x, append_assoc (bytes_of_number 8 text) (bytes_of_number 8 dat) x) refl

-- "reading an old one and writing gives its new form": what reading answered and left in a list, written into any buffer of the new form's length, is accepted and leaves it.
pub old-writes-new : (s list sheet : List ℕ) {h : SheetHead} → Bytes s → form_of s ≡ Some Old → read_answer s (length list) ≡ Ok h → length sheet ≡ sheet_length New h.count
    → (write_check (length (read_list s list)) (length sheet) ≡ Ok tt) × (write_sheet h.text.0 h.«data».0 (read_list s list) sheet ≡ new_form s)
old-writes-new s list sheet b k r n =
    let e = well-formed Old s list k r in
    let w = written_new Old s list k r b sheet n in
    let few : length (addresses_of Old s) ≤ list_limit Old = rw (length-list Old s b e) (few-addresses Old s e) in
    (w.0, w.1 ∙ new-of-old (head_of Old s).text.0 (head_of Old s).«data».0 (addresses_of Old s) few ∙ ap new_form (read-bytes Old s b e))
