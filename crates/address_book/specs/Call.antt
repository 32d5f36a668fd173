-- Calls on the address table: what each answers, and the book that it leaves.
use Rattle.std.specs.Prelude.{Bool, true, false, not, ◌&&◌, ◌||◌, List, [], ◌∷◌, ◌++◌, ℕ, ◌-◌, ◌*◌, eqb, ltb, length, replicate, Err, Ok, Result}
use Rattle.refusal.specs.declared.IndexItem.TheVariants.{NoBench}
use Rattle.refusal.specs.declared.RoomItem.TheVariants.{AddressList}
use Rattle.refusal.specs.declared.Refusal.TheVariants as refusal
use Rattle.refusal.specs.Order.{◌or_else◌, refuse_if, by_verdict, if_accepted}
use Rattle.refusal.specs.Refusal.{accepted_head, refused_head}
use Rattle.rows.specs.Rows.{room_check}
use Rattle.sheet.specs.Sheet.{numbers_from}
use Rattle.address_book.specs.declared.NumberReport.{NumberReport}
use Rattle.address_book.specs.Book.{Key, Row, key, Book, Entry, none, at, find, put, delete, own}
use Rattle.refusal.specs.declared.Refusal.{Refusal}
use Rattle.refusal.specs.Verdict.{Verdict}

-- how many rows the two benches share
abbrev pub row_limit : ℕ
row_limit = 512

abbrev pub name_limit : ℕ
name_limit = 32

-- what a place of a plan's list is for: an import that is not deferred, with its file id, name and recorded value, or anything else
pub data Place : Type 0 where
  imported : ℕ → List ℕ → ℕ → Place
  other : Place

-- what a fill needs of a file: its verdict as a module, and what the places of its lists are for
pub record Places : Type 0 where
  pub verdict : Verdict
  pub places : List Place

-- a fill and a listing further have the length of the memory that is lent for what they write
pub data Call : Type 0 where
  add : Key → ℕ → Call
  remove : Key → Call
  look : Key → Call
  fill : ℕ → Places → ℕ → Call
  count : ℕ → Call
  list : ℕ → ℕ → Call

abbrev pub bench_of : Call → ℕ
bench_of (add k a) = k.bench
bench_of (remove k) = k.bench
bench_of (look k) = k.bench
bench_of (fill n m given) = n
bench_of (count n) = n
bench_of (list n given) = n

-- ---- refusals

abbrev pub is_none : Entry → Bool
is_none none = true
is_none (at a) = false

abbrev pub address_or : ℕ → Entry → ℕ
address_or v none = v
address_or v (at a) = a

-- INDEX: there are the benches 1 and 2
unfoldable pub bench_check : ℕ → Verdict
bench_check b = refuse_if (not (eqb b 1 || eqb b 2)) (refusal.Index (NoBench b))

-- INDEX, LONG
unfoldable pub key_check : Key → Verdict
key_check k =
    bench_check k.bench or_else refuse_if (eqb (length k.name) 0 || ltb name_limit (length k.name)) refusal.Long

-- how many numbers a row is listed by
abbrev pub row_width : ℕ
row_width = 7

-- what a call is refused for, in a book and with so many rows taken
unfoldable pub call_check : ℕ → Book → Call → Verdict
call_check taken b (add k a) = key_check k or_else refuse_if (is_none (find b k) && eqb taken row_limit) refusal.Full
call_check taken b (remove k) = key_check k or_else refuse_if (is_none (find b k)) refusal.Absent
call_check taken b (look k) = key_check k or_else refuse_if (is_none (find b k)) refusal.Absent
call_check taken b (fill n m given) =
    bench_check n or_else m.verdict or_else refuse_if (not (eqb given (length m.places))) (refusal.Room AddressList)
call_check taken b (count n) = bench_check n
call_check taken b (list n given) = bench_check n or_else room_check given (row_width * length (own n b))

-- ---- what an accepted call writes to lent memory

-- an import's address by its row; its recorded value where it has none, as under a name that no row can have
unfoldable pub address_at : Book → ℕ → Place → ℕ
address_at b n (imported f name v) = if_accepted (key_check (key n f name)) (address_or v (find b (key n f name))) v
address_at b n other = 0

unfoldable pub filled : Book → ℕ → List Place → List ℕ
filled b n [] = []
filled b n (p ∷ ps) = address_at b n p ∷ filled b n ps

-- the name's bytes, and zeros up to 32
unfoldable pub padded_name : List ℕ → List ℕ
padded_name name = name ++ replicate (name_limit - length name) 0

-- a name in four numbers of 8 bytes
unfoldable pub name_numbers : List ℕ → List ℕ
name_numbers name = numbers_from (padded_name name) 0 4

-- a row as it is listed: file id, the name's length, the name, the address
unfoldable pub row_numbers : Row → List ℕ
row_numbers r = r.row_key.file ∷ (length r.row_key.name ∷ (name_numbers r.row_key.name ++ (r.address ∷ [])))

unfoldable pub listed : Book → List ℕ
listed [] = []
listed (r ∷ rs) = row_numbers r ++ listed rs

-- a fill writes a plan's list, a listing the bench's rows in the order of file id and name
unfoldable pub written_in : Book → Call → List ℕ
written_in b (add k a) = []
written_in b (remove k) = []
written_in b (look k) = []
written_in b (fill n m given) = filled b n m.places
written_in b (count n) = []
written_in b (list n given) = listed (own n b)

-- ---- answers

-- the address that is found, or how many rows the bench has
unfoldable pub value_in : Book → Call → ℕ
value_in b (add k a) = 0
value_in b (remove k) = 0
value_in b (look k) = address_or 0 (find b k)
value_in b (fill n m given) = 0
value_in b (count n) = length (own n b)
value_in b (list n given) = 0

unfoldable pub number_in : ℕ → Book → Call → Result ℕ Refusal
number_in taken b c = by_verdict (call_check taken b c) (Ok (value_in b c)) Err

-- lent memory is left as it is where a call is refused
unfoldable pub memory_in : ℕ → Book → Call → List ℕ → List ℕ
memory_in taken b c before = if_accepted (call_check taken b c) (written_in b c) before

-- all that a call answers: its refusal or its number, and what it writes
pub record Answer : Type 0 where
  pub told : Result ℕ Refusal
  pub written : List ℕ

unfoldable pub answer_in : ℕ → Book → Call → Answer
answer_in taken b c = record { told = number_in taken b c; written = memory_in taken b c [] }

-- the book that an accepted call leaves
unfoldable pub applied : Call → Book → Book
applied (add k a) b = put k a b
applied (remove k) b = delete k b
applied (look k) b = b
applied (fill n m given) b = b
applied (count n) b = b
applied (list n given) b = b

-- a refused call changes nothing
unfoldable pub after_in : ℕ → Book → Call → Book
after_in taken b c = if_accepted (call_check taken b c) (applied c b) b

-- the rows taken are the book's
abbrev pub check_of : Book → Call → Verdict
check_of b c = call_check (length b) b c

abbrev pub number_of : Book → Call → Result ℕ Refusal
number_of b c = number_in (length b) b c

abbrev pub answer_of : Book → Call → Answer
answer_of b c = answer_in (length b) b c

abbrev pub after : Book → Call → Book
after b c = after_in (length b) b c

-- the answer in the paper's numbers; there is no file, and the offset is 0
abbrev pub report_of_number : Result ℕ Refusal → NumberReport
report_of_number (Ok v) = record { head = accepted_head; value = v }
report_of_number (Err x) = record { head = refused_head x 0; value = 0 }
