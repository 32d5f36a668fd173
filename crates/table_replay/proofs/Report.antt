-- The last call is reported as its own operation reports it. Assumes nothing.
use mathlib.Core.Path.{◌≡◌, refl, ap}
use mathlib.Core.Bool.{Bool, true, false, not, ◌&&◌, ◌||◌}
use mathlib.Core.List.{List}
use Prim.Native.Nat.{ℕ}
use lib.Dec.{eqb, ltb}
use lib.ListN.{length}
use Rattle.refusal.specs.declared.IndexItem.{IndexItem}
use Rattle.refusal.specs.declared.IndexItem.TheVariants.{NoBench}
use Rattle.refusal.specs.declared.Refusal.{Refusal}
use Rattle.refusal.specs.declared.Refusal.TheVariants as refusal
use Rattle.refusal.specs.Refusal.{refused_head}
use Rattle.refusal.specs.Order.{◌or_else◌, refuse_if, by_verdict}
use Rattle.offset.specs.Offset.{starts_of, offset_by, offset_of}
use Rattle.offset.specs.Report.{report_head}
use Rattle.sheet.specs.Sheet.{sheet_head}
use Rattle.address_book.specs.Book.{Key, Book, find}
use Rattle.address_book.specs.Call.{Places, add, remove, look, fill, is_none, name_limit, row_limit, bench_check, key_check, call_check, check_of, value_in, number_in, number_of}
use Rattle.table_replay.specs.Answer.{answer_head}
use Rattle.std.specs.Prelude.{Err, None, Ok, Option, Some}
use Rattle.offset.specs.declared.Starts.{Starts}
use Rattle.refusal.specs.Verdict.{Verdict}

-- a fill's report has its refusal's place in the file
by-fill : (file : List ℕ) (v : Verdict) → answer_head file (by_verdict v (Ok 0) Err) ≡ report_head file v
by-fill file (Ok tt) = refl
by-fill file (Err x) = refl

pub fill-report : (file : List ℕ) (b : Book) (n : ℕ) (p : Places) (given : ℕ) → answer_head file (number_of b (fill n p given)) ≡ report_head file (check_of b (fill n p given))
unfolding number_in value_in
fill-report file b n p given = by-fill file (check_of b (fill n p given))

-- no other call's refusal has one
module _ (file : List ℕ) where
  no_place : (a : Option Starts) (i : IndexItem) → offset_by file a (refusal.Index i) ≡ 0
  no_place None i = refl
  no_place (Some s) i = refl

  long-place : (a : Option Starts) → offset_by file a refusal.Long ≡ 0
  long-place None = refl
  long-place (Some s) = refl

  full-place : (a : Option Starts) → offset_by file a refusal.Full ≡ 0
  full-place None = refl
  full-place (Some s) = refl

  absent-place : (a : Option Starts) → offset_by file a refusal.Absent ≡ 0
  absent-place None = refl
  absent-place (Some s) = refl

  by_row : (s t u : Bool) (n m : ℕ) (z : Refusal) → offset_of file z ≡ 0
      → answer_head file (by_verdict ((refuse_if s (refusal.Index (NoBench n)) or_else refuse_if t refusal.Long) or_else refuse_if u z) (Ok m) Err) ≡ sheet_head ((refuse_if s (refusal.Index (NoBench n)) or_else refuse_if t refusal.Long) or_else refuse_if u z)
  by_row true t u n m z e = ap (refused_head (refusal.Index (NoBench n))) (no_place (starts_of file) (NoBench n))
  by_row false true u n m z e = ap (refused_head refusal.Long) (long-place (starts_of file))
  by_row false false true n m z e = ap (refused_head z) e
  by_row false false false n m z e = refl

  pub add-report : (b : Book) (k : Key) (a : ℕ) → answer_head file (number_of b (add k a)) ≡ sheet_head (check_of b (add k a))
  unfolding number_in value_in call_check key_check bench_check
  add-report b k a =
      by_row (not (eqb k.bench 1 || eqb k.bench 2)) (eqb (length k.name) 0 || ltb name_limit (length k.name)) (is_none (find b k) && eqb (length b) row_limit) k.bench 0 refusal.Full (full-place (starts_of file))

  pub remove-report : (b : Book) (k : Key) → answer_head file (number_of b (remove k)) ≡ sheet_head (check_of b (remove k))
  unfolding number_in value_in call_check key_check bench_check
  remove-report b k =
      by_row (not (eqb k.bench 1 || eqb k.bench 2)) (eqb (length k.name) 0 || ltb name_limit (length k.name)) (is_none (find b k)) k.bench 0 refusal.Absent (absent-place (starts_of file))

  pub look-report : (b : Book) (k : Key) → answer_head file (number_of b (look k)) ≡ sheet_head (check_of b (look k))
  unfolding number_in call_check key_check bench_check
  look-report b k =
      by_row (not (eqb k.bench 1 || eqb k.bench 2)) (eqb (length k.name) 0 || ltb name_limit (length k.name)) (is_none (find b k)) k.bench (value_in b (look k)) refusal.Absent (absent-place (starts_of file))
