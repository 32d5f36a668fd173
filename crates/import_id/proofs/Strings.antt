-- Laws of the import id table's strings. Assumes nothing.
use Prim.Native.Nat.{ℕ, zero, suc, ◌+◌, ◌-◌, ◌*◌, ◌≤◌, ◌<◌}
use mathlib.Core.Path.{◌≡◌, refl, ◌∙◌, ap}
use mathlib.Core.Bool.{not}
use mathlib.Core.List.{List}
use native.Mathlib.Nat.{add-sub_cancel_left}
use native.Mathlib.Numerals.{add-one}
use native.Mathlib.Omega.{arith}
use lib.Dec.{ltb}
use lib.ListN.{length, take, drop, length-drop}
use lib.Seq.{drop-drop, take_all}
use borrow.Author.Tests.{ltb-true, not-false}
use Rattle.word.specs.Zero.{first_zero, zeros_in}
use Rattle.word.proofs.Zero.{zero-counted, zeros-few}
use Rattle.format.specs.declared.FileRange.{FileRange}
use Rattle.format.specs.Limit.{file_limit}
use Rattle.format.specs.Range.{range, bytes_of}
use Rattle.refusal.specs.Part.{Within}
use Rattle.offset.proofs.Report.{range_inside}
use Rattle.refusal.proofs.Order.{accepted-test}
use Rattle.loader_header.specs.declared.LoaderTables.{LoaderTables}
use Rattle.loadable.specs.declared.Loadable.{Loadable}
use Rattle.loadable.specs.Loadable.{loadable_at}
use Rattle.loadable.specs.Valid.{Valid}
use Rattle.loadable.proofs.Accepted.{loadable-valid}
use Rattle.import_id.specs.declared.ImportString.{ImportString}
use Rattle.import_id.specs.declared.ImportString.TheVariants.{Path, Base, Member}
use Rattle.import_id.specs.Import.{id_check, string_start, string_of, place_of, import_in, import_at}
use Rattle.refusal.specs.Order.{by_verdict}
use Rattle.format.proofs.Ranges.{length_part}
use Rattle.offset.specs.Report.{report_of_range, InFile}
use Rattle.std.specs.Prelude.{Err, Ok, Result}
use Rattle.refusal.specs.declared.Refusal.{Refusal}
use Rattle.refusal.specs.Verdict.{Verdict}

-- what is left behind the first j strings: a zero less for each
pub record Left (s : List ℕ) (j : ℕ) : Type 0 where
  pub within : string_start s j ≤ length s
  pub zeros : zeros_in (drop (string_start s j) s) + j ≡ zeros_in s

-- one string more
pub next-in : (s : List ℕ) (j : ℕ) → Left s j → j < zeros_in s → string_start s j + first_zero (drop (string_start s j) s) < length s
next-in s j h l =
    let at = string_start s j in
    let z = h.zeros in
    let c = zero-counted (drop at s) (omega arith) in
    omega (arith, c.0, length-drop at s, h.within)

next-zeros : (s : List ℕ) (j : ℕ) → Left s j → j < zeros_in s → zeros_in (drop (string_start s j + first_zero (drop (string_start s j) s) + 1) s) + suc j ≡ zeros_in s
next-zeros s j h l =
    let at = string_start s j in
    let k = first_zero (drop at s) in
    let z = h.zeros in
    let c = zero-counted (drop at s) (omega arith) in
    let place : at + suc k ≡ at + k + 1 = omega arith in
    let behind : drop (suc k) (drop at s) ≡ drop (at + k + 1) s = drop-drop (suc k) at s ∙ ap (λ n. drop n s) place in
    let count = ap zeros_in behind in
    omega (arith, c.1)

pub left-next : (s : List ℕ) (j : ℕ) → Left s j → j < zeros_in s → Left s (suc j)
unfolding string_start
left-next s j h l = record { within = let k = next-in s j h l in omega arith; zeros = next-zeros s j h l }

pub left-all : (s : List ℕ) (j : ℕ) → j ≤ zeros_in s → Left s j
unfolding string_start
left-all s zero h = record { within = omega arith; zeros = omega arith }
left-all s (suc j) h = left-next s j (left-all s j (omega arith)) (omega arith)

-- the rest of a list, as a part of it
rest-is : (s : List ℕ) (at : ℕ) → take (length s - at) (drop at s) ≡ drop at s
rest-is s at = take_all (length s - at) (drop at s) (rw length-drop (omega arith))

-- a turn of the loop over strings: r is the length of string j, which starts at `at`
module _ (s : List ℕ) (j : ℕ) {at r : ℕ} (a : at ≡ string_start s j) (e : r ≡ first_zero (take (length s - at) (drop at s))) where
  pub string-length : r ≡ first_zero (drop (string_start s j) s)
  string-length = rw (rest-is s at, a) at e

  pub start-next : at + r + 1 ≡ string_start s (j + 1)
  unfolding string_start
  start-next = rw (a, string-length, add-one j) refl

  pub string-ends : j < zeros_in s → at + r < length s
  string-ends l = let h = next-in s j (left-all s j (omega arith)) l in omega (arith, a, string-length)

-- the bytes of a part of the file, as the slice from its start to its end
pub part-is : (file : List ℕ) (r : FileRange) → take (r.start.0 + r.length - r.start.0) (drop r.start.0 file) ≡ bytes_of file r
part-is file r = rw (add-sub_cancel_left r.start.0 r.length) refl

-- a string that has its zero lies in the file
pub string-inside : (file : List ℕ) (ids : FileRange) (j : ℕ) → ids.start.0 + ids.length ≤ length file → j < zeros_in (bytes_of file ids) → (string_of file ids j).start.0 + (string_of file ids j).length ≤ length file
unfolding string_of
string-inside file ids j h l =
    let s = bytes_of file ids in
    omega (arith, next-in s j (left-all s j (omega arith)) l, length_part file ids h)

-- string j by where it starts in the slice of the table
module _ (file : List ℕ) (ids : FileRange) (j : ℕ) {at : ℕ} (e : at ≡ string_start (take (ids.start.0 + ids.length - ids.start.0) (drop ids.start.0 file)) j) where
  start_is : at ≡ string_start (bytes_of file ids) j
  start_is = rw (part-is file ids) at e

  pub start-in : j < zeros_in (bytes_of file ids) → at ≤ length (take (ids.start.0 + ids.length - ids.start.0) (drop ids.start.0 file))
  start-in l = rw (part-is file ids) (omega (arith, start_is, (left-all (bytes_of file ids) j (omega arith)).within))

  pub start_small : ids.start.0 + ids.length ≤ length file → j < zeros_in (bytes_of file ids) → at ≤ ids.length
  start_small h l = omega (arith, start_is, (left-all (bytes_of file ids) j (omega arith)).within, length_part file ids h)

  pub string-is : {r : ℕ} → r ≡ first_zero (take (length (take (ids.start.0 + ids.length - ids.start.0) (drop ids.start.0 file)) - at) (drop at (take (ids.start.0 + ids.length - ids.start.0) (drop ids.start.0 file)))) → range (ids.start.0 + at) r ≡ string_of file ids j
  unfolding string_of
  string-is q = rw (string-length (bytes_of file ids) j start_is (rw (part-is file ids) at q), start_is) refl

-- the strings of an id that is accepted are there
pub id-known : (t : LoaderTables) (n : ℕ) → id_check t n ≡ Ok tt → n < t.nimpid
unfolding id_check
id-known t n e = ltb-true n t.nimpid (not-false (ltb n t.nimpid) (accepted-test (not (ltb n t.nimpid)) _ e))

place-few : (w : ImportString) → place_of w < 3
place-few Path = omega arith
place-few Base = omega arith
place-few Member = omega arith

pub strings-there : (file : List ℕ) (l : Loadable) (n w : ℕ) → Valid file l → n < l.tables.nimpid → w < 3 → 3 * n + w < zeros_in (bytes_of file l.tables.ids)
strings-there file l n w h k few = let enough = h.loader.ids in omega arith

pub strings-few : (file : List ℕ) (l : Loadable) → Valid file l → zeros_in (bytes_of file l.tables.ids) ≤ file_limit
strings-few file l h =
    let ids = h.loader.tables.ids in
    omega (arith, zeros-few (bytes_of file l.tables.ids), length_part file l.tables.ids ids, ids, h.sections.small)

by-id : (file : List ℕ) (l : Loadable) (n : ℕ) (w : ImportString) (v : Verdict) → id_check l.tables n ≡ v → Valid file l → Within (length file) (by_verdict v (Ok (string_of file l.tables.ids (3 * n + place_of w))) Err)
by-id file l n w (Err x) e h = tt
by-id file l n w (Ok tt) e h =
    string-inside file l.tables.ids (3 * n + place_of w) h.loader.tables.ids (strings-there file l n (place_of w) h (id-known l.tables n e) (place-few w))

by_answer : (file : List ℕ) (n : ℕ) (w : ImportString) (a : Result Loadable Refusal) → loadable_at file ≡ a → Within (length file) (import_in file a n w)
unfolding import_in
by_answer file n w (Err x) e = tt
by_answer file n w (Ok l) e = by-id file l n w (id_check l.tables n) refl (loadable-valid file l e)

-- a string of an import id lies in the file
pub import-within : (file : List ℕ) (n : ℕ) (w : ImportString) → Within (length file) (import_at file n w)
unfolding import_at
import-within file n w = by_answer file n w (loadable_at file) refl

pub import-inside : (file : List ℕ) (n : ℕ) (w : ImportString) → InFile file (report_of_range file (import_at file n w))
import-inside file n w = range_inside file (import_at file n w) (import-within file n w)
