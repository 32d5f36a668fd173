-- Laws of loader symbols that are looked up. Assumes nothing.
use Prim.Native.Nat.{ℕ, ◌+◌, ◌-◌, ◌≤◌, ◌<◌}
use mathlib.Core.Path.{◌≡◌, refl}
use mathlib.Core.Bool.{not, ◌||◌}
use mathlib.Core.List.{List}
use native.Mathlib.Omega.{arith}
use lib.Dec.{ltb, eqb}
use lib.ListN.{length, take, drop}
use borrow.Author.Tests.{ltb-true, ltb-false, not-false}
use Rattle.word.specs.Number.{field_at}
use Rattle.word.specs.Test.{past}
use Rattle.word.specs.Zero.{first_zero}
use Rattle.word.proofs.Test.{either, past-not, or-first, or-second}
use Rattle.format.specs.declared.FileRange.{FileRange}
use Rattle.format.specs.declared.NameField.{NameField}
use Rattle.format.specs.declared.NameField.TheVariants.{Short, Offset}
use Rattle.format.specs.Layout.{short_name, loader_symbol_length}
use Rattle.format.proofs.Ranges.{text-inside}
use Rattle.refusal.specs.Part.{Within}
use Rattle.offset.proofs.Report.{range_inside}
use Rattle.refusal.proofs.Order.{accepted-test}
use Rattle.loader_header.specs.declared.LoaderTables.{LoaderTables}
use Rattle.loader_symbol.specs.Symbol.{entry_start, string_in, name_in, TablesInside}
use Rattle.loadable.specs.declared.Loadable.{Loadable}
use Rattle.loadable.specs.Loadable.{loadable_at}
use Rattle.loadable.specs.Valid.{Valid}
use Rattle.loadable.proofs.Accepted.{loadable-valid}
use Rattle.lookup.specs.Symbol.{index_check, entry_of, name_of, symbol_name_in, loader_name_at}
use Rattle.refusal.specs.Order.{by_verdict}
use Rattle.offset.specs.Report.{report_of_range, InFile}
use Rattle.std.specs.Prelude.{Err, Ok, Result}
use Rattle.refusal.specs.declared.Refusal.{Refusal}
use Rattle.refusal.specs.Verdict.{Verdict}

-- an index that is accepted is in the table
pub index-known : (t : LoaderTables) (i : ℕ) → index_check t i ≡ Ok tt → (3 ≤ i) × (i < 3 + t.nsyms)
unfolding index_check
index-known t i e =
    let low = ltb i 3 in
    let in_table = ltb i (3 + t.nsyms) in
    let h = accepted-test (low || not in_table) _ e in (
      ltb-false i 3 (or-first low (not in_table) h),
      ltb-true i (3 + t.nsyms) (not-false in_table (or-second low (not in_table) h)),
    )

-- its 24 bytes are in the file
pub entry-in-file : (file : List ℕ) (t : LoaderTables) (i : ℕ) → TablesInside file t → index_check t i ≡ Ok tt → entry_start t (i - 3) + loader_symbol_length ≤ length file
entry-in-file file t i h e =
    let k = index-known t i e in
    let table = h.symbols in
    omega arith

-- a string name lies in the file
string-within : (file : List ℕ) (strings : FileRange) (o i : ℕ) → strings.start.0 + strings.length ≤ length file → Within (length file) (string_in file strings o i)
unfolding string_in
string-within file strings o i h =
    let n = field_at 2 (strings.start.0 + o - 2) file in
    let empty = eqb n 0 in
    let far = past o n strings.length in
    either (Within (length file)) (ltb o 2 || ltb strings.length o) (λ _. tt)
    (λ _. either (Within (length file)) (empty || far) (λ _. tt)
    (λ p. either (Within (length file)) (eqb (first_zero (take n (drop (strings.start.0 + o) file))) (n - 1))
    (λ _. let k = past-not o n strings.length (or-second empty far p) in omega arith) (λ _. tt)))

pub name-in-file : (file : List ℕ) (strings : FileRange) (base i : ℕ) (n : NameField) → strings.start.0 + strings.length ≤ length file → base + loader_symbol_length ≤ length file → Within (length file) (name_in file strings base i n)
unfolding name_in
name-in-file file strings base i Short h k = text-inside short_name base file (omega arith)
name-in-file file strings base i (Offset o) h k = string-within file strings o i h

by_index : (file : List ℕ) (l : Loadable) (i : ℕ) (v : Verdict) → index_check l.tables i ≡ v → Valid file l → Within (length file) (by_verdict v (name_of file l i) Err)
unfolding name_of
by_index file l i (Err x) e h = tt
by_index file l i (Ok tt) e h =
    let t = h.loader.tables in
    name-in-file file l.tables.strings (entry_start l.tables (i - 3)) i (entry_of file l i).name t.strings (entry-in-file file l.tables i t e)

by_answer : (file : List ℕ) (i : ℕ) (a : Result Loadable Refusal) → loadable_at file ≡ a → Within (length file) (symbol_name_in file a i)
unfolding symbol_name_in
by_answer file i (Err x) e = tt
by_answer file i (Ok l) e = by_index file l i (index_check l.tables i) refl (loadable-valid file l e)

-- the name of a loader symbol lies in the file
pub loader-name-within : (file : List ℕ) (i : ℕ) → Within (length file) (loader_name_at file i)
unfolding loader_name_at
loader-name-within file i = by_answer file i (loadable_at file) refl

pub loader-name-inside : (file : List ℕ) (i : ℕ) → InFile file (report_of_range file (loader_name_at file i))
loader-name-inside file i = range_inside file (loader_name_at file i) (loader-name-within file i)
