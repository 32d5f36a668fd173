-- The strings of the import id table in one pass, and the rows that they make. Assumes nothing.
use mathlib.Core.Path.{◌≡◌, refl, ◌∙◌}
use mathlib.Core.List.{List, [], ◌∷◌, ◌++◌}
use Prim.Native.Nat.{ℕ, ◌+◌, ◌*◌, ◌<◌, ◌≤◌}
use native.Mathlib.Nat.{add-zero}
use native.Mathlib.Numerals.{add-one}
use native.Mathlib.Omega.{arith}
use borrow.Author.Tests.{lt-ltb}
use lib.ListN.{length, drop}
use Rattle.word.specs.Zero.{first_zero}
use Rattle.format.specs.declared.FileRange.{FileRange}
use Rattle.format.specs.Limit.{file_limit}
use Rattle.format.specs.Range.{bytes_of}
use Rattle.loader_header.specs.declared.LoaderTables.{LoaderTables}
use Rattle.loadable.specs.declared.Loadable.{Loadable}
use Rattle.loadable.specs.Loadable.{loadable_at, report_of_module, module_report}
use Rattle.loadable.proofs.Accepted.{loadable-valid}
use Rattle.import_id.specs.declared.ImportString.{ImportString}
use Rattle.import_id.specs.declared.ImportString.TheVariants.{Path, Base, Member}
use Rattle.import_id.specs.Import.{id_check, string_start, string_of, place_of, import_in, import_at}
use Rattle.import_id.proofs.Strings.{next-in, left-all, strings-few}
use Rattle.rows.specs.Rows.{rows_of}
use Rattle.rows.proofs.Laws.{rows_same, rows-three}
use Rattle.module_table.specs.Table.{table_check}
use Rattle.module_table.proofs.Tables.{Needs, needs-by}
use Rattle.import_table.specs.Imports.{import_row, imports, string_row, StringsThere}
use Rattle.format.proofs.Ranges.{length_part}
use Rattle.std.specs.Prelude.{Ok}

pub string-even : (file : List ℕ) (ids : FileRange) (j : ℕ) → length (string_row file ids j) ≡ 2
unfolding string_row
string-even file ids j = refl

-- ---- the pass: string j starts at `at`

module _ (file : List ℕ) (ids : FileRange) (n j : ℕ) (h : StringsThere file ids n) {at : ℕ} (a : at ≡ string_start (bytes_of file ids) j) where
  pub start-inside : j < n → at ≤ ids.length
  start-inside l = let enough = h.enough in omega (arith, a, (left-all (bytes_of file ids) j (omega arith)).within, length_part file ids h.inside)

  module _ {len : ℕ} (e : len ≡ first_zero (drop at (bytes_of file ids))) where
    length-is : len ≡ first_zero (drop (string_start (bytes_of file ids) j) (bytes_of file ids))
    length-is = rw a at e

    pub end-inside : j < n → ids.start.0 + at + len < file_limit
    end-inside l =
        let s = bytes_of file ids in
        let enough = h.enough in
        let small = h.small in
        let inside = h.inside in
        omega (arith, a, length-is, next-in s j (left-all s j (omega arith)) (omega arith), length_part file ids inside)

    pub next_start : at + len + 1 ≡ string_start (bytes_of file ids) (j + 1)
    unfolding string_start
    next_start = rw (a, length-is, add-one j) refl

    pub row_is : (ids.start.0 + at) ∷ len ∷ [] ≡ string_row file ids j
    unfolding string_row string_of
    row_is = rw (a, length-is) refl

-- ---- an accepted module

id-in : (t : LoaderTables) (n : ℕ) → n < t.nimpid → id_check t n ≡ Ok tt
unfolding id_check
id-in t n h = rw (lt-ltb n t.nimpid h) refl

module _ (file : List ℕ) (l : Loadable) (found : loadable_at file ≡ Ok l) where
  pub ids-few : 3 * l.tables.nimpid ≤ file_limit
  ids-few =
      let v = loadable-valid file l found in
      let enough = v.loader.ids in
      omega (arith, strings-few file l v)

  pub strings-there : StringsThere file l.tables.ids (3 * l.tables.nimpid)
  strings-there =
      let v = loadable-valid file l found in
      record { small = v.sections.small; inside = v.loader.tables.ids; enough = v.loader.ids }

  import-found : (n : ℕ) (w : ImportString) → n < l.tables.nimpid → import_at file n w ≡ Ok (string_of file l.tables.ids (3 * n + place_of w))
  unfolding import_at import_in
  import-found n w h = rw (found, id-in l.tables n h) refl

  -- three strings are the row of an id
  import-row : (n : ℕ) → n < l.tables.nimpid → string_row file l.tables.ids (3 * n) ++ (string_row file l.tables.ids (3 * n + 1) ++ string_row file l.tables.ids (3 * n + 2)) ≡ import_row file l n
  unfolding import_row string_row
  import-row n h = rw (import-found n Path h, import-found n Base h, import-found n Member h, add-zero (3 * n)) refl

  pub import-rows : rows_of (string_row file l.tables.ids) 0 (3 * l.tables.nimpid) ≡ rows_of (import_row file l) 0 l.tables.nimpid
  import-rows =
      rows-three (string_row file l.tables.ids) l.tables.nimpid 0
      ∙ rows_same (λ n. string_row file l.tables.ids (3 * n) ++ (string_row file l.tables.ids (3 * n + 1) ++ string_row file l.tables.ids (3 * n + 2))) (import_row file l) l.tables.nimpid 0 (λ n _ h. import-row n (omega arith))

-- ---- the memory that a listing needs

pub import-even : (file : List ℕ) (l : Loadable) (j : ℕ) → length (import_row file l j) ≡ 6
unfolding import_row
import-even file l j = refl

pub imports-need : (file : List ℕ) → Needs imports file (6 * (module_report file).ids)
unfolding table_check
imports-need file = needs-by imports (λ a. (report_of_module file a).ids) file (λ l. refl) (λ x. refl) (import-even file) (loadable_at file)
