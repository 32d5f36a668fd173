-- The theorems of a salvaged file. Assumes nothing.
use mathlib.Core.Path.{◌≡◌, refl, sym, ◌∙◌, ap, subst}
use mathlib.Core.Bool.{false}
use mathlib.Core.List.{List, [], ◌∷◌}
use mathlib.Core.Logic.{inr}
use Prim.Native.Nat.{ℕ, ◌+◌, ◌-◌, ◌*◌, ◌≤◌, ◌<◌}
use native.Mathlib.Decide.{ℕ_discrete}
use native.Mathlib.Omega.{arith}
use lib.Dec.{eqb}
use lib.ListN.{length, get_or}
use Rattle.word.proofs.Test.{either}
use Rattle.update.specs.Update.{Bytes}
use Rattle.update.proofs.Stores.{sets-outside}
use Rattle.format.specs.declared.Format.{Format}
use Rattle.format.specs.declared.FileRange.{FileRange}
use Rattle.format.specs.Layout.{symbol_length}
use Rattle.format.specs.Range.{range, bytes_of}
use Rattle.refusal.specs.declared.Refusal.TheVariants.{Shared}
use Rattle.refusal.specs.Order.{by_verdict}
use Rattle.refusal.proofs.Order.{accepted-first, accepted-rest, accepted-test, by-verdict}
use Rattle.file_header.specs.declared.FileHeader.{FileHeader}
use Rattle.file_header.specs.Header.{header_at}
use Rattle.file_tables.specs.declared.SymbolTable.{SymbolTable}
use Rattle.file_tables.specs.Tables.{symbol_table, symbols_end}
use Rattle.header.specs.declared.Summary.{Summary}
use Rattle.header.specs.declared.Opened.{Opened}
use Rattle.header.specs.Open.{open_of, summary_with, summary_as}
use Rattle.debug_section.specs.Debug.{debug_ranges, exactly_one, debug_of}
use Rattle.visibility.specs.Visibility.{has_version2}
use Rattle.symbol.specs.declared.Tables.{Tables}
use Rattle.symbol.specs.Entry.{OpenTables, entry_start, tables_of, tables_at}
use Rattle.walk.specs.declared.WalkEnd.{WalkEnd}
use Rattle.walk.specs.Walk.{walk_in, walk_of}
use Rattle.walk.proofs.Steps.{walk-ended}
use Rattle.shared_range.specs.Shared.{Disjoint, DisjointAll}
use Rattle.shared_range.proofs.Shared.{apart-all}
use Rattle.shared_symbols.specs.Shared.{symbol_range, header_area, is_shared}
use Rattle.frame.specs.Same.{Same}
use Rattle.frame.specs.Change.{Local}
use Rattle.frame.proofs.Same.{same-sym}
use Rattle.frame.proofs.Change.{local-apart}
use Rattle.frame.proofs.Open.{Reads, opened-reads, reads-opened, open-same, header_length, version-same}
use Rattle.frame.proofs.Readers.{SameDebug}
use Rattle.mend.specs.Mend.{Change, put_all}
use Rattle.mend.specs.Report.{report_bytes, put_bytes}
use Rattle.mend.proofs.Changes.{length-report}
use Rattle.salvage.specs.Salvage.{mended_in, changes_in, changes, salvaged, salvage_count}
use Rattle.salvage.specs.Answer.{salvageable, salvage_check, count_answer, report_after}
use Rattle.salvaged.specs.Claim.{bit_of, Unset, EachSets}
use Rattle.salvaged.proofs.Places.{Mended, visited-ascends, changes-local, entries-mended}
use Rattle.salvaged.proofs.Walk.{walk-reaches, walk-unchanged}
use Rattle.salvaged.proofs.Exact.{changes-set}
use Rattle.salvaged.proofs.Bits.{bits-kept}
use Rattle.std.specs.Prelude.{Err, None, Ok, Option, Some}
use Rattle.refusal.specs.Verdict.{Verdict}

-- ---- the string table lies behind the symbol table

abbrev Behind : SymbolTable → Type 0
Behind s = (s.count ≡ 0 → ⊥) → s.start.0 + s.count * symbol_length ≡ s.strings.start.0

table-behind : (file : List ℕ) (h : FileHeader) → Behind (symbol_table file h)
unfolding symbol_table symbols_end
table-behind file h = either Behind (eqb h.nsyms 0) (λ _ z. absurd (z refl)) (λ _ z. refl)

strings-behind : (file : List ℕ) → (open_of file).verdict ≡ Ok tt → Behind (open_of file).summary.symbols
strings-behind file e = by-format (opened-reads file e).0 (opened-reads file e).1
  where
    by-format : (f : Format) → Reads f file → Behind (open_of file).summary.symbols
    by-format f r =
        let q : (open_of file).summary ≡ summary_as f file = ap (λ (o : Opened). o.summary) (reads-opened f file r) in
        subst (λ (y : Summary). Behind y.symbols) (sym q) (unfold summary_as summary_with in table-behind file (header_at f file))

-- the one debug section is among the debug sections
one_of : (a : FileRange) (rs : List FileRange) → DisjointAll a rs → (d : FileRange) → exactly_one rs ≡ Some d → Disjoint a d
one_of a [] h d e = absurd (let z : ◌≡◌ {A = ℕ} 0 1 = cc in omega arith)
one_of a (r ∷ []) h d e = let q : r ≡ d = cc in subst (λ (x : FileRange). Disjoint a x) q h.0
one_of a (r ∷ s ∷ rs) h d e = absurd (let z : ◌≡◌ {A = ℕ} 0 1 = cc in omega arith)

module _ (file : List ℕ) (accepted : salvageable file ≡ Ok tt) where
  abbrev y : Summary
  y = (open_of file).summary

  abbrev t : Tables
  t = tables_at file

  opens : (open_of file).verdict ≡ Ok tt
  opens = unfold salvageable in accepted-first (open_of file).verdict _ accepted

  shares-none : is_shared y ≡ false
  shares-none = unfold salvageable in accepted-test (is_shared y) Shared (accepted-rest (open_of file).verdict _ accepted)

  tables : OpenTables file t
  tables = record { accepted = opens; tables = refl }

  apart : DisjointAll (symbol_range y) (header_area y ∷ debug_ranges y.sections y.count)
  apart = unfold is_shared in apart-all (symbol_range y) (header_area y ∷ debug_ranges y.sections y.count) shares-none

  -- what salvaging changes is in the symbol table
  table-local : Local (symbol_range y) (λ bs. put_all t (changes file) bs)
  unfolding changes_in
  table-local =
      let a : entry_start t 0 ≡ y.symbols.start.0 = omega arith in
      let b : t.count - 0 ≡ t.count = omega arith in
      rw (a, b) at (changes-local file t 0 (mended_in file t) (omega arith) (visited-ascends file t t.count 0))

  pub salvaged-length : length (salvaged file) ≡ length file
  unfolding salvaged
  salvaged-length = table-local.keeps file

  kept : (start n : ℕ) → Disjoint (symbol_range y) (range start n) → Same start n (salvaged file) file
  unfolding salvaged
  kept start n d = local-apart start n table-local d file

  strings-apart : (n : ℕ) → Disjoint (symbol_range y) (range y.symbols.strings.start.0 n)
  strings-apart n = by_count (ℕ_discrete y.symbols.count 0)
    where
      by_count : Dec (y.symbols.count ≡ 0) → Disjoint (symbol_range y) (range y.symbols.strings.start.0 n)
      by_count (yes z) = record { none = λ k a b. let u = a.high in let l = a.low in absurd (omega arith) }
      by_count (no z) = record { none = λ k a b. let u = a.high in let l = b.low in let q = strings-behind file opens z in absurd (omega arith) }

  headers-kept : Same 0 (header_length y) (salvaged file) file
  headers-kept = kept 0 (header_length y) apart.0

  strings-kept : (n : ℕ) → Same y.symbols.strings.start.0 n (salvaged file) file
  strings-kept n = kept y.symbols.strings.start.0 n (strings-apart n)

  debug-kept : SameDebug t.debug (salvaged file) file
  unfolding debug_of
  debug-kept = by-debug (exactly_one (debug_ranges y.sections y.count)) refl
    where
      by-debug : (d : Option FileRange) → exactly_one (debug_ranges y.sections y.count) ≡ d → SameDebug d (salvaged file) file
      by-debug None e = tt
      by-debug (Some d) e = kept d.start.0 d.length (one_of (symbol_range y) (debug_ranges y.sections y.count) apart.1 d e)

  -- ---- the copy opens to the same summary

  pub salvaged-opens : open_of (salvaged file) ≡ open_of file
  salvaged-opens = sym (open-same file (salvaged file) (sym salvaged-length) opens (same-sym headers-kept) (λ _. same-sym (strings-kept 4)))

  -- and its symbols are judged by the same tables
  pub salvaged-tables : tables_at (salvaged file) ≡ t
  salvaged-tables =
      let strings : bytes_of (salvaged file) y.symbols.strings ≡ bytes_of file y.symbols.strings = (strings-kept y.symbols.strings.length).bytes in
      let version : has_version2 (salvaged file) y ≡ has_version2 file y = version-same y headers-kept in
      ap (λ (o : Opened). tables_of (salvaged file) o.summary) salvaged-opens ∙ rw (strings, version) refl

  -- ---- the copy's walk reaches the table's end

  mended : Mended file t (salvaged file) (mended_in file t)
  unfolding salvaged changes_in
  mended = entries-mended file t 0 (mended_in file t) (visited-ascends file t t.count 0) file refl (λ k a. refl)

  abbrev pub reached : WalkEnd
  reached = record { visited = length (mended_in file t); end = record { 0 = t.count }; cause = Ok tt }

  walked : walk_in (salvaged file) t ≡ reached
  walked = walk-reaches file t tables (salvaged file) (strings-kept t.strings.length) debug-kept mended

  copy-tables : OpenTables (salvaged file) (tables_at (salvaged file))
  copy-tables = record { accepted = ap (λ (o : Opened). o.verdict) salvaged-opens ∙ opens; tables = refl }

  pub salvaged-walks : walk_of (salvaged file) ≡ Ok reached
  salvaged-walks = sym (walk-ended (salvaged file) copy-tables) ∙ ap Ok (ap (walk_in (salvaged file)) salvaged-tables ∙ walked)

  -- ---- every bit but those of the fields so set is the file's

  pub salvaged-bit : Bytes file → (k b : ℕ) → b < 8 → Unset t k b (changes file) → bit_of (get_or (salvaged file) k 0) b ≡ bit_of (get_or file k 0) b
  unfolding salvaged changes_in
  salvaged-bit bytes k b h u = bits-kept file t bytes k b h tables 0 (mended_in file t) (visited-ascends file t t.count 0) file refl refl (λ j a. refl) u

  -- ---- the report is exactly the changes: each field listed held another number, and holds its own in the copy

  pub salvaged-sets : Bytes file → EachSets t file (salvaged file) (changes file)
  unfolding changes_in
  salvaged-sets bytes = changes-set t file (salvaged file) bytes tables 0 (mended_in file t) (visited-ascends file t t.count 0) mended

-- ---- a file whose walk reaches the end is copied as it is

module _ (file : List ℕ) where
  none-changed : (walk_in file (tables_at file)).cause ≡ Ok tt → changes file ≡ []
  none-changed h = walk-unchanged file (tables_at file) h

  none-set : changes file ≡ [] → salvaged file ≡ file
  unfolding salvaged put_all
  none-set h = rw h refl

  cause-of : (w : WalkEnd) → walk_of file ≡ Ok w → walk_in file (tables_at file) ≡ w
  unfolding walk_of
  cause-of w e = by-open (open_of file).verdict e
    where
      by-open : (v : Verdict) → by_verdict v (Ok (walk_in file (tables_at file))) Err ≡ Ok w → walk_in file (tables_at file) ≡ w
      by-open (Ok tt) k = cc
      by-open (Err x) k = absurd (let z : ◌≡◌ {A = ℕ} 0 1 = cc in omega arith)

  module _ (w : WalkEnd) (e : walk_of file ≡ Ok w) (h : w.cause ≡ Ok tt) where
    pub walked-unchanged : changes file ≡ []
    walked-unchanged = none-changed (ap (λ (x : WalkEnd). x.cause) (cause-of w e) ∙ h)

    pub walked-copied : salvaged file ≡ file
    walked-copied = none-set walked-unchanged

-- ---- so salvaging the copy changes nothing and reports nothing

module _ (file : List ℕ) (accepted : salvageable file ≡ Ok tt) where
  copy-unchanged : changes (salvaged file) ≡ []
  copy-unchanged = walked-unchanged (salvaged file) (reached file accepted) (salvaged-walks file accepted) refl

  pub salvaged-again : salvaged (salvaged file) ≡ salvaged file
  salvaged-again = walked-copied (salvaged file) (reached file accepted) (salvaged-walks file accepted) refl

  pub salvaged-reports : report_bytes (changes (salvaged file)) ≡ []
  unfolding report_bytes
  salvaged-reports = rw copy-unchanged refl

  -- it is accepted too, and counts none
  pub salvaged-accepted : salvageable (salvaged file) ≡ Ok tt
  unfolding salvageable
  salvaged-accepted = rw (salvaged-opens file accepted) (unfold salvageable in accepted)

  pub salvaged-counts : count_answer (salvaged file) ≡ Ok 0
  unfolding count_answer
  salvaged-counts = rw (salvaged-accepted) (ap (λ (cs : List Change). Ok (length cs)) copy-unchanged)

-- ---- the report buffer behind the rows is untouched, and all of both buffers where salvaging is refused

put_rest : (vs bs : List ℕ) (k : ℕ) → length vs ≤ k → get_or (put_bytes 0 vs bs) k 0 ≡ get_or bs k 0
unfolding put_bytes
put_rest vs bs k h = sets-outside bs 0 k vs 0 (inr (omega arith))

pub report-rest : (file : List ℕ) (copy : ℕ) (report : List ℕ) (k : ℕ) → 8 * salvage_count file ≤ k → get_or (report_after file copy report) k 0 ≡ get_or report k 0
unfolding report_after
report-rest file copy report k h =
    let l = length-report (changes file) in
    by-verdict (λ bs. get_or bs k 0 ≡ get_or report k 0) (salvage_check file copy (length report)) (λ _. put_rest (report_bytes (changes file)) report k (omega arith)) (λ x. refl)
