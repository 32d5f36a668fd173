-- Laws of the line table of a text section. Assumes nothing.
use Prim.Native.Nat.{ℕ, ◌+◌, ◌-◌, ◌*◌, ◌≤◌, ◌<◌}
use mathlib.Core.Path.{◌≡◌, refl, sym, ◌∙◌}
use mathlib.Core.Bool.{Bool, true}
use mathlib.Core.List.{List}
use borrow.Author.Tests.{eq-eqb, ne_eqb}
use lib.ListN.{length, get_or}
use Rattle.section_kind.specs.declared.SectionKind.TheVariants.{Text}
use Rattle.section_kind.specs.Kind.{flags_of}
use Rattle.format.specs.declared.Format.{Format}
use Rattle.format.specs.declared.SectionNumber.{SectionNumber}
use Rattle.format.specs.Limit.{section_limit}
use Rattle.refusal.specs.declared.IndexItem.TheVariants.{NoSection}
use Rattle.refusal.specs.declared.Refusal.{Refusal}
use Rattle.refusal.specs.declared.Refusal.TheVariants.{Index}
use Rattle.refusal.specs.Order.{by_verdict}
use Rattle.refusal.specs.Refusal.{is_refused}
use Rattle.refusal.proofs.Order.{told, stop, accepted-first}
use Rattle.file_tables.specs.Tables.{blank_section}
use Rattle.header.specs.declared.Opened.{Opened}
use Rattle.header.specs.declared.Summary.{Summary}
use Rattle.header.specs.Open.{open_of}
use Rattle.header.proofs.Accepted.{opened_inside}
use Rattle.section_lookup.specs.Lookup.{number_check}
use Rattle.section_lookup.proofs.Lookup.{number-known}
use Rattle.table_kind.specs.declared.TableKind.TheVariants.{Lines}
use Rattle.section_tables.specs.Tables as tables
use Rattle.section_tables.proofs.Tables as tables-laws
use Rattle.line.specs.Line.{line_length}
use Rattle.line_lookup.specs.declared.LineTable.{LineTable}
use Rattle.line_lookup.specs.Lookup.{text_check, with_format, line_table_in, line_table_at, find_in, line_at}
use Rattle.std.specs.Prelude.{Err, Ok, Result}
use Rattle.section_tables.specs.declared.SectionTable.{SectionTable}
use Rattle.line.specs.declared.LineFound.{LineFound}
use Rattle.refusal.specs.Verdict.{Verdict}

-- a text section is one that the file has
pub text-known : (y : Summary) (n : SectionNumber) → text_check y n ≡ Ok tt → (0 < n.0) × (n.0 ≤ y.count)
unfolding text_check
text-known y n e = number-known y.count n (accepted-first (number_check y.count n) _ e)

-- the answers of the check of a text section
module _ (y : Summary) (n : SectionNumber) where
  abbrev kind_flags : ℕ
  kind_flags = flags_of (get_or y.sections (n.0 - 1) blank_section).kind

  pub number-refused : {v : Verdict} {b : Bool} → v ≡ number_check y.count n → b ≡ is_refused v → b ≡ true → v ≡ text_check y n
  unfolding text_check
  number-refused e q t = e ∙ sym (stop (number_check y.count n) _ (told e q t))

  module _ (e : number_check y.count n ≡ Ok tt) {k : ℕ} (q : k ≡ kind_flags) where
    pub is-text : k ≡ flags_of Text → (Ok tt) ≡ text_check y n
    unfolding text_check
    is-text t = rw (e, ← q, eq-eqb k (flags_of Text) t) refl

    pub not-text : (k ≡ flags_of Text → ⊥) → Err (Index (NoSection n)) ≡ text_check y n
    unfolding text_check
    not-text t = rw (e, ← q, ne_eqb k (flags_of Text) t) refl

-- ---- a table that is found lies in the file

abbrev Within : ℕ → Result LineTable Refusal → Type 0
Within len (Ok t) = t.start.0 + t.count * line_length t.format ≤ len
Within len (Err x) = Unit {0}

format-within : (f : Format) (len : ℕ) (a : Result SectionTable Refusal) → tables.Within Lines f len a → Within len (with_format f a)
format-within f len (Ok t) h = h
format-within f len (Err x) h = tt

in_within : (len : ℕ) (y : Summary) (n : SectionNumber) → Within len (line_table_in len y n)
unfolding line_table_in
in_within len y n = by (text_check y n)
  where
    by : (v : Verdict) → Within len (by_verdict v (with_format y.format (tables.table_of Lines y len n)) Err)
    by (Ok tt) = format-within y.format len (tables.table_of Lines y len n) (tables-laws.table-within Lines y len n)
    by (Err x) = tt

pub table-within : (file : List ℕ) (n : SectionNumber) {t : LineTable} → line_table_at file n ≡ Ok t → t.start.0 + t.count * line_length t.format ≤ length file
unfolding line_table_at
table-within file n e = rw e at (by (open_of file).verdict)
  where
    by : (v : Verdict) → Within (length file) (by_verdict v (line_table_in (length file) (open_of file).summary n) Err)
    by (Ok tt) = in_within (length file) (open_of file).summary n
    by (Err x) = tt

-- ---- the answers by the verdict of opening, and by the table

pub opened-few : (file : List ℕ) {o : Opened} → o ≡ open_of file → o.verdict ≡ Ok tt → o.summary.count ≤ section_limit
opened-few file q e = rw q (opened_inside file (rw q at e)).few

pub open-refused : (file : List ℕ) (n : SectionNumber) {o : Opened} (x : Refusal) → o ≡ open_of file → o.verdict ≡ Err x → Err x ≡ line_table_at file n
unfolding line_table_at
open-refused file n x q e = rw (← q, e)

pub open-accepted : (file : List ℕ) (n : SectionNumber) {o : Opened} {a : Result LineTable Refusal} → o ≡ open_of file → o.verdict ≡ Ok tt → a ≡ line_table_in (length file) o.summary n → a ≡ line_table_at file n
unfolding line_table_at
open-accepted file n q e h = rw (← q, e) h

pub line_refused : (file : List ℕ) (n : SectionNumber) (address : ℕ) {a : Result LineTable Refusal} (x : Refusal) → a ≡ line_table_at file n → a ≡ Err x → Err x ≡ line_at file n address
unfolding line_at
line_refused file n address x q e = rw (← q, e)

pub line-found : (file : List ℕ) (n : SectionNumber) (address : ℕ) {a : Result LineTable Refusal} {t : LineTable} {r : Result LineFound Refusal} → a ≡ line_table_at file n → a ≡ Ok t → r ≡ find_in file address (Ok t) → r ≡ line_at file n address
unfolding line_at
line-found file n address q e h = rw (← q, e) h
