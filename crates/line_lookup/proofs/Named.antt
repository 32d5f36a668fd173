-- What the refusals of a line look-up name is there. Assumes nothing.
use Prim.Native.Nat.{ℕ, ◌-◌}
use mathlib.Core.Path.{◌≡◌, refl}
use mathlib.Core.Bool.{not, ◌||◌}
use mathlib.Core.List.{List}
use lib.Dec.{eqb, ltb}
use lib.ListN.{length, get_or}
use Rattle.section_kind.specs.declared.SectionKind.TheVariants.{Text}
use Rattle.section_kind.specs.Kind.{flags_of}
use Rattle.format.specs.declared.Format.{Format}
use Rattle.format.specs.declared.SectionNumber.{SectionNumber}
use Rattle.refusal.specs.declared.IndexItem.TheVariants.{NoSection}
use Rattle.refusal.specs.declared.Refusal.{Refusal}
use Rattle.refusal.specs.declared.Refusal.TheVariants as refusal
use Rattle.refusal.specs.Order.{by_verdict}
use Rattle.refusal.proofs.Causes.{Causes, cause-if, cause-then}
use Rattle.offset.specs.Named.{Named}
use Rattle.offset.proofs.Named.{plain-named}
use Rattle.file_tables.specs.Tables.{blank_section}
use Rattle.header.specs.declared.Summary.{Summary}
use Rattle.header.specs.Open.{open_of}
use Rattle.header.proofs.Named.{opened-named}
use Rattle.section_lookup.specs.Lookup.{number_check}
use Rattle.table_kind.specs.declared.TableKind.TheVariants.{Lines}
use Rattle.section_tables.specs.Tables.{table_of}
use Rattle.section_tables.proofs.Named.{TableCauses, table-named}
use Rattle.line.specs.declared.LineError.{LineError}
use Rattle.line.specs.declared.LineError.TheVariants.{Group, NoLine}
use Rattle.line.specs.Search.{answer_in}
use Rattle.line_lookup.specs.Lookup.{text_check, with_format, line_table_in, line_table_at, entries_in, lookup_of, find_in, line_at}
use Rattle.line_lookup.proofs.Tables.{text-known}
use Rattle.std.specs.Prelude.{Err, Ok, Result}
use Rattle.line_lookup.specs.declared.LineTable.{LineTable}
use Rattle.line.specs.declared.LineFound.{LineFound}
use Rattle.section_tables.specs.declared.SectionTable.{SectionTable}
use Rattle.refusal.specs.Verdict.{Verdict}

-- what holds of the refusal of a line table, and of a look-up
abbrev pub LineTableCauses : (Refusal → Type 0) → Result LineTable Refusal → Type 0
LineTableCauses P (Ok t) = Unit {0}
LineTableCauses P (Err x) = P x

abbrev pub LookupCauses : (Refusal → Type 0) → Result LineFound Refusal → Type 0
LookupCauses P (Ok r) = Unit {0}
LookupCauses P (Err x) = P x

format-causes : (P : Refusal → Type 0) (f : Format) (a : Result SectionTable Refusal) → TableCauses P a → LineTableCauses P (with_format f a)
format-causes P f (Ok t) h = h
format-causes P f (Err x) h = h

module _ (file : List ℕ) (n : SectionNumber) where
  index-named : Named file (refusal.Index (NoSection n))
  index-named = plain-named file (refusal.Index (NoSection n)) (λ s. refl) (λ _ e. e)

  text-named : (y : Summary) → Causes (Named file) (text_check y n)
  unfolding text_check number_check
  text-named y =
      cause-then (Named file) (number_check y.count n) _ (cause-if (Named file) (eqb n.0 0 || ltb y.count n.0) (refusal.Index (NoSection n)) (λ _. index-named))
      (λ _. cause-if (Named file) (not (eqb (flags_of (get_or y.sections (n.0 - 1) blank_section).kind) (flags_of Text))) (refusal.Index (NoSection n)) (λ _. index-named))

  in-named : (open_of file).verdict ≡ Ok tt → LineTableCauses (Named file) (line_table_in (length file) (open_of file).summary n)
  unfolding line_table_in
  in-named o = by (text_check (open_of file).summary n) refl (text-named (open_of file).summary)
    where
      by : (v : Verdict) → text_check (open_of file).summary n ≡ v → Causes (Named file) v
          → LineTableCauses (Named file) (by_verdict v (with_format (open_of file).summary.format (table_of Lines (open_of file).summary (length file) n)) Err)
      by (Ok tt) e c =
          let k = text-known (open_of file).summary n e in
          format-causes (Named file) _ (table_of Lines (open_of file).summary (length file) n) (table-named file o Lines n k.0 k.1)
      by (Err x) e c = c

  -- request 4: of the line table of a text section
  pub line-table-named : LineTableCauses (Named file) (line_table_at file n)
  unfolding line_table_at
  line-table-named = by (open_of file).verdict refl (opened-named file)
    where
      by : (v : Verdict) → (open_of file).verdict ≡ v → Causes (Named file) v → LineTableCauses (Named file) (by_verdict v (line_table_in (length file) (open_of file).summary n) Err)
      by (Ok tt) e c = in-named e
      by (Err x) e c = c

  answer-named : (x : Result LineFound LineError) → LookupCauses (Named file) (lookup_of x)
  answer-named (Err Group) = plain-named file refusal.Group (λ s. refl) (λ _ e. e)
  answer-named (Err NoLine) = plain-named file refusal.NoLine (λ s. refl) (λ _ e. e)
  answer-named (Ok r) = tt

  -- and of the entry for an address
  pub line-named : (address : ℕ) → LookupCauses (Named file) (line_at file n address)
  unfolding line_at
  line-named address = by (line_table_at file n) line-table-named
    where
      by : (a : Result LineTable Refusal) → LineTableCauses (Named file) a → LookupCauses (Named file) (find_in file address a)
      by (Ok t) c = answer-named (answer_in (entries_in file t) address t.count)
      by (Err x) c = c
