-- What the code does with an entry is its changes. Assumes nothing.
use mathlib.Core.Path.{◌≡◌, refl, sym, ◌∙◌, ap}
use mathlib.Core.Bool.{Bool, true, false, not}
use mathlib.Core.List.{List, [], ◌∷◌, ◌++◌, append_assoc, append-nil}
use Prim.Native.Nat.{ℕ, ◌+◌, ◌*◌}
use native.Mathlib.Omega.{arith}
use lib.ListN.{length, length-append}
use Rattle.word.specs.Test.{past}
use Rattle.format.specs.declared.SymbolIndex.{SymbolIndex}
use Rattle.format.specs.declared.SymbolLayout.{SymbolLayout}
use Rattle.format.specs.Layout.{symbol_layout}
use Rattle.refusal.specs.declared.Refusal.{Refusal}
use Rattle.refusal.specs.declared.Refusal.TheVariants.{Aux, Scnum, Name, Visibility}
use Rattle.refusal.specs.Order.{refuse_if, by_verdict}
use Rattle.refusal.specs.Refusal.{number_of, is_refused, one_if}
use Rattle.visibility.specs.Visibility.{is_unknown}
use Rattle.symbol.specs.declared.Tables.{Tables}
use Rattle.symbol.specs.declared.SymbolEntry.{SymbolEntry}
use Rattle.symbol.specs.Entry.{OpenTables, entry_start, entry_of}
use Rattle.symbol.specs.Name.{has_name}
use Rattle.symbol.specs.Symbol.{is_section, aux_check, scnum_check, name_check, visibility_check}
use Rattle.symbol.proofs.Names.{name-judged}
use Rattle.mend.specs.Mend.{Mend, Change, whole, aux_left, without_visibility, mends_of, change_of, changes_by, changes_at, put, put_all}
use Rattle.mend.specs.Report.{row_bytes, report_bytes}
use Rattle.mend.specs.Entry.{refusals_of, put_if, mend_by, row_if, rows_by, refused_in}
use Rattle.mend.proofs.Rows.{length-row}
use Rattle.std.specs.Prelude.{Err, Ok}
use Rattle.refusal.specs.Verdict.{Verdict}

-- ---- lists of changes

pub put-append : (t : Tables) (cs ds : List Change) (bs : List ℕ) → put_all t (cs ++ ds) bs ≡ put_all t ds (put_all t cs bs)
unfolding put_all
put-append t [] ds bs = refl
put-append t (c ∷ cs) ds bs = put-append t cs ds (put t c bs)

pub report-append : (cs ds : List Change) → report_bytes (cs ++ ds) ≡ report_bytes cs ++ report_bytes ds
unfolding report_bytes
report-append [] ds = refl
report-append (c ∷ cs) ds =
    let row = row_bytes c.index.0 (number_of c.refusal) in
    ap (λ (bs : List ℕ). row ++ bs) (report-append cs ds) ∙ sym (append_assoc row (report_bytes cs) (report_bytes ds))

pub length-report : (cs : List Change) → length (report_bytes cs) ≡ 8 * length cs
unfolding report_bytes
length-report [] = omega arith
length-report (c ∷ cs) =
    let row = row_bytes c.index.0 (number_of c.refusal) in
    let a = length-append row (report_bytes cs) in
    let b = length-row c.index.0 (number_of c.refusal) in
    let d = length-report cs in
    omega arith

-- ---- one check

module _ (t : Tables) (i : SymbolIndex) (m : Mend) (ms : List Mend) where
  check-put : (bs : List ℕ) → put_all t (changes_by i (m ∷ ms)) bs ≡ put_all t (changes_by i ms) (put_if (is_refused m.verdict) (entry_start t i.0) m.place m.value bs)
  unfolding changes_by
  check-put bs = by-case m.verdict
    where
      by-case : (v : Verdict) → put_all t (by_verdict v (changes_by i ms) (λ x. change_of i m x ∷ changes_by i ms)) bs ≡ put_all t (changes_by i ms) (put_if (is_refused v) (entry_start t i.0) m.place m.value bs)
      by-case (Err x) = unfold put_all put put_if in refl
      by-case (Ok tt) = unfold put_if in refl

  check-counted : length (changes_by i (m ∷ ms)) ≡ one_if (is_refused m.verdict) + length (changes_by i ms)
  unfolding changes_by
  check-counted = by-case m.verdict
    where
      by-case : (v : Verdict) → length (by_verdict v (changes_by i ms) (λ x. change_of i m x ∷ changes_by i ms)) ≡ one_if (is_refused v) + length (changes_by i ms)
      by-case (Err x) = omega arith
      by-case (Ok tt) = omega arith

  check-reported : (b : Bool) (x : Refusal) → m.verdict ≡ refuse_if b x → report_bytes (changes_by i (m ∷ ms)) ≡ row_if (is_refused m.verdict) i x ++ report_bytes (changes_by i ms)
  unfolding changes_by
  check-reported b x e = by-case b m.verdict e
    where
      by-case : (b : Bool) (v : Verdict) → v ≡ refuse_if b x → report_bytes (by_verdict v (changes_by i ms) (λ x. change_of i m x ∷ changes_by i ms)) ≡ row_if (is_refused v) i x ++ report_bytes (changes_by i ms)
      by-case true v q = rw q (unfold report_bytes row_if in refl)
      by-case false v q = rw q (unfold row_if in refl)

-- ---- the four checks of an entry

module _ (file : List ℕ) (t : Tables) (i : SymbolIndex) (e : SymbolEntry) where
  abbrev l : SymbolLayout
  l = symbol_layout t.format

  abbrev ms : List Mend
  ms = mends_of l file t i e

  mend-by : (bs : List ℕ) → mend_by t i e (refusals_of file t i e) bs ≡ put_all t (changes_by i ms) bs
  unfolding mend_by refusals_of
  mend-by bs = sym (four bs)
    where
      none : {xs : List ℕ} → put_all t (changes_by i []) xs ≡ xs
      none = unfold changes_by put_all in refl

      four : (bs : List ℕ) → put_all t (changes_by i ms) bs
          ≡ put_if (is_refused (visibility_check t.version2 i e)) (entry_start t i.0) l.ntype (without_visibility e.ntype)
          (put_if (is_refused (name_check file t i e)) (entry_start t i.0) l.offset 0
          (put_if (is_refused (scnum_check t.nscns i e)) (entry_start t i.0) l.scnum 0
          (put_if (is_refused (aux_check t.count i e)) (entry_start t i.0) l.numaux (aux_left t i) bs)))
      four bs = check-put t i _ _ bs ∙ check-put t i _ _ _ ∙ check-put t i _ _ _ ∙ check-put t i _ _ _ ∙ none

  abbrev visibility_mend : Mend
  visibility_mend = record { verdict = visibility_check t.version2 i e; place = l.ntype; low = 12; high = 15; value = without_visibility e.ntype }

  abbrev name_mends : List Mend
  name_mends = whole (name_check file t i e) l.offset 0 ∷ visibility_mend ∷ []

  abbrev scnum_mends : List Mend
  scnum_mends = whole (scnum_check t.nscns i e) l.scnum 0 ∷ name_mends

  counted-by : refused_in (refusals_of file t i e) ≡ length (changes_by i ms)
  unfolding refused_in refusals_of
  counted-by =
      let none : length (changes_by i []) ≡ 0 = unfold changes_by in refl in
      let d = check-counted t i visibility_mend [] in
      let c = check-counted t i (whole (name_check file t i e) l.offset 0) (visibility_mend ∷ []) in
      let b = check-counted t i (whole (scnum_check t.nscns i e) l.scnum 0) name_mends in
      let a = check-counted t i (whole (aux_check t.count i e) l.numaux (aux_left t i)) scnum_mends in
      omega arith

  module _ (o : OpenTables file t) where
    reported-by : rows_by i (refusals_of file t i e) ≡ report_bytes (changes_by i ms)
    unfolding rows_by refusals_of
    reported-by =
        sym (check-reported t i (whole (aux_check t.count i e) l.numaux (aux_left t i)) scnum_mends (past (i.0 + 1) e.numaux t.count) (Aux i) aux-is
        ∙ ap (λ (bs : List ℕ). row_if (is_refused (aux_check t.count i e)) i (Aux i) ++ bs)
        (check-reported t i (whole (scnum_check t.nscns i e) l.scnum 0) name_mends (not (is_section t.nscns e.scnum)) (Scnum i) scnum-is
        ∙ ap (λ (bs : List ℕ). row_if (is_refused (scnum_check t.nscns i e)) i (Scnum i) ++ bs)
        (check-reported t i (whole (name_check file t i e) l.offset 0) (visibility_mend ∷ []) (not (has_name file t e.sclass e.name)) (Name i) (name-judged file t i e o)
        ∙ ap (λ (bs : List ℕ). row_if (is_refused (name_check file t i e)) i (Name i) ++ bs)
        (check-reported t i visibility_mend [] (is_unknown t.version2 e.sclass e.ntype) (Visibility i) visibility-is
        ∙ ap (λ (bs : List ℕ). row_if (is_refused (visibility_check t.version2 i e)) i (Visibility i) ++ bs) none
        ∙ append-nil (row_if (is_refused (visibility_check t.version2 i e)) i (Visibility i))))))
      where
        aux-is : aux_check t.count i e ≡ refuse_if (past (i.0 + 1) e.numaux t.count) (Aux i)
        aux-is = unfold aux_check in refl

        scnum-is : scnum_check t.nscns i e ≡ refuse_if (not (is_section t.nscns e.scnum)) (Scnum i)
        scnum-is = unfold scnum_check in refl

        visibility-is : visibility_check t.version2 i e ≡ refuse_if (is_unknown t.version2 e.sclass e.ntype) (Visibility i)
        visibility-is = unfold visibility_check in refl

        none : report_bytes (changes_by i []) ≡ []
        none = unfold changes_by report_bytes in refl

-- ---- of an entry of the table

module _ (file : List ℕ) (t : Tables) (i : SymbolIndex) where
  pub mend-changes : (bs : List ℕ) → mend_by t i (entry_of file t i) (refusals_of file t i (entry_of file t i)) bs ≡ put_all t (changes_at file t i) bs
  unfolding changes_at
  mend-changes bs = mend-by file t i (entry_of file t i) bs

  pub report-changes : OpenTables file t → rows_by i (refusals_of file t i (entry_of file t i)) ≡ report_bytes (changes_at file t i)
  unfolding changes_at
  report-changes o = reported-by file t i (entry_of file t i) o

  pub count-changes : refused_in (refusals_of file t i (entry_of file t i)) ≡ length (changes_at file t i)
  unfolding changes_at
  count-changes = counted-by file t i (entry_of file t i)
