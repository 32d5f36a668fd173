-- One entry as the code takes it: which checks refuse it, and what is done for those. Serves the contracts of `mend` alone.
use Rattle.std.specs.Prelude.{ℕ, ◌+◌, ◌%◌, Bool, cond, List, [], ◌++◌}
use Rattle.word.specs.declared.Field.{Field}
use Rattle.word.specs.Number.{bytes_in}
use Rattle.format.specs.declared.SymbolIndex.{SymbolIndex}
use Rattle.format.specs.Layout.{symbol_layout}
use Rattle.refusal.specs.declared.Refusal.{Refusal}
use Rattle.refusal.specs.declared.Refusal.TheVariants.{Aux, Scnum, Name, Visibility}
use Rattle.refusal.specs.Refusal.{number_of, is_refused, one_if}
use Rattle.update.specs.Update.{put_field}
use Rattle.symbol.specs.declared.Tables.{Tables}
use Rattle.symbol.specs.declared.SymbolEntry.{SymbolEntry}
use Rattle.symbol.specs.Entry.{entry_start}
use Rattle.symbol.specs.Symbol.{aux_check, scnum_check, name_check, visibility_check}
use Rattle.mend.specs.declared.EntryRefusals.{EntryRefusals}
use Rattle.mend.specs.Mend.{aux_left, without_visibility}
use Rattle.mend.specs.Report.{row_bytes}

unfoldable pub refusals_of : List ℕ → Tables → SymbolIndex → SymbolEntry → EntryRefusals
refusals_of file t i e =
    record {
      aux = is_refused (aux_check t.count i e);
      scnum = is_refused (scnum_check t.nscns i e);
      name = is_refused (name_check file t i e);
      visibility = is_refused (visibility_check t.version2 i e);
    }

-- the field f of what starts at base set to v, where the test holds
unfoldable pub put_if : Bool → ℕ → Field → ℕ → List ℕ → List ℕ
put_if b base f v bs = cond b (put_field (bytes_in f.width) (base + f.offset) v bs) bs

-- the entry's fields set in the order of its checks
unfoldable pub mend_by : Tables → SymbolIndex → SymbolEntry → EntryRefusals → List ℕ → List ℕ
mend_by t i e r bs =
    let l = symbol_layout t.format in
    let base = entry_start t i.0 in
    put_if r.visibility base l.ntype (without_visibility e.ntype)
    (put_if r.name base l.offset 0
    (put_if r.scnum base l.scnum 0
    (put_if r.aux base l.numaux (aux_left t i) bs)))

-- the auxiliaries as mended
unfoldable pub mended_aux : EntryRefusals → ℕ → ℕ → ℕ
mended_aux r left numaux = cond r.aux (left % 256) numaux

-- a row of the report, where the test holds
unfoldable pub row_if : Bool → SymbolIndex → Refusal → List ℕ
row_if b i x = cond b (row_bytes i.0 (number_of x)) []

unfoldable pub rows_by : SymbolIndex → EntryRefusals → List ℕ
rows_by i r = row_if r.aux i (Aux i) ++ (row_if r.scnum i (Scnum i) ++ (row_if r.name i (Name i) ++ row_if r.visibility i (Visibility i)))

-- how many checks refuse
unfoldable pub refused_in : EntryRefusals → ℕ
refused_in r = one_if r.aux + one_if r.scnum + one_if r.name + one_if r.visibility
