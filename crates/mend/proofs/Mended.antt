-- An entry as mended, field by field. Assumes nothing.
use mathlib.Core.Path.{◌≡◌, refl, ap}
use mathlib.Core.Bool.{Bool, true, false, cond}
use mathlib.Core.List.{List}
use Prim.Native.Nat.{ℕ, ◌+◌, ◌%◌, ◌≤◌, ◌<◌}
use native.Mathlib.Omega.{arith}
use lib.Dec.{eqb}
use lib.ListN.{length}
use Rattle.word.specs.Number.{field_in}
use Rattle.word.specs.Test.{past}
use Rattle.word.proofs.Test.{past-not}
use Rattle.format.specs.declared.Format.{Format}
use Rattle.format.specs.declared.Format.TheVariants.{Xcoff32, Xcoff64}
use Rattle.format.specs.declared.NameField.{NameField}
use Rattle.format.specs.declared.NameField.TheVariants.{Short, Offset}
use Rattle.format.specs.declared.SymbolIndex.{SymbolIndex}
use Rattle.format.specs.Layout.{symbol_layout, symbol_length, zeroes_field}
use Rattle.format.specs.Name.{name_field}
use Rattle.refusal.specs.Refusal.{is_refused}
use Rattle.symbol.specs.declared.Tables.{Tables}
use Rattle.symbol.specs.declared.SymbolEntry.{SymbolEntry}
use Rattle.symbol.specs.Entry.{OpenTables, entry_start, entry_at, entry_of}
use Rattle.symbol.specs.Name.{room_by}
use Rattle.symbol.specs.Symbol.{aux_check, scnum_check, name_check, visibility_check, verdict_of}
use Rattle.symbol.proofs.Opened.{entry_whole}
use Rattle.mend.specs.Mend.{aux_left, without_visibility, mends_of, changes_by, changes_at, put_all, mended_entry}
use Rattle.mend.specs.Entry.{refusals_of, mended_aux}
use Rattle.mend.proofs.Fields.{field-after}
use Rattle.mend.proofs.Judged.{aux-refused}

abbrev pub mended_of : List ℕ → Tables → SymbolIndex → SymbolEntry → SymbolEntry
mended_of file t i e =
    record {
      name = cond (is_refused (name_check file t i e)) (Offset 0) e.name;
      value = e.value;
      scnum = cond (is_refused (scnum_check t.nscns i e)) 0 e.scnum;
      ntype = cond (is_refused (visibility_check t.version2 i e)) (without_visibility e.ntype % 0x10000) e.ntype;
      sclass = e.sclass;
      numaux = cond (is_refused (aux_check t.count i e)) (aux_left t i % 256) e.numaux;
    }

offset-set : (b : Bool) (o : ℕ) → Offset (cond b 0 o) ≡ cond b (Offset 0) (Offset o)
offset-set true o = refl
offset-set false o = refl

-- a short name is not refused
name_set : (r : NameField → Bool) → r Short ≡ false → (z : Bool) (o : ℕ) → cond z (Offset (cond (r (cond z (Offset o) Short)) 0 o)) Short ≡ cond (r (cond z (Offset o) Short)) (Offset 0) (cond z (Offset o) Short)
name_set r h true o = offset-set (r (Offset o)) o
name_set r h false o = rw h refl

module _ (file : List ℕ) (t : Tables) (i : SymbolIndex) (n : entry_start t i.0 + symbol_length ≤ length file) where
  abbrev base : ℕ
  base = entry_start t i.0

  entry-mended : (f : Format) → entry_at f base (put_all t (changes_by i (mends_of (symbol_layout f) file t i (entry_at f base file))) file) ≡ mended_of file t i (entry_at f base file)
  unfolding entry_at name_field name_check room_by
  entry-mended Xcoff32 =
      let l = symbol_layout Xcoff32 in
      let e = entry_at Xcoff32 base file in
      let ms = mends_of l file t i e in
      let m = mended_of file t i e in
      rw (
        field-after t i ms zeroes_field file refl (omega arith),
        field-after t i ms l.offset file refl (omega arith),
        field-after t i ms l.value file refl (omega arith),
        field-after t i ms l.scnum file refl (omega arith),
        field-after t i ms l.ntype file refl (omega arith),
        field-after t i ms l.sclass file refl (omega arith),
        field-after t i ms l.numaux file refl (omega arith),
      )
      (ap (λ (x : NameField). record { name = x; value = m.value; scnum = m.scnum; ntype = m.ntype; sclass = m.sclass; numaux = m.numaux })
      (name_set (λ n. is_refused (verdict_of (room_by file t i e.sclass n))) refl (eqb (field_in zeroes_field base file) 0) (field_in l.offset base file)))
  entry-mended Xcoff64 =
      let l = symbol_layout Xcoff64 in
      let e = entry_at Xcoff64 base file in
      let ms = mends_of l file t i e in
      let m = mended_of file t i e in
      rw (
        field-after t i ms l.offset file refl (omega arith),
        field-after t i ms l.value file refl (omega arith),
        field-after t i ms l.scnum file refl (omega arith),
        field-after t i ms l.ntype file refl (omega arith),
        field-after t i ms l.sclass file refl (omega arith),
        field-after t i ms l.numaux file refl (omega arith),
      )
      (ap (λ (x : NameField). record { name = x; value = m.value; scnum = m.scnum; ntype = m.ntype; sclass = m.sclass; numaux = m.numaux })
      (offset-set (is_refused (name_check file t i e)) (field_in l.offset base file)))

module _ (file : List ℕ) (t : Tables) (o : OpenTables file t) (i : SymbolIndex) (h : i.0 < t.count) where
  pub mended-is : mended_entry file t i ≡ mended_of file t i (entry_of file t i)
  unfolding mended_entry changes_at entry_of
  mended-is = entry-mended file t i (entry_whole file t i.0 o h) t.format

  -- its auxiliaries, as the code has them
  pub aux-is : (mended_entry file t i).numaux ≡ mended_aux (refusals_of file t i (entry_of file t i)) (aux_left t i) (entry_of file t i).numaux
  unfolding refusals_of mended_aux
  aux-is = ap (λ (e : SymbolEntry). e.numaux) mended-is

-- they stay in the table
pub aux-inside : (file : List ℕ) (t : Tables) (i : SymbolIndex) (e : SymbolEntry) → i.0 < t.count → i.0 + 1 + mended_aux (refusals_of file t i e) (aux_left t i) e.numaux ≤ t.count
unfolding refusals_of mended_aux
aux-inside file t i e h = rw (aux-refused file t i e) (by-test (past (i.0 + 1) e.numaux t.count) refl)
  where
    by-test : (b : Bool) → past (i.0 + 1) e.numaux t.count ≡ b → i.0 + 1 + cond b (aux_left t i % 256) e.numaux ≤ t.count
    by-test true q = omega arith
    by-test false q = past-not (i.0 + 1) e.numaux t.count q
