-- Each change sets its field to another number than the file has there. Assumes nothing.
use mathlib.Core.Path.{◌≡◌, refl, sym, ◌∙◌, ap}
use mathlib.Core.Bool.{Bool, true, false, not, cond}
use mathlib.Core.List.{List, [], ◌∷◌, ◌++◌}
use Prim.Native.Nat.{ℕ, suc, ◌+◌, ◌%◌, ◌≤◌, ◌<◌}
use native.Mathlib.Nat.{mod-eq_of_lt}
use native.Mathlib.Omega.{arith}
use lib.ListN.{length}
use lib.Dec.{ltb, eqb, lit≤}
use borrow.Author.Tests.{ltb-true, le-leb}
use Rattle.word.specs.Number.{field_in}
use Rattle.word.specs.Test.{past}
use Rattle.word.proofs.Test.{and_second}
use Rattle.update.specs.Update.{Bytes}
use Rattle.update.proofs.Laws.{field_lt}
use Rattle.format.specs.declared.Format.{Format}
use Rattle.format.specs.declared.Format.TheVariants.{Xcoff32, Xcoff64}
use Rattle.format.specs.declared.NameField.TheVariants.{Short, Offset}
use Rattle.format.specs.declared.SymbolIndex.{SymbolIndex}
use Rattle.format.specs.declared.SymbolLayout.{SymbolLayout}
use Rattle.format.specs.Layout.{symbol_layout, symbol_length, zeroes_field}
use Rattle.format.specs.Name.{name_field}
use Rattle.format.proofs.Layouts.{symbol-inside}
use Rattle.refusal.specs.Refusal.{is_refused}
use Rattle.refusal.specs.Order.{by_verdict}
use Rattle.visibility.specs.Visibility.{is_claimed, visibility_bits, is_unknown}
use Rattle.symbol.specs.declared.Tables.{Tables}
use Rattle.symbol.specs.declared.SymbolEntry.{SymbolEntry}
use Rattle.symbol.specs.Entry.{OpenTables, entry_start, entry_at, entry_of}
use Rattle.symbol.specs.Name.{room_by}
use Rattle.symbol.specs.Symbol.{is_section, aux_check, scnum_check, name_check, visibility_check, verdict_of}
use Rattle.symbol.proofs.Opened.{entry_whole}
use Rattle.symbol.proofs.Sections.{section-positive}
use Rattle.frame.specs.Same.{Same}
use Rattle.frame.proofs.Same.{same-field}
use Rattle.mend.specs.Mend.{Mend, Change, whole, aux_left, without_visibility, mends_of, change_of, changes_by, changes_at, put_all}
use Rattle.mend.proofs.Fields.{field-after}
use Rattle.mend.proofs.Judged.{aux-refused, scnum-refused, visibility-refused}
use Rattle.salvage.specs.Salvage.{changes_of}
use Rattle.salvaged.specs.Claim.{EachSets}
use Rattle.salvaged.proofs.Places.{Mended, Ascending}
use Rattle.std.specs.Prelude.{Err, Ok}
use Rattle.refusal.specs.Verdict.{Verdict}

never : {A : Type 0} → true ≡ false → A
never e = absurd (let y : ◌≡◌ {A = ℕ} 0 1 = cc in omega arith)

-- ---- each mend whose check refuses sets its field

module _ (file copy : List ℕ) (t : Tables) (i : SymbolIndex) where
  -- what a mend sets
  abbrev MendSets : Mend → Type 0
  MendSets m = (field_in m.place (entry_start t i.0) file ≡ m.value → ⊥) × (field_in m.place (entry_start t i.0) copy ≡ m.value)

  abbrev AllSet : List Mend → Type 0
  AllSet [] = Unit {0}
  AllSet (m ∷ ms) = (is_refused m.verdict ≡ true → MendSets m) × AllSet ms

  each_set : (ms : List Mend) → AllSet ms → EachSets t file copy (changes_by i ms)
  unfolding changes_by
  each_set [] h = tt
  each_set (m ∷ ms) h = by-case (each_set ms h.1) m.verdict h.0
    where
      by-case : EachSets t file copy (changes_by i ms) → (v : Verdict) → (is_refused v ≡ true → MendSets m) → EachSets t file copy (by_verdict v (changes_by i ms) (λ x. change_of i m x ∷ changes_by i ms))
      by-case rest (Ok tt) k = rest
      by-case rest (Err x) k = (k refl, rest)

-- ---- what the four fields hold after an entry's changes

module _ (file : List ℕ) (t : Tables) (i : SymbolIndex) (n : entry_start t i.0 + symbol_length ≤ length file) (e : SymbolEntry) where
  abbrev base : ℕ
  base = entry_start t i.0

  abbrev now : Format → List ℕ
  now f = put_all t (changes_by i (mends_of (symbol_layout f) file t i e)) file

  aux-after : (f : Format) → field_in (symbol_layout f).numaux base (now f) ≡ cond (is_refused (aux_check t.count i e)) (aux_left t i % 256) (field_in (symbol_layout f).numaux base file)
  aux-after Xcoff32 = field-after t i (mends_of (symbol_layout Xcoff32) file t i e) (symbol_layout Xcoff32).numaux file refl (omega arith)
  aux-after Xcoff64 = field-after t i (mends_of (symbol_layout Xcoff64) file t i e) (symbol_layout Xcoff64).numaux file refl (omega arith)

  scnum-after : (f : Format) → field_in (symbol_layout f).scnum base (now f) ≡ cond (is_refused (scnum_check t.nscns i e)) 0 (field_in (symbol_layout f).scnum base file)
  scnum-after Xcoff32 = field-after t i (mends_of (symbol_layout Xcoff32) file t i e) (symbol_layout Xcoff32).scnum file refl (omega arith)
  scnum-after Xcoff64 = field-after t i (mends_of (symbol_layout Xcoff64) file t i e) (symbol_layout Xcoff64).scnum file refl (omega arith)

  name-after : (f : Format) → field_in (symbol_layout f).offset base (now f) ≡ cond (is_refused (name_check file t i e)) 0 (field_in (symbol_layout f).offset base file)
  name-after Xcoff32 = field-after t i (mends_of (symbol_layout Xcoff32) file t i e) (symbol_layout Xcoff32).offset file refl (omega arith)
  name-after Xcoff64 = field-after t i (mends_of (symbol_layout Xcoff64) file t i e) (symbol_layout Xcoff64).offset file refl (omega arith)

  type-after : (f : Format) → field_in (symbol_layout f).ntype base (now f) ≡ cond (is_refused (visibility_check t.version2 i e)) (without_visibility e.ntype % 0x10000) (field_in (symbol_layout f).ntype base file)
  type-after Xcoff32 = field-after t i (mends_of (symbol_layout Xcoff32) file t i e) (symbol_layout Xcoff32).ntype file refl (omega arith)
  type-after Xcoff64 = field-after t i (mends_of (symbol_layout Xcoff64) file t i e) (symbol_layout Xcoff64).ntype file refl (omega arith)

-- ---- an offset 0 is not refused; auxiliaries are one byte, and a type is two

module _ (file : List ℕ) (t : Tables) (i : SymbolIndex) where
  abbrev start : ℕ
  start = entry_start t i.0

  zero-name : (f : Format) (sclass : ℕ) → field_in (symbol_layout f).offset start file ≡ 0 → is_refused (verdict_of (room_by file t i sclass (name_field f start file))) ≡ false
  unfolding name_field room_by
  zero-name Xcoff32 sclass z = rw z (by_word (eqb (field_in zeroes_field start file) 0))
    where
      by_word : (w : Bool) → is_refused (verdict_of (room_by file t i sclass (cond w (Offset 0) Short))) ≡ false
      by_word true = unfold room_by in refl
      by_word false = unfold room_by in refl
  zero-name Xcoff64 sclass z = rw z refl

  aux-byte : (f : Format) → Bytes file → start + symbol_length ≤ length file → field_in (symbol_layout f).numaux start file < 256
  aux-byte Xcoff32 b n = field_lt 1 (start + 17) file b (omega arith)
  aux-byte Xcoff64 b n = field_lt 1 (start + 17) file b (omega arith)

  type-small : (f : Format) → Bytes file → start + symbol_length ≤ length file → field_in (symbol_layout f).ntype start file < 0x10000
  type-small Xcoff32 b n = field_lt 2 (start + 14) file b (omega arith)
  type-small Xcoff64 b n = field_lt 2 (start + 14) file b (omega arith)

-- a visibility of 5 to 7 is not none
unknown-bits : (version2 : Bool) (sclass ntype : ℕ) → is_unknown version2 sclass ntype ≡ true → 4 < visibility_bits ntype
unfolding is_unknown
unknown-bits version2 sclass ntype e = ltb-true 4 (visibility_bits ntype) (and_second (is_claimed version2 sclass) (ltb 4 (visibility_bits ntype)) e)

without-less : (n : ℕ) → 4 < visibility_bits n → without_visibility n < n
unfolding without_visibility
without-less n h = omega arith

module _ (file copy : List ℕ) (t : Tables) (i : SymbolIndex) (b : Bytes file) (h : i.0 < t.count) (n : entry_start t i.0 + symbol_length ≤ length file) (f : Format) where
  abbrev l : SymbolLayout
  l = symbol_layout f

  abbrev at : ℕ
  at = entry_start t i.0

  abbrev e : SymbolEntry
  e = entry_at f at file

  module _ (s : Same at symbol_length copy (now file t i n e f)) where
    aux-set : is_refused (aux_check t.count i e) ≡ true → MendSets file copy t i (whole (aux_check t.count i e) l.numaux (aux_left t i))
    unfolding entry_at past
    aux-set q =
        let v : ℕ = aux_left t i in
        let over = ltb-true t.count (i.0 + 1 + field_in l.numaux at file) (sym (aux-refused file t i e) ∙ q) in
        let small = aux-byte file t i f b n in (
          λ z. absurd (omega arith),
          same-field l.numaux (symbol-inside f 0 symbol_length refl (omega arith)).numaux s ∙ aux-after file t i n e f ∙ ap (λ (c : Bool). cond c (v % 256) (field_in l.numaux at file)) q ∙ mod-eq_of_lt (omega arith),
        )

    scnum-set : is_refused (scnum_check t.nscns i e) ≡ true → MendSets file copy t i (whole (scnum_check t.nscns i e) l.scnum 0)
    unfolding entry_at
    scnum-set q =
        let bad : not (is_section t.nscns (field_in l.scnum at file)) ≡ true = sym (scnum-refused file t i e) ∙ q in
        let good : is_section t.nscns 0 ≡ true = sym (section-positive t.nscns 0 (lit≤ tt)) ∙ le-leb 0 t.nscns (omega arith) in (
          λ z. never (sym bad ∙ ap (λ (x : ℕ). not (is_section t.nscns x)) z ∙ ap not good),
          same-field l.scnum (symbol-inside f 0 symbol_length refl (omega arith)).scnum s ∙ scnum-after file t i n e f ∙ ap (λ (c : Bool). cond c 0 (field_in l.scnum at file)) q,
        )

    name_set : is_refused (name_check file t i e) ≡ true → MendSets file copy t i (whole (name_check file t i e) l.offset 0)
    unfolding entry_at name_check
    name_set q = (
      λ z. never (sym q ∙ zero-name file t i f (field_in l.sclass at file) z),
      same-field l.offset (symbol-inside f 0 symbol_length refl (omega arith)).offset s ∙ name-after file t i n e f ∙ ap (λ (c : Bool). cond c 0 (field_in l.offset at file)) q,
    )

    type-set : is_refused (visibility_check t.version2 i e) ≡ true → MendSets file copy t i (record { verdict = visibility_check t.version2 i e; place = l.ntype; low = 12; high = 15; value = without_visibility e.ntype })
    unfolding entry_at
    type-set q =
        let unknown : is_unknown t.version2 (field_in l.sclass at file) (field_in l.ntype at file) ≡ true = sym (visibility-refused file t i e) ∙ q in
        let big : 4 < visibility_bits (field_in l.ntype at file) = unknown-bits t.version2 (field_in l.sclass at file) (field_in l.ntype at file) unknown in
        let less = without-less (field_in l.ntype at file) big in
        let small = type-small file t i f b n in (
          λ z. absurd (omega arith),
          same-field l.ntype (symbol-inside f 0 symbol_length refl (omega arith)).ntype s ∙ type-after file t i n e f ∙ ap (λ (c : Bool). cond c (without_visibility (field_in l.ntype at file) % 0x10000) (field_in l.ntype at file)) q ∙ mod-eq_of_lt (omega arith),
        )

    entry-sets : EachSets t file copy (changes_by i (mends_of l file t i e))
    entry-sets = each_set file copy t i (mends_of l file t i e) (aux-set, (scnum-set, (name_set, (type-set, tt))))

-- ---- of all entries

sets-append : (t : Tables) (file copy : List ℕ) (cs ds : List Change) → EachSets t file copy cs → EachSets t file copy ds → EachSets t file copy (cs ++ ds)
sets-append t file copy [] ds h g = g
sets-append t file copy (c ∷ cs) ds h g = (h.0, sets-append t file copy cs ds h.1 g)

pub changes-set : (t : Tables) (file copy : List ℕ) → Bytes file → OpenTables file t → (lo : ℕ) (is : List SymbolIndex) → Ascending file t lo is → Mended file t copy is → EachSets t file copy (changes_of file t is)
unfolding changes_of changes_at entry_of
changes-set t file copy b o lo [] a m = tt
changes-set t file copy b o lo (i ∷ is) a m =
    sets-append t file copy (changes_at file t i) (changes_of file t is)
    (entry-sets file copy t i b a.0.1 (entry_whole file t i.0 o a.0.1) t.format m.0)
    (changes-set t file copy b o (suc i.0) is a.1 m.1)
