-- No check refuses an entry as mended, and where none refuses, nothing is changed. Assumes nothing.
use mathlib.Core.Path.{◌≡◌, refl, ◌∙◌, ap}
use mathlib.Core.Bool.{Bool, true, false, not, cond, ◌&&◌}
use mathlib.Core.List.{List, [], ◌∷◌}
use Prim.Native.Nat.{ℕ, ◌+◌, ◌%◌, ◌≤◌, ◌<◌}
use native.Mathlib.Omega.{arith}
use lib.Dec.{eqb, lit≤}
use borrow.Author.Tests.{le-ltb, le-leb}
use Rattle.word.specs.Test.{past}
use Rattle.word.proofs.Test.{past-no}
use Rattle.format.specs.declared.NameField.{NameField}
use Rattle.format.specs.declared.NameField.TheVariants.{Short, Offset}
use Rattle.format.specs.declared.SymbolIndex.{SymbolIndex}
use Rattle.format.specs.declared.SymbolLayout.{SymbolLayout}
use Rattle.format.specs.Range as places
use Rattle.refusal.specs.declared.Refusal.TheVariants.{Name}
use Rattle.refusal.specs.Order.{first_refusal}
use Rattle.refusal.specs.Refusal.{is_refused}
use Rattle.refusal.proofs.Order.{accepts, accepted-first, accepted-rest, all-accept}
use Rattle.debug_section.specs.Debug.{has_string, string_range}
use Rattle.visibility.specs.Visibility.{is_claimed, visibility_bits, is_unknown}
use Rattle.symbol.specs.declared.Tables.{Tables}
use Rattle.symbol.specs.declared.SymbolEntry.{SymbolEntry}
use Rattle.symbol.specs.Name.{string_room, debug_room, is_debug_class, room_by}
use Rattle.symbol.specs.Symbol.{is_section, aux_check, scnum_check, name_check, visibility_check, symbol_checks, verdict_of}
use Rattle.symbol.proofs.Sections.{section-positive}
use Rattle.frame.specs.Same.{Same}
use Rattle.frame.proofs.Readers.{SameDebug, string-room-same, has-string-same}
use Rattle.mend.specs.Mend.{Mend, aux_left, without_visibility, mends_of, changes_by}
use Rattle.mend.proofs.Mended.{mended_of}
use Rattle.mend.proofs.Judged.{aux-refused, scnum-refused, visibility-refused}
use Rattle.std.specs.Prelude.{Err, Ok}
use Rattle.refusal.specs.Verdict.{Verdict}

-- ---- the checks of a file's mends are its symbols' own

abbrev verdicts : List Mend → List Verdict
verdicts [] = []
verdicts (m ∷ ms) = m.verdict ∷ verdicts ms

pub checks-listed : (l : SymbolLayout) (file : List ℕ) (t : Tables) (i : SymbolIndex) (e : SymbolEntry) → verdicts (mends_of l file t i e) ≡ symbol_checks file t i e
checks-listed l file t i e = refl

none-by : (i : SymbolIndex) (ms : List Mend) → first_refusal (verdicts ms) ≡ Ok tt → changes_by i ms ≡ []
unfolding changes_by
none-by i [] h = refl
none-by i (m ∷ ms) h =
    rw (accepted-first m.verdict (first_refusal (verdicts ms)) h) (none-by i ms (accepted-rest m.verdict (first_refusal (verdicts ms)) h))

pub none-changed : (l : SymbolLayout) (file : List ℕ) (t : Tables) (i : SymbolIndex) (e : SymbolEntry) → first_refusal (symbol_checks file t i e) ≡ Ok tt → changes_by i (mends_of l file t i e) ≡ []
none-changed l file t i e h = none-by i (mends_of l file t i e) h

-- ---- an entry as mended, in a file with the same strings

module _ (file ys : List ℕ) (t : Tables) (i : SymbolIndex) (e : SymbolEntry) (s : Same t.strings.start.0 t.strings.length ys file) (d : SameDebug t.debug ys file) where
  abbrev m : SymbolEntry
  m = mended_of file t i e

  aux-accepts : i.0 < t.count → aux_check t.count i m ≡ Ok tt
  aux-accepts h = accepts (aux_check t.count i m) (aux-refused ys t i m ∙ rw (aux-refused file t i e) (by-test (past (i.0 + 1) e.numaux t.count) refl))
    where
      by-test : (b : Bool) → past (i.0 + 1) e.numaux t.count ≡ b → past (i.0 + 1) (cond b (aux_left t i % 256) e.numaux) t.count ≡ false
      by-test true q = past-no (i.0 + 1) (aux_left t i % 256) t.count (omega arith)
      by-test false q = q

  scnum-accepts : scnum_check t.nscns i m ≡ Ok tt
  scnum-accepts = accepts (scnum_check t.nscns i m) (scnum-refused ys t i m ∙ rw (scnum-refused file t i e) (by-test (is_section t.nscns e.scnum) refl))
    where
      by-test : (b : Bool) → is_section t.nscns e.scnum ≡ b → not (is_section t.nscns (cond (not b) 0 e.scnum)) ≡ false
      by-test true q = rw q refl
      by-test false q = rw (← section-positive t.nscns 0 (lit≤ tt), le-leb 0 t.nscns (omega arith)) refl

  visibility-accepts : visibility_check t.version2 i m ≡ Ok tt
  visibility-accepts = accepts (visibility_check t.version2 i m) (visibility-refused ys t i m ∙ rw (visibility-refused file t i e) (by-test (is_unknown t.version2 e.sclass e.ntype) refl))
    where
      none : visibility_bits (without_visibility e.ntype % 0x10000) ≤ 4
      none = unfold without_visibility in omega arith

      cleared : is_unknown t.version2 e.sclass (without_visibility e.ntype % 0x10000) ≡ false
      cleared = unfold is_unknown in rw (le-ltb 4 (visibility_bits (without_visibility e.ntype % 0x10000)) none) (by-claim (is_claimed t.version2 e.sclass))
        where
          by-claim : (b : Bool) → (b && false) ≡ false
          by-claim true = refl
          by-claim false = refl

      by-test : (b : Bool) → is_unknown t.version2 e.sclass e.ntype ≡ b → is_unknown t.version2 e.sclass (cond b (without_visibility e.ntype % 0x10000) e.ntype) ≡ false
      by-test true q = cleared
      by-test false q = q

  -- whether a name lies somewhere is the same of both files
  debug-verdict : (o : ℕ) → verdict_of (debug_room ys t o i) ≡ verdict_of (debug_room file t o i)
  unfolding debug_room
  debug-verdict o = rw (has-string-same t.format t.debug o ys file d) (by-test (has_string t.format file t.debug o))
    where
      by-test : (b : Bool) → verdict_of (cond b (Ok (string_range t.format ys t.debug o)) (Err (Name i))) ≡ verdict_of (cond b (Ok (string_range t.format file t.debug o)) (Err (Name i)))
      by-test true = refl
      by-test false = refl

  name-verdict : (n : NameField) → verdict_of (room_by ys t i e.sclass n) ≡ verdict_of (room_by file t i e.sclass n)
  unfolding room_by
  name-verdict Short = refl
  name-verdict (Offset o) = by_tests (eqb o 0) (is_debug_class e.sclass)
    where
      by_tests : (z b : Bool) → verdict_of (cond z (Ok (places.range 0 0)) (cond b (debug_room ys t o i) (string_room ys t.strings o i))) ≡ verdict_of (cond z (Ok (places.range 0 0)) (cond b (debug_room file t o i) (string_room file t.strings o i)))
      by_tests true b = refl
      by_tests false true = debug-verdict o
      by_tests false false = ap verdict_of (string-room-same t.strings o i s)

  name-accepts : name_check ys t i m ≡ Ok tt
  unfolding name_check
  name-accepts = accepts (verdict_of (room_by ys t i e.sclass m.name)) (by-test (is_refused (verdict_of (room_by file t i e.sclass e.name))) refl)
    where
      by-test : (b : Bool) → is_refused (verdict_of (room_by file t i e.sclass e.name)) ≡ b → is_refused (verdict_of (room_by ys t i e.sclass (cond b (Offset 0) e.name))) ≡ false
      by-test true q = unfold room_by in refl
      by-test false q = ap is_refused (name-verdict e.name) ∙ q

  pub mended-accepted : i.0 < t.count → first_refusal (symbol_checks ys t i m) ≡ Ok tt
  mended-accepted h = all-accept (symbol_checks ys t i m) (aux-accepts h, (scnum-accepts, (name-accepts, (visibility-accepts, tt))))
