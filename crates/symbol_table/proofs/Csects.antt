-- The csect number of a row is 0 or 12. Assumes nothing.
use Prim.Native.Nat.{ℕ}
use mathlib.Core.Path.{◌≡◌, refl}
use mathlib.Core.Logic.{◌⊎◌, inl, inr}
use mathlib.Core.Bool.{◌&&◌}
use mathlib.Core.List.{List}
use lib.Dec.{ltb}
use Rattle.word.proofs.Test.{either}
use Rattle.format.specs.declared.Format.{Format}
use Rattle.format.specs.declared.SymbolIndex.{SymbolIndex}
use Rattle.refusal.specs.Refusal.{number_of}
use Rattle.symbol.specs.declared.Tables.{Tables}
use Rattle.symbol.specs.declared.Symbol.{Symbol}
use Rattle.symbol.specs.Symbol.{symbol_in}
use Rattle.csect.specs.declared.CsectAux.{CsectAux}
use Rattle.visibility.specs.Visibility.{is_csect_class}
use Rattle.csect.specs.Csect.{is_marked, is_mapped, typed_csect, own_csect, own_after}
use Rattle.csect_lookup.specs.Lookup.{is_contained, contained, csect_after, csect_in, csect_report, report_of_csect}
use Rattle.symbol.specs.Entry.{OpenTables}
use Rattle.symbol_table.proofs.Opened.{csect-is}
use Rattle.std.specs.Prelude.{Err, None, Ok, Option, Result, Some}
use Rattle.refusal.specs.declared.Refusal.{Refusal}
use Rattle.csect.specs.declared.Csect.{Csect}
use Rattle.csect.specs.declared.CsectType.{CsectType}

-- a refusal is CSECT
abbrev Csect12 : Result Csect Refusal → Type 0
Csect12 (Ok c) = Unit {0}
Csect12 (Err x) = number_of x ≡ 12

typed : (f : Format) (i : SymbolIndex) (s : Symbol) (a : CsectAux) (k : Option CsectType) → Csect12 (typed_csect f i s a k)
unfolding typed_csect
typed f i s a None = refl
typed f i s a (Some k) = either Csect12 (is_csect_class s.sclass && ltb 0 s.numaux && is_marked f a && is_mapped k a.smclas) (λ _. tt) (λ _. refl)

held : (file : List ℕ) (t : Tables) (i : SymbolIndex) (a : Result Csect Refusal) → Csect12 a → Csect12 (contained file t i a)
unfolding contained
held file t i (Err x) e = e
held file t i (Ok c) e = either Csect12 (is_contained file t i c c.kind) (λ _. tt) (λ _. refl)

own : (file : List ℕ) (t : Tables) (i : SymbolIndex) (s : Symbol) → Csect12 (own_csect file t i s)
unfolding own_csect
own file t i s = typed t.format i s _ _

in_table : (file : List ℕ) (t : Tables) (i : SymbolIndex) {s : Symbol} → symbol_in file t i ≡ Ok s → Csect12 (csect_in file t i)
unfolding csect_in csect_after own_after
in_table file t i {s} e = rw e (held file t i (own_csect file t i s) (own file t i s))

number-of : (file : List ℕ) (a : Result Csect Refusal) → Csect12 a → ((report_of_csect file a).head.number ≡ 0) ⊎ ((report_of_csect file a).head.number ≡ 12)
number-of file (Ok c) e = inl refl
number-of file (Err x) e = inr e

-- of a symbol that is found
pub csect-number : (file : List ℕ) (t : Tables) → OpenTables file t → (i : SymbolIndex) {s : Symbol} → symbol_in file t i ≡ Ok s → ((csect_report file i).head.number ≡ 0) ⊎ ((csect_report file i).head.number ≡ 12)
csect-number file t o i e = rw (csect-is file t o i refl) (number-of file (csect_in file t i) (in_table file t i e))
