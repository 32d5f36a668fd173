-- What a csect look-up's refusals name is there: the symbol's entry. Assumes nothing.
use Prim.Native.Nat.{ℕ, ◌+◌, ◌%◌, ◌<◌}
use mathlib.Core.Path.{◌≡◌, refl}
use mathlib.Core.Bool.{◌&&◌}
use mathlib.Core.List.{List}
use lib.Dec.{ltb}
use Rattle.word.proofs.Test.{either}
use Rattle.format.specs.declared.SymbolIndex.{SymbolIndex}
use Rattle.refusal.specs.declared.Refusal.{Refusal}
use Rattle.refusal.specs.declared.Refusal.TheVariants as refusal
use Rattle.refusal.specs.Order.{by_verdict}
use Rattle.refusal.proofs.Causes.{Causes}
use Rattle.offset.specs.Named.{Named}
use Rattle.offset.proofs.Named.{named_by}
use Rattle.header.specs.Open.{open_of}
use Rattle.header.proofs.Named.{opens, opened-named}
use Rattle.symbol.specs.declared.Symbol.{Symbol}
use Rattle.symbol.specs.declared.Tables.{Tables}
use Rattle.symbol.specs.Entry.{OpenTables, tables_at, entry_start}
use Rattle.symbol.specs.Symbol.{symbol_in}
use Rattle.symbol.proofs.Checks.{symbol-known}
use Rattle.symbol.proofs.Named.{SymbolCauses, entry_place_lem, symbol-in-named}
use Rattle.csect.specs.declared.Csect.{Csect}
use Rattle.csect.specs.declared.CsectAux.{CsectAux}
use Rattle.csect.specs.Csect.{aux_at, is_marked, is_mapped, type_of, typed_csect, own_csect, own_after}
use Rattle.visibility.specs.Visibility.{is_csect_class}
use Rattle.csect_lookup.specs.Lookup.{is_contained, contained, csect_after, csect_in, csect_at}
use Rattle.std.specs.Prelude.{Err, None, Ok, Option, Result, Some}
use Rattle.csect.specs.declared.CsectType.{CsectType}
use Rattle.refusal.specs.Verdict.{Verdict}

-- what holds of the refusal of a csect's answer
abbrev pub CsectCauses : (Refusal → Type 0) → Result Csect Refusal → Type 0
CsectCauses P (Ok c) = Unit {0}
CsectCauses P (Err x) = P x

module _ (file : List ℕ) (t : Tables) (o : OpenTables file t) (i : SymbolIndex) where
  abbrev P : Refusal → Type 0
  P = Named file

  -- an entry that is there
  module _ (p : i.0 < t.count) where
    csect-there : P (refusal.Csect i)
    csect-there = let w = opens file o.accepted in named_by file w.format w.headed (refusal.Csect i) (entry_place_lem file t o i p)

    typed-named : (s : Symbol) (a : CsectAux) (k : Option CsectType) → CsectCauses P (typed_csect t.format i s a k)
    unfolding typed_csect
    typed-named s a None = csect-there
    typed-named s a (Some k) =
        either (CsectCauses P) (is_csect_class s.sclass && ltb 0 s.numaux && is_marked t.format a && is_mapped k a.smclas) (λ _. tt) (λ _. csect-there)

    own-named : (s : Symbol) → CsectCauses P (own_csect file t i s)
    unfolding own_csect
    own-named s = let a = aux_at t.format (entry_start t (i.0 + s.numaux)) file in typed-named s a (type_of (a.smtyp % 8))

    contained-named : (a : Result Csect Refusal) → CsectCauses P a → CsectCauses P (contained file t i a)
    unfolding contained
    contained-named (Err x) c = c
    contained-named (Ok k) c = either (CsectCauses P) (is_contained file t i k k.kind) (λ _. tt) (λ _. csect-there)

  -- in the tables of an opened file
  pub csect-in-named : CsectCauses P (csect_in file t i)
  unfolding csect_in csect_after own_after contained
  csect-in-named = by (symbol_in file t i) refl (symbol-in-named file t o i)
    where
      by : (a : Result Symbol Refusal) → symbol_in file t i ≡ a → SymbolCauses P a → CsectCauses P (contained file t i (own_after file t i a))
      by (Ok s) e c = contained-named (symbol-known file t i e) (own_csect file t i s) (own-named (symbol-known file t i e) s)
      by (Err x) e c = c

-- request 4: of a csect
pub csect-at-named : (file : List ℕ) (i : SymbolIndex) → CsectCauses (Named file) (csect_at file i)
unfolding csect_at
csect-at-named file i = by (open_of file).verdict refl (opened-named file)
  where
    by : (v : Verdict) → (open_of file).verdict ≡ v → Causes (Named file) v → CsectCauses (Named file) (by_verdict v (csect_in file (tables_at file) i) Err)
    by (Ok tt) e c = csect-in-named file (tables_at file) (record { accepted = e; tables = refl }) i
    by (Err x) e c = c
