-- Which checks refuse an entry, by the tests of the code. Assumes nothing.
use mathlib.Core.Path.{◌≡◌, refl}
use mathlib.Core.Bool.{Bool, not}
use mathlib.Core.List.{List}
use Prim.Native.Nat.{ℕ, ◌+◌}
use Rattle.word.specs.Test.{past}
use Rattle.format.specs.declared.SymbolIndex.{SymbolIndex}
use Rattle.refusal.specs.declared.Refusal.TheVariants.{Aux, Scnum, Name, Visibility}
use Rattle.refusal.specs.Refusal.{is_refused}
use Rattle.refusal.proofs.Order.{refused-if}
use Rattle.visibility.specs.Visibility.{is_unknown}
use Rattle.symbol.specs.declared.Tables.{Tables}
use Rattle.symbol.specs.declared.SymbolEntry.{SymbolEntry}
use Rattle.symbol.specs.Entry.{OpenTables}
use Rattle.symbol.specs.Name.{has_name}
use Rattle.symbol.specs.Symbol.{is_section, aux_check, scnum_check, name_check, visibility_check}
use Rattle.symbol.proofs.Names.{name-judged}
use Rattle.mend.specs.Entry.{refusals_of}

module _ (file : List ℕ) (t : Tables) (i : SymbolIndex) (e : SymbolEntry) where
  pub aux-refused : is_refused (aux_check t.count i e) ≡ past (i.0 + 1) e.numaux t.count
  unfolding aux_check
  aux-refused = refused-if (past (i.0 + 1) e.numaux t.count) (Aux i)

  pub scnum-refused : is_refused (scnum_check t.nscns i e) ≡ not (is_section t.nscns e.scnum)
  unfolding scnum_check
  scnum-refused = refused-if (not (is_section t.nscns e.scnum)) (Scnum i)

  pub visibility-refused : is_refused (visibility_check t.version2 i e) ≡ is_unknown t.version2 e.sclass e.ntype
  unfolding visibility_check
  visibility-refused = refused-if (is_unknown t.version2 e.sclass e.ntype) (Visibility i)

  name-refused : OpenTables file t → is_refused (name_check file t i e) ≡ not (has_name file t e.sclass e.name)
  name-refused o = rw (name-judged file t i e o) (refused-if (not (has_name file t e.sclass e.name)) (Name i))

  pub refusals-told : OpenTables file t → {a s n v : Bool} → a ≡ past (i.0 + 1) e.numaux t.count → s ≡ is_section t.nscns e.scnum
      → n ≡ has_name file t e.sclass e.name → v ≡ is_unknown t.version2 e.sclass e.ntype
      → record { aux = a; scnum = not s; name = not n; visibility = v } ≡ refusals_of file t i e
  unfolding refusals_of
  refusals-told o p q x y = rw (p, q, x, y, aux-refused, scnum-refused, name-refused o, visibility-refused) refl
