-- Bench figures of document 01, computed from the definitions. Assumes nothing.
use Prim.Native.Nat.{◌%◌}
use mathlib.Core.Path.{◌≡◌, refl}
use mathlib.Core.List.{[], ◌∷◌}
use Rattle.word.specs.Number.{value_of, field_at}
use Rattle.format.specs.declared.Format.TheVariants.{Xcoff32}
use Rattle.symbol.specs.declared.Symbol.{Symbol}
use Rattle.symbol.specs.declared.SymbolSection.TheVariants.{Undefined}
use Rattle.csect.specs.declared.CsectAux.{CsectAux}
use Rattle.csect.specs.declared.CsectType.TheVariants.{Sd}
use Rattle.visibility.specs.Visibility.{is_csect_class}
use Rattle.csect.specs.Csect.{aux_at, type_of, is_mapping_class, is_mapped, csect_of, typed_csect}
use Rattle.std.specs.Prelude.{None, Ok}

-- a csect auxiliary of length 16 with `x_smtyp` 21 and class 5, and a symbol of class 2 that has it
abbrev pub auxiliary : CsectAux
auxiliary = aux_at Xcoff32 0 (0 ∷ 0 ∷ 0 ∷ 16 ∷ 0 ∷ 0 ∷ 0 ∷ 0 ∷ 0 ∷ 0 ∷ 0x21 ∷ 5 ∷ 0 ∷ 0 ∷ 0 ∷ 0 ∷ 0 ∷ 0 ∷ [])

abbrev pub carrier : Symbol
carrier = record { value = 0; section = Undefined; ntype = 0; sclass = 2; numaux = 1; visibility = None }

-- P11: `x_smtyp` 21 is alignment log 4, SD
pub p11 : typed_csect Xcoff32 (record { 0 = 0 }) carrier auxiliary (type_of (auxiliary.smtyp % 8)) ≡ Ok (record { kind = Sd; align = 4; smclas = 5; length = 16 })
unfolding value_of field_at aux_at is_csect_class type_of is_mapping_class is_mapped csect_of typed_csect
p11 = refl
