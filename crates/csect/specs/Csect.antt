-- The csect entry of a symbol: its last auxiliary.
use Rattle.std.specs.Prelude.{ℕ, ◌+◌, ◌*◌, ◌/◌, ◌%◌, ◌^◌, Bool, true, not, cond, ◌&&◌, ◌||◌, List, eqb, ltb, leb, Err, None, Ok, Option, Result, Some}
use Rattle.word.specs.Number.{field, field_in}
use Rattle.word.specs.declared.Field.{Field}
use Rattle.word.specs.declared.Width.TheVariants.{One, Four}
use Rattle.format.specs.declared.Format.{Format}
use Rattle.format.specs.declared.Format.TheVariants.{Xcoff32, Xcoff64}
use Rattle.format.specs.declared.SymbolIndex.{SymbolIndex}
use Rattle.refusal.specs.declared.Refusal.TheVariants as refusal
use Rattle.visibility.specs.Visibility.{is_csect_class}
use Rattle.symbol.specs.declared.Tables.{Tables}
use Rattle.symbol.specs.declared.Symbol.{Symbol}
use Rattle.symbol.specs.Entry.{entry_start}
use Rattle.csect.specs.declared.CsectAux.{CsectAux}
use Rattle.csect.specs.declared.CsectType.{CsectType}
use Rattle.csect.specs.declared.CsectType.TheVariants.{Er, Sd, Ld, Cm}
use Rattle.csect.specs.declared.Csect.{Csect}
use Rattle.refusal.specs.declared.Refusal.{Refusal}

-- places in a csect auxiliary; the high half of the length and the auxiliary type are XCOFF64's
abbrev pub low_field : Field
low_field = field 0 Four

abbrev pub high_field : Field
high_field = field 12 Four

abbrev pub smtyp_field : Field
smtyp_field = field 10 One

abbrev pub smclas_field : Field
smclas_field = field 11 One

abbrev pub auxtype_field : Field
auxtype_field = field 17 One

-- the length or, of an LD, the container's index
abbrev pub length_at : Format → ℕ → List ℕ → ℕ
length_at Xcoff32 base file = field_in low_field base file
length_at Xcoff64 base file = field_in high_field base file * 2 ^ 32 + field_in low_field base file

-- the 18 bytes at base, taken as a csect auxiliary
unfoldable pub aux_at : Format → ℕ → List ℕ → CsectAux
aux_at f base file =
    record {
      length = length_at f base file;
      smtyp = field_in smtyp_field base file;
      smclas = field_in smclas_field base file;
      auxtype = field_in auxtype_field base file;
    }

-- XCOFF64 marks a csect auxiliary by 251
abbrev pub is_marked : Format → CsectAux → Bool
is_marked Xcoff32 a = true
is_marked Xcoff64 a = eqb a.auxtype 251

-- the type is the low 3 bits of `x_smtyp`
unfoldable pub type_of : ℕ → Option CsectType
type_of low =
    cond (eqb low 0) (Some Er)
    (cond (eqb low 1) (Some Sd)
    (cond (eqb low 2) (Some Ld)
    (cond (eqb low 3) (Some Cm)
    None)))

-- the storage mapping classes of SD and CM: 0 to 13, 15 to 18, 20 to 22
unfoldable pub is_mapping_class : ℕ → Bool
is_mapping_class m = leb m 13 || (leb 15 m && leb m 18) || (leb 20 m && leb m 22)

-- 9 and 11 are for CM alone; ER and LD are not examined
unfoldable pub is_mapped : CsectType → ℕ → Bool
is_mapped Er m = true
is_mapped Ld m = true
is_mapped Cm m = is_mapping_class m
is_mapped Sd m = is_mapping_class m && not (eqb m 9 || eqb m 11)

-- the alignment log is the top 5 bits of `x_smtyp`
unfoldable pub csect_of : CsectType → CsectAux → Csect
csect_of k a = record { kind = k; align = a.smtyp / 8; smclas = a.smclas; length = a.length }

-- the csect entry a of the symbol s at index i, by its type: CSECT for another class, no auxiliary, a missing 251, a type or mapping class that is not allowed
unfoldable pub typed_csect : Format → SymbolIndex → Symbol → CsectAux → Option CsectType → Result Csect Refusal
typed_csect f i s a None = Err (refusal.Csect i)
typed_csect f i s a (Some k) =
    cond (is_csect_class s.sclass && ltb 0 s.numaux && is_marked f a && is_mapped k a.smclas) (Ok (csect_of k a)) (Err (refusal.Csect i))

-- the csect entry of the symbol s at index i, an LD's container not looked at
unfoldable pub own_csect : List ℕ → Tables → SymbolIndex → Symbol → Result Csect Refusal
own_csect file t i s =
    let a = aux_at t.format (entry_start t (i.0 + s.numaux)) file in
    typed_csect t.format i s a (type_of (a.smtyp % 8))

unfoldable pub own_after : List ℕ → Tables → SymbolIndex → Result Symbol Refusal → Result Csect Refusal
own_after file t i (Err x) = Err x
own_after file t i (Ok s) = own_csect file t i s
