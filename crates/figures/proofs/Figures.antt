-- P1 to P11 of the definitions, one statement over their list. Fields, addresses, flags and types are hex, widths decimal. Assumes nothing.
use Prim.Native.Nat.{◌%◌, ℕ}
use mathlib.Core.Path.{◌≡◌, refl}
use mathlib.Core.Bool.{true, false}
use mathlib.Core.List.{List, [], ◌∷◌, map}
use Rattle.word.specs.Number.{value_of, field_at}
use Rattle.update.specs.Update.{bytes_of_number, put_field, update, remainder, add_in, add_field}
use Rattle.format.specs.declared.Format.TheVariants.{Xcoff64, Xcoff32}
use Rattle.section_kind.specs.declared.SectionKind.TheVariants.{Dwarf}
use Rattle.section_kind.specs.Kind.{kind_of}
use Rattle.format.specs.Range.{range}
use Rattle.section.specs.declared.SectionHeader.{SectionHeader}
use Rattle.section.specs.Section.{judge_section}
use Rattle.section.proofs.Figures as section
use Rattle.refusal.specs.declared.Refusal.TheVariants.{Name, Kind, Lrel}
use Rattle.symbol.proofs.Figures as symbol
use Rattle.csect.specs.declared.CsectType.TheVariants.{Sd}
use Rattle.csect.specs.Csect.{typed_csect, type_of}
use Rattle.csect.proofs.Figures as csect
use Rattle.relocation.specs.Relocation.{subtracts, width_bits, is_width, is_thread, is_type, is_inside, is_held, is_good, place_of, own_check}
use Rattle.relocation.proofs.Figures as relocation
use Rattle.format.specs.declared.Format.{Format}
use Rattle.format.specs.declared.SectionNumber.{SectionNumber}
use Rattle.parts.specs.declared.Part.{Part}
use Rattle.parts.specs.declared.Parts.{Parts}
use Rattle.relocation.specs.declared.RelocationEntry.{RelocationEntry}
use Rattle.history.specs.Images.{images, add_at, apply_entry, apply_all}
use Rattle.history.specs.Plan.{Relocatable, followed_by, displacement_of, displacements, built_images}
use Rattle.history.specs.Plan.Anchored.{none}
use Rattle.plan.specs.Relocatable.{relocation_of}
use Rattle.std.specs.Prelude.{Err, Ok, Some}

-- ---- fields that builds change: P1 to P6

-- a module without loader symbols: text is section 1, data section 2, both recorded at 0 and as long as the field
abbrev part : ℕ → Part
part n = record { number = record { 0 = n }; address = record { 0 = 0 }; size = 8; start = record { 0 = 0 }; raw = true }

abbrev parts : Parts
parts = record { text = part 1; «data» = part 2; bss = part 3; loader = part 4 }

-- an entry of a type, for the field at the start of data, that names a symbol: 0 is text, 1 data
abbrev pub entry : ℕ → ℕ → RelocationEntry
entry rtype symbol = record { address = record { 0 = 0 }; symbol = symbol; rtype = rtype; scnum = 2 }

abbrev module_with : Format → List RelocationEntry → List ℕ → Relocatable
module_with f es bytes =
    record {
      verdict = Ok tt;
      raw = images [] bytes;
      text_address = 0;
      data_address = 0;
      format = f;
      symbols = [];
      entries = map (relocation_of parts) es;
      entry = none;
      toc = none;
    }

-- every entry is one that is applied: neither THREAD nor LREL
abbrev Good : Format → List RelocationEntry → Type 0
Good f [] = Unit {0}
Good f (e ∷ es) = (own_check f parts 0 0 e ≡ Ok tt) × Good f es

-- a build for a card where text is moved by t and data by d changes data that holds `before` into `after`
abbrev pub Built : Format → List RelocationEntry → (t d : ℕ) → (before after : List ℕ) → Type 0
Built f es t d before after = Good f es × (built_images (module_with f es before) (record { text = t; dat = d; list = [] }) ≡ images [] after)

pub data Figure : Type 0 where
  P1 P2 P3 P4 P5 P6 P7 P8 P9 P10 P11 : Figure

-- what each says
abbrev pub Holds : Figure → Type 0
Holds P1 = Built Xcoff32 (entry 0x1F00 1 ∷ []) 0 0x20000000 (0x10 ∷ 0x00 ∷ 0x01 ∷ 0x04 ∷ []) (0x30 ∷ 0x00 ∷ 0x01 ∷ 0x04 ∷ [])
Holds P2 = Built Xcoff32 (entry 0x1F01 1 ∷ []) 0 0x20000000 (0x10 ∷ 0x00 ∷ 0x01 ∷ 0x04 ∷ []) (0xF0 ∷ 0x00 ∷ 0x01 ∷ 0x04 ∷ [])
Holds P3 = Built Xcoff32 (entry 0x1F00 1 ∷ []) 0 0x20 (0xFF ∷ 0xFF ∷ 0xFF ∷ 0xF0 ∷ []) (0x00 ∷ 0x00 ∷ 0x00 ∷ 0x10 ∷ [])
Holds P4 = Built Xcoff32 (entry 0x1F00 1 ∷ entry 0x1F01 0 ∷ []) 0x400 0x1000 (0x00 ∷ 0x00 ∷ 0x00 ∷ 0x40 ∷ []) (0x00 ∷ 0x00 ∷ 0x0C ∷ 0x40 ∷ [])
Holds P5 =
    Built Xcoff64 (entry 0x3F00 1 ∷ []) 0 0xFFFFFFFFF0000000 (0x00 ∷ 0x00 ∷ 0x00 ∷ 0x01 ∷ 0x10 ∷ 0x00 ∷ 0x00 ∷ 0x00 ∷ [])
    (0x00 ∷ 0x00 ∷ 0x00 ∷ 0x01 ∷ 0x00 ∷ 0x00 ∷ 0x00 ∷ 0x00 ∷ [])
Holds P6 = Built Xcoff64 (entry 0x1F00 1 ∷ []) 0 0x100000008 (0x00 ∷ 0x00 ∷ 0x00 ∷ 0x01 ∷ []) (0x00 ∷ 0x00 ∷ 0x00 ∷ 0x09 ∷ [])
Holds P7 = (subtracts 0x3F01 ≡ true) × (width_bits 0x3F01 ≡ 64) × (is_width Xcoff64 (width_bits 0x3F01) ≡ true)
Holds P8 =
    (f : Format) (p : Parts) (nsyms i : ℕ) (e : RelocationEntry) → e.rtype ≡ 0x0F00 → is_thread e ≡ false → own_check f p nsyms i e ≡ Err (Lrel (record { 0 = i }))
Holds P9 =
    (f : Format) (len : ℕ) (h : SectionHeader) (n : SectionNumber)
    → (h.flags ≡ 0x00000060 → judge_section f len h n ≡ Err (Kind n)) × (kind_of 0x00020010 ≡ Some Dwarf) × (h.flags ≡ 0x00010020 → judge_section f len h n ≡ Err (Kind n))
Holds P10 =
    map symbol.named (4 ∷ 6 ∷ 3 ∷ 7 ∷ [])
    ≡ (Ok (range 4 2), 0x61 ∷ 0x62 ∷ []) ∷ (Ok (range 6 0), []) ∷ (Err (Name symbol.index), []) ∷ (Err (Name symbol.index), []) ∷ []
Holds P11 = typed_csect Xcoff32 (record { 0 = 0 }) csect.carrier csect.auxiliary (type_of ((csect.auxiliary).smtyp % 8)) ≡ Ok (record { kind = Sd; align = 4; smclas = 5; length = 16 })

pub figures : List Figure
figures = P1 ∷ P2 ∷ P3 ∷ P4 ∷ P5 ∷ P6 ∷ P7 ∷ P8 ∷ P9 ∷ P10 ∷ P11 ∷ []

abbrev pub All : List Figure → Type 0
All [] = Unit {0}
All (f ∷ fs) = Holds f × All fs

pub p1 : Holds P1
unfolding own_check is_good is_type is_width is_held is_inside built_images displacements displacement_of followed_by apply_all apply_entry add_at place_of add_field update put_field field_at value_of bytes_of_number add_in remainder
p1 = ((refl, tt), refl)

pub p2 : Holds P2
unfolding own_check is_good is_type is_width is_held is_inside built_images displacements displacement_of followed_by apply_all apply_entry add_at place_of add_field update put_field field_at value_of bytes_of_number add_in remainder
p2 = ((refl, tt), refl)

pub p3 : Holds P3
unfolding own_check is_good is_type is_width is_held is_inside built_images displacements displacement_of followed_by apply_all apply_entry add_at place_of add_field update put_field field_at value_of bytes_of_number add_in remainder
p3 = ((refl, tt), refl)

pub p4 : Holds P4
unfolding own_check is_good is_type is_width is_held is_inside built_images displacements displacement_of followed_by apply_all apply_entry add_at place_of add_field update put_field field_at value_of bytes_of_number add_in remainder
p4 = ((refl, (refl, tt)), refl)

pub p5 : Holds P5
unfolding own_check is_good is_type is_width is_held is_inside built_images displacements displacement_of followed_by apply_all apply_entry add_at place_of add_field update put_field field_at value_of bytes_of_number add_in remainder
p5 = ((refl, tt), refl)

pub p6 : Holds P6
unfolding own_check is_good is_type is_width is_held is_inside built_images displacements displacement_of followed_by apply_all apply_entry add_at place_of add_field update put_field field_at value_of bytes_of_number add_in remainder
p6 = ((refl, tt), refl)

pub bench-figures : All figures
unfolding figures
bench-figures = (p1, (p2, (p3, (p4, (p5, (p6, (relocation.p7, (relocation.p8, (section.p9, (symbol.p10, (csect.p11, tt)))))))))))
