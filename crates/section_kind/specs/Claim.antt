-- What is claimed of the list of kinds.
use Rattle.std.specs.Prelude.{ℕ, ◌/◌, ◌%◌, ◌<◌, ◌≡◌, List, [], ◌∷◌, ◌⊎◌, length, get_or}
use Rattle.section_kind.specs.declared.SectionKind.{SectionKind}
use Rattle.section_kind.specs.declared.SectionKind.TheVariants.{Deleted, Dwarf}
use Rattle.section_kind.specs.Kind.{flags_of, kinds}

-- the low 16 bits of document 01's thirteen kinds, in its order
abbrev pub thirteen : List ℕ
thirteen = 0x0008 ∷ 0x0010 ∷ 0x0020 ∷ 0x0040 ∷ 0x0080 ∷ 0x0100 ∷ 0x0200 ∷ 0x0400 ∷ 0x0800 ∷ 0x1000 ∷ 0x2000 ∷ 0x4000 ∷ 0x8000 ∷ []

-- k is in the list, the low 16 bits are its flags, and the high 16 are 0 or the kind is dwarf
pub record Names (flags : ℕ) (k : SectionKind) : Type 0 where
  pub place : ℕ
  pub inside : place < length kinds
  pub listed : get_or kinds place Deleted ≡ k
  pub low : flags_of k ≡ flags % 65536
  pub high : (flags / 65536 ≡ 0) ⊎ (k ≡ Dwarf)
