-- The kinds of section that the flags of a section header allow.
use Rattle.std.specs.Prelude.{ℕ, ◌/◌, ◌%◌, Bool, false, not, cond, ◌||◌, List, [], ◌∷◌, eqb, None, Option, Some}
use Rattle.section_kind.specs.declared.SectionKind.{SectionKind}
use Rattle.section_kind.specs.declared.SectionKind.TheVariants.{Deleted, Pad, Dwarf, Text, Data, Bss, Except, Info, Tdata, Tbss, Loader, Debug, Typchk, Ovrflo}

-- the flags of each kind, the high half 0; a deleted section's are all ones
abbrev pub flags_of : SectionKind → ℕ
flags_of Pad = 0x0008
flags_of Dwarf = 0x0010
flags_of Text = 0x0020
flags_of Data = 0x0040
flags_of Bss = 0x0080
flags_of Except = 0x0100
flags_of Info = 0x0200
flags_of Tdata = 0x0400
flags_of Tbss = 0x0800
flags_of Loader = 0x1000
flags_of Debug = 0x2000
flags_of Typchk = 0x4000
flags_of Ovrflo = 0x8000
flags_of Deleted = 0xFFFFFFFF

-- the allowed kinds
abbrev pub kinds : List SectionKind
kinds = Pad ∷ Dwarf ∷ Text ∷ Data ∷ Bss ∷ Except ∷ Info ∷ Tdata ∷ Tbss ∷ Loader ∷ Debug ∷ Typchk ∷ Ovrflo ∷ []

-- the kind of a list that has these low 16 bits
abbrev pub kind_in : ℕ → List SectionKind → Option SectionKind
kind_in low [] = None
kind_in low (k ∷ ks) = cond (eqb (flags_of k) low) (Some k) (kind_in low ks)

unfoldable pub listed_kind : ℕ → Option SectionKind
listed_kind low = kind_in low kinds

-- all ones: deleted. Otherwise the low 16 bits are looked up in the list, and kept where the high 16 are 0 or the kind is dwarf
unfoldable pub kind_of : ℕ → Option SectionKind
kind_of flags =
    cond (eqb flags (flags_of Deleted)) (Some Deleted)
    (cond (eqb (flags / 65536) 0 || eqb (flags % 65536) (flags_of Dwarf)) (listed_kind (flags % 65536)) None)

-- k is one of some kinds
abbrev pub is_one_of : SectionKind → List SectionKind → Bool
is_one_of k [] = false
is_one_of k (x ∷ xs) = eqb (flags_of k) (flags_of x) || is_one_of k xs

-- the kinds that may have raw data: not bss, tbss and ovrflo. A deleted section is not examined, so it has none
abbrev pub has_raw_kind : SectionKind → Bool
has_raw_kind k = not (is_one_of k (Bss ∷ Tbss ∷ Ovrflo ∷ Deleted ∷ []))

-- the kinds whose addresses are examined
abbrev pub is_placed_kind : SectionKind → Bool
is_placed_kind k = is_one_of k (Text ∷ Data ∷ Bss ∷ [])

-- the kind as document 01 writes it
abbrev pub kind_word : SectionKind → List ℕ
kind_word Pad = 112 ∷ 97 ∷ 100 ∷ []
kind_word Dwarf = 100 ∷ 119 ∷ 97 ∷ 114 ∷ 102 ∷ []
kind_word Text = 116 ∷ 101 ∷ 120 ∷ 116 ∷ []
kind_word Data = 100 ∷ 97 ∷ 116 ∷ 97 ∷ []
kind_word Bss = 98 ∷ 115 ∷ 115 ∷ []
kind_word Except = 101 ∷ 120 ∷ 99 ∷ 101 ∷ 112 ∷ 116 ∷ []
kind_word Info = 105 ∷ 110 ∷ 102 ∷ 111 ∷ []
kind_word Tdata = 116 ∷ 100 ∷ 97 ∷ 116 ∷ 97 ∷ []
kind_word Tbss = 116 ∷ 98 ∷ 115 ∷ 115 ∷ []
kind_word Loader = 108 ∷ 111 ∷ 97 ∷ 100 ∷ 101 ∷ 114 ∷ []
kind_word Debug = 100 ∷ 101 ∷ 98 ∷ 117 ∷ 103 ∷ []
kind_word Typchk = 116 ∷ 121 ∷ 112 ∷ 99 ∷ 104 ∷ 107 ∷ []
kind_word Ovrflo = 111 ∷ 118 ∷ 114 ∷ 102 ∷ 108 ∷ 111 ∷ []
kind_word Deleted = 100 ∷ 101 ∷ 108 ∷ 101 ∷ 116 ∷ 101 ∷ 100 ∷ []
