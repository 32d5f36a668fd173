-- The visibility in a symbol's type.
use Rattle.std.specs.Prelude.{ℕ, ◌/◌, ◌%◌, Bool, false, cond, ◌&&◌, ◌||◌, List, eqb, ltb, leb, None, Option, Some}
use Rattle.word.specs.declared.Field.{Field}
use Rattle.word.specs.declared.Width.TheVariants.{Two}
use Rattle.word.specs.Number.{field, field_in}
use Rattle.format.specs.declared.Format.{Format}
use Rattle.format.specs.declared.Format.TheVariants.{Xcoff32, Xcoff64}
use Rattle.format.specs.Layout.{header_layout}
use Rattle.header.specs.declared.Summary.{Summary}

-- ---- where it is claimed

-- the version in the auxiliary header, which follows the file header
abbrev pub version_field : Field
version_field = field 2 Two

-- of an XCOFF32 file whose auxiliary header, of 4 bytes or more, has version 2
abbrev pub version_by : Format → List ℕ → ℕ → Bool
version_by Xcoff64 file opthdr = false
version_by Xcoff32 file opthdr = leb 4 opthdr && eqb (field_in version_field (header_layout Xcoff32).length file) 2

unfoldable pub has_version2 : List ℕ → Summary → Bool
has_version2 file y = version_by y.format file y.opthdr

-- the storage classes of symbols in csects
unfoldable pub is_csect_class : ℕ → Bool
is_csect_class sclass = eqb sclass 2 || eqb sclass 107 || eqb sclass 111

unfoldable pub is_claimed : Bool → ℕ → Bool
is_claimed version2 sclass = version2 && is_csect_class sclass

-- ---- what it is

-- bits 7000 hex of the type
abbrev pub visibility_bits : ℕ → ℕ
visibility_bits ntype = ntype / 0x1000 % 8

-- VISIBILITY: 0 none, 1 internal, 2 hidden, 3 protected, 4 exported; 5 to 7 mean nothing
unfoldable pub is_unknown : Bool → ℕ → ℕ → Bool
is_unknown version2 sclass ntype = is_claimed version2 sclass && ltb 4 (visibility_bits ntype)

unfoldable pub visibility_of : Bool → ℕ → ℕ → Option ℕ
visibility_of version2 sclass ntype = cond (is_claimed version2 sclass) (Some (visibility_bits ntype)) None
