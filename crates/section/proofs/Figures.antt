-- A bench figure of document 01, computed from the definitions. Assumes nothing.
use Prim.Native.Nat.{ℕ}
use mathlib.Core.Path.{◌≡◌, refl}
use Rattle.format.specs.declared.Format.{Format}
use Rattle.section_kind.specs.declared.SectionKind.TheVariants.{Dwarf}
use Rattle.format.specs.declared.SectionNumber.{SectionNumber}
use Rattle.section_kind.specs.Kind.{kind_of, listed_kind}
use Rattle.refusal.specs.declared.Refusal.TheVariants.{Kind}
use Rattle.section.specs.declared.SectionHeader.{SectionHeader}
use Rattle.section.specs.Section.{judge_section}
use Rattle.section.proofs.Judged.{kind-first}
use Rattle.std.specs.Prelude.{Err, Some}

-- P9: flags 00000060 are KIND; 00020010 are dwarf; 00010020 are KIND, whatever else the header holds
pub p9 : (f : Format) (len : ℕ) (h : SectionHeader) (n : SectionNumber)
    → (h.flags ≡ 0x00000060 → judge_section f len h n ≡ Err (Kind n)) × (kind_of 0x00020010 ≡ Some Dwarf) × (h.flags ≡ 0x00010020 → judge_section f len h n ≡ Err (Kind n))
unfolding kind_of listed_kind
p9 f len h n = (λ e. kind-first f len h n (rw e refl), refl, λ e. kind-first f len h n (rw e refl))
