-- The order in which a section is judged, and what holds of every one that is accepted. Assumes nothing.
use Prim.Native.Nat.{ℕ}
use mathlib.Core.Path.{◌≡◌, refl}
use mathlib.Core.Bool.{true, false, not}
use lib.Dec.{eqb}
use borrow.Author.Tests.{eqb-true, not-false}
use Rattle.word.proofs.Test.{either, past-not, or-first, or-second}
use Rattle.format.specs.declared.Format.{Format}
use Rattle.format.specs.declared.SectionNumber.{SectionNumber}
use Rattle.section_kind.specs.declared.SectionKind.{SectionKind}
use Rattle.format.specs.Layout.{address_limit}
use Rattle.section_kind.specs.Kind.{kind_of}
use Rattle.section.specs.declared.SectionHeader.{SectionHeader}
use Rattle.refusal.specs.declared.Refusal.TheVariants.{Kind, Bounds}
use Rattle.refusal.specs.declared.BoundsItem.TheVariants.{RawData}
use Rattle.section.specs.Section.{raw_data_past, misplaced, section_of, judge_kind, judge_section, SectionWithin}
use Rattle.std.specs.Prelude.{Err, None, Ok, Option, Result, Some}
use Rattle.refusal.specs.declared.Refusal.{Refusal}
use Rattle.section.specs.declared.Section.{Section}

abbrev pub Judged : Format → ℕ → Result Section Refusal → Type 0
Judged f len (Ok s) = SectionWithin f len s
Judged f len (Err x) = Unit {0}

module _ (f : Format) (len : ℕ) (h : SectionHeader) where
  -- KIND, whatever BOUNDS and ADDRESS would say
  pub kind-first : (n : SectionNumber) → kind_of h.flags ≡ None → judge_section f len h n ≡ Err (Kind n)
  unfolding judge_section judge_kind
  kind-first n e = rw e refl

  -- then BOUNDS, whatever ADDRESS would say
  pub bounds-next : (n : SectionNumber) (k : SectionKind) → kind_of h.flags ≡ Some k → raw_data_past k len h ≡ true → judge_section f len h n ≡ Err (Bounds (RawData n))
  unfolding judge_section judge_kind
  bounds-next n k e r = rw (e, r) refl

  section-inside : (k : SectionKind) → raw_data_past k len h ≡ false → misplaced f k h ≡ false → SectionWithin f len (section_of k h)
  unfolding section_of raw_data_past misplaced
  section-inside k a m =
      record {
        data-in = λ r. past-not h.scnptr.0 h.size len (rw r at a);
        same = λ p. eqb-true h.vaddr.0 h.paddr.0 (not-false (eqb h.vaddr.0 h.paddr.0) (or-first (not (eqb h.vaddr.0 h.paddr.0)) _ (rw p at m)));
        address-in = λ p. past-not h.vaddr.0 h.size (address_limit f) (or-second (not (eqb h.vaddr.0 h.paddr.0)) _ (rw p at m));
      }

  kind-judged : (n : SectionNumber) (a : Option SectionKind) → Judged f len (judge_kind f len h n a)
  unfolding judge_kind
  kind-judged n None = tt
  kind-judged n (Some k) =
      either (Judged f len) (raw_data_past k len h) (λ _. tt)
      (λ a. either (Judged f len) (misplaced f k h) (λ _. tt) (λ m. section-inside k a m))

  pub section-judged : (n : SectionNumber) → Judged f len (judge_section f len h n)
  unfolding judge_section
  section-judged n = kind-judged n (kind_of h.flags)
