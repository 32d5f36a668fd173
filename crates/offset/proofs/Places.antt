-- The laws of places in a file. Assumes nothing.
use Prim.Native.Nat.{ℕ, suc, ◌+◌, ◌-◌, ◌*◌, ◌≤◌, ◌<◌}
use mathlib.Core.Path.{◌≡◌, refl, sym, ◌∙◌, ap}
use mathlib.Core.Bool.{Bool, true, false, cond}
use mathlib.Core.List.{List}
use native.Mathlib.Nat.{mul-one, mul-le-mul, mul-le-mul_left, suc-mul}
use native.Mathlib.Omega.{arith}
use lib.Dec.{eqb}
use borrow.Author.Tests.{eq-eqb, ne_eqb}
use Rattle.word.specs.Test.{past}
use Rattle.word.proofs.Test.{past-yes, past-not}
use Rattle.format.specs.declared.Format.{Format}
use Rattle.format.specs.declared.Format.TheVariants.{Xcoff32, Xcoff64}
use Rattle.format.specs.Layout.{section_layout, relocation_layout}
use Rattle.format.specs.Limit.{file_limit}
use Rattle.section_kind.specs.declared.SectionKind.TheVariants as kind
use Rattle.section_kind.specs.Kind.{flags_of}
use Rattle.section.specs.declared.SectionHeader.{SectionHeader}
use Rattle.section.specs.Section.{section_header_at}
use Rattle.file_header.specs.declared.FileHeader.{FileHeader}
use Rattle.file_header.specs.Header.{section_start}
use Rattle.table_kind.specs.declared.TableKind.TheVariants.{Relocations as RelocationTable}
use Rattle.table_kind.specs.Kind.{entry_length}
use Rattle.offset.specs.declared.Starts.{Starts}
use Rattle.offset.specs.Offset.{entry_place, loader_in, header_place, section_table}

-- ---- entries of a table

-- as many entries as there are bytes in the file pass its end
grows : (k n : ℕ) → 0 < n → k + 1 ≤ (k + 1) * n
grows k n h = let m : (k + 1) * 1 ≤ (k + 1) * n = mul-le-mul_left (k + 1) h in omega (arith, mul-one (k + 1), m)

module _ (len start n k : ℕ) where
  pub entry_past : 0 < n → len ≤ k → 0 ≡ entry_place len start n k
  entry_past h p = rw (past-yes start ((k + 1) * n) len (omega (arith, grows k n h))) refl

  -- the entry's bytes can be counted
  pub entry-small : len ≤ file_limit → n ≤ 72 → k < len → (k + 1) * n ≤ file_limit * 72
  entry-small h p q = let b : k + 1 ≤ file_limit = omega arith in mul-le-mul b p

  pub entry-before : k * n + n ≡ (k + 1) * n
  entry-before = let e : k + 1 ≡ suc k = omega arith in rw e (sym (suc-mul k n))

-- ---- the loader section

pub loader-more : (file : List ℕ) (h : FileHeader) (i : ℕ) {s : SectionHeader} → s ≡ section_header_at h.format (section_start h.format h.opthdr i) file → cond (eqb s.flags (flags_of kind.Loader)) s.scnptr.0 (loader_in file h i) ≡ loader_in file h (i + 1)
unfolding loader_in
loader-more file h i e = let n : i + 1 ≡ suc i = omega arith in rw (e, n) refl

-- ---- the lengths of headers and entries

pub header-length : (f : Format) → (0 < (section_layout f).length) × ((section_layout f).length ≤ 72)
header-length Xcoff32 = (omega arith, omega arith)
header-length Xcoff64 = (omega arith, omega arith)

pub relocation-length : (f : Format) → (0 < (relocation_layout f).length) × ((relocation_layout f).length ≤ 72)
relocation-length Xcoff32 = (omega arith, omega arith)
relocation-length Xcoff64 = (omega arith, omega arith)

pub section-relocation-length : (f : Format) → (0 < entry_length RelocationTable f) × (entry_length RelocationTable f ≤ 72)
section-relocation-length Xcoff32 = (omega arith, omega arith)
section-relocation-length Xcoff64 = (omega arith, omega arith)

-- ---- a section's own relocation table

-- an entry that is found is whole in the file
entry_found : (len start n k : ℕ) → (entry_place len start n k ≡ 0 → ⊥) → entry_place len start n k + n ≤ len
entry_found len start n k h = by (past start ((k + 1) * n) len) refl h
  where
    by : (b : Bool) → past start ((k + 1) * n) len ≡ b → (cond b 0 (start + k * n) ≡ 0 → ⊥) → cond b 0 (start + k * n) + n ≤ len
    by true e z = absurd (z refl)
    by false e z = omega (arith, past-not start ((k + 1) * n) len e, entry-before len start n k)

pub header-found : (s : Starts) (n at : ℕ) → at ≡ header_place s n → (at ≡ 0 → ⊥) → at + (section_layout s.format).length ≤ s.length
header-found s n at e z = rw e (entry_found s.length s.sections (section_layout s.format).length (n - 1) (λ q. z (e ∙ q)))

module _ (file : List ℕ) (s : Starts) (n at : ℕ) (e : at ≡ header_place s n) where
  pub no_table : at ≡ 0 → 0 ≡ section_table file s n
  no_table z = rw (eq-eqb (header_place s n) 0 (sym e ∙ z)) refl

  pub table-there : (at ≡ 0 → ⊥) → (section_header_at s.format at file).relptr.0 ≡ section_table file s n
  table-there z = rw (ne_eqb (header_place s n) 0 (λ q. z (e ∙ q))) (ap (λ (k : ℕ). (section_header_at s.format k file).relptr.0) e)
