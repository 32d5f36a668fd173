-- The section that a symbol names, by its signed number. Assumes nothing.
use Prim.Native.Nat.{ℕ, zero, suc, ◌-◌, ◌≤◌, ◌<◌}
use mathlib.Core.Path.{◌≡◌, refl, sym}
use mathlib.Core.Bool.{Bool, true, false}
use native.Mathlib.Omega.{arith}
use borrow.Author.Tests.{lt-ltb, le-ltb, le-leb, lt-leb, leb-true, leb-false, not-false}
use lib.Dec.{leb}
use lib.IntN.{ℤ, pos, negsuc}
use Rattle.word.specs.Signed.{signed16, lebℤ}
use Rattle.word.proofs.Test.{and_first}
use Rattle.format.specs.declared.SymbolIndex.{SymbolIndex}
use Rattle.refusal.specs.declared.Refusal.TheVariants.{Scnum}
use Rattle.refusal.proofs.Order.{accepted-test}
use Rattle.symbol.specs.declared.Tables.{Tables}
use Rattle.symbol.specs.declared.SymbolEntry.{SymbolEntry}
use Rattle.symbol.specs.declared.SymbolSection.TheVariants.{Debug, Absolute, Undefined, In}
use Rattle.symbol.specs.Symbol.{scnum_of, section_of, section_in, is_section, scnum_check, symbol_of}
use mathlib.Core.Bool.{not, ◌&&◌}
use Rattle.std.specs.Prelude.{Ok}

-- ---- SECTION's test

leb-same : (a b c d : ℕ) → (a ≤ b → c ≤ d) → (b < a → d < c) → leb a b ≡ leb c d
leb-same a b c d h k = by-test (leb a b) refl
  where
    by-test : (t : Bool) → leb a b ≡ t → t ≡ leb c d
    by-test true e = sym (le-leb c d (h (leb-true a b e)))
    by-test false e = sym (lt-leb c d (k (leb-false a b e)))

and-true : (b : Bool) → b ≡ (b && true)
and-true true = refl
and-true false = refl

module _ (nscns n : ℕ) where
  pub section-positive : n < 0x8000 → leb n nscns ≡ is_section nscns n
  unfolding is_section signed16
  section-positive h = rw (lt-ltb n 0x8000 h)

  pub section-negative : 0x8000 ≤ n → leb 0xFFFE n ≡ is_section nscns n
  unfolding is_section signed16
  section-negative h = rw (le-ltb n 0x8000 h, ← and-true (leb (0xFFFF - n) 1)) (leb-same 0xFFFE n (0xFFFF - n) 1 (λ k. omega arith) (λ k. omega arith))

-- ---- what is named

number-named : (n : ℕ) → (n ≡ 0 → ⊥) → In (record { 0 = n }) ≡ section_of (pos n)
number-named zero h = absurd (h refl)
number-named (suc n) h = refl

below-named : (n : ℕ) → 0 < n → Debug ≡ section_of (negsuc n)
below-named zero h = absurd (omega arith)
below-named (suc n) h = refl

module _ (n : ℕ) where
  pub named_none : n ≡ 0 → Undefined ≡ section_in n
  unfolding section_in signed16
  named_none e = rw e refl

  pub named-section : (n ≡ 0 → ⊥) → n < 0x8000 → In (record { 0 = n }) ≡ section_in n
  unfolding section_in signed16
  named-section p h = rw (lt-ltb n 0x8000 h) (number-named n p)

  pub named-debug : 0x8000 ≤ n → n < 0xFFFF → Debug ≡ section_in n
  unfolding section_in signed16
  named-debug h k = rw (le-ltb n 0x8000 h) (below-named (0xFFFF - n) (omega arith))

  pub named-absolute : 0xFFFF ≤ n → Absolute ≡ section_in n
  unfolding section_in signed16
  named-absolute h = let z : 0xFFFF - n ≡ 0 = omega arith in rw (le-ltb n 0x8000 (omega arith), z) refl

-- ---- the section of a symbol that SECTION accepts has its very number

number-kept : (z : ℤ) → lebℤ (scnum_of Debug) z ≡ true → scnum_of (section_of z) ≡ z
number-kept (pos zero) e = refl
number-kept (pos (suc n)) e = refl
number-kept (negsuc zero) e = refl
number-kept (negsuc (suc zero)) e = refl
number-kept (negsuc (suc (suc n))) e = absurd (omega (arith, leb-true (suc (suc n)) 1 e))

pub scnum-kept : (t : Tables) (nscns : ℕ) (i : SymbolIndex) (e : SymbolEntry) → scnum_check nscns i e ≡ Ok tt → scnum_of (symbol_of t e).section ≡ signed16 e.scnum
unfolding scnum_check is_section symbol_of section_in
scnum-kept t nscns i e k =
    let s = signed16 e.scnum in
    let low = lebℤ (scnum_of Debug) s in
    let high = lebℤ s (pos nscns) in
    number-kept s (and_first low high (not-false (low && high) (accepted-test (not (low && high)) (Scnum i) k)))
