-- Laws of SHARED. Assumes nothing.
use Prim.Native.Nat.{ℕ, suc, ◌+◌, ◌≤◌}
use mathlib.Core.Path.{◌≡◌, refl}
use mathlib.Core.Bool.{Bool, true, false, cond, ◌||◌}
use mathlib.Core.List.{List, ◌∷◌}
use native.Mathlib.Omega.{arith}
use borrow.Author.Tests.{eq-eqb, ne_eqb}
use lib.ListN.{length, get_or}
use Rattle.section_kind.specs.declared.SectionKind.TheVariants.{Debug}
use Rattle.section_kind.specs.Kind.{flags_of}
use Rattle.format.specs.declared.FileRange.{FileRange}
use Rattle.format.specs.Limit.{file_limit, section_limit}
use Rattle.format.specs.Range.{range}
use Rattle.section.specs.declared.Section.{Section}
use Rattle.file_header.specs.Header.{section_start}
use Rattle.file_tables.specs.Tables.{blank_section}
use Rattle.header.specs.declared.Summary.{Summary}
use Rattle.header.specs.Inside.{Inside}
use Rattle.debug_section.specs.Debug.{is_debug, raw_of, debug_ranges}
use Rattle.shared_range.specs.Shared.{shares, shares_one}
use Rattle.shared_symbols.specs.Shared.{symbol_range, is_shared}

-- ---- one section

module _ (a : FileRange) (s : Section) (before : Bool) where
  abbrev next : Bool
  next = cond (is_debug s) (shares a (raw_of s) || before) before

  pub other-kind : {n : ℕ} → n ≡ flags_of s.kind → (n ≡ flags_of Debug → ⊥) → before ≡ next
  unfolding is_debug
  other-kind e h = rw (← e, ne_eqb _ (flags_of Debug) h) refl

  module _ {n : ℕ} (e : n ≡ flags_of s.kind) (h : n ≡ flags_of Debug) where
    pub no-raw : s.raw ≡ false → before ≡ next
    unfolding is_debug
    no-raw r = rw (← e, eq-eqb _ (flags_of Debug) h, r) refl

    pub raw-shared : s.raw ≡ true → shares a (raw_of s) ≡ true → true ≡ next
    unfolding is_debug
    raw-shared r k = rw (← e, eq-eqb _ (flags_of Debug) h, r, k) refl

    pub raw-apart : s.raw ≡ true → shares a (raw_of s) ≡ false → before ≡ next
    unfolding is_debug
    raw-apart r k = rw (← e, eq-eqb _ (flags_of Debug) h, r, k) refl

-- ---- the loop over them

pub shares-more : (a : FileRange) (sections : List Section) (i : ℕ) {before now : Bool} → before ≡ shares_one a (debug_ranges sections i)
    → now ≡ cond (is_debug (get_or sections i blank_section)) (shares a (raw_of (get_or sections i blank_section)) || before) before → now ≡ shares_one a (debug_ranges sections (i + 1))
unfolding debug_ranges
shares-more a sections i {before} e h = let n : i + 1 ≡ suc i = omega arith in rw (n, h, e) (by-test (is_debug (get_or sections i blank_section)))
  where
    by-test : (b : Bool) → cond b (shares a (raw_of (get_or sections i blank_section)) || shares_one a (debug_ranges sections i)) (shares_one a (debug_ranges sections i)) ≡ shares_one a (cond b (raw_of (get_or sections i blank_section) ∷ debug_ranges sections i) (debug_ranges sections i))
    by-test true = unfold shares_one in refl
    by-test false = refl

-- ---- the whole

module _ (y : Summary) where
  pub shared-headers : {n : ℕ} → n ≡ section_start y.format y.opthdr y.count → shares (symbol_range y) (range 0 n) ≡ true → true ≡ is_shared y
  unfolding is_shared shares_one
  shared-headers e h = rw (rw e at h) refl

  pub shared-debug : {n : ℕ} {b : Bool} → n ≡ section_start y.format y.opthdr y.count → shares (symbol_range y) (range 0 n) ≡ false → b ≡ shares_one (symbol_range y) (debug_ranges y.sections y.count) → b ≡ is_shared y
  unfolding is_shared shares_one
  shared-debug e h k = rw (rw e at h) k

-- of an opened file: what the test asks for
pub few-symbols : (file : List ℕ) (y : Summary) → Inside file y → (y.count ≤ section_limit) × (y.opthdr ≤ file_limit) × (y.symbols.count ≤ file_limit)
few-symbols file y i = (i.few, area i.headers, omega (arith, i.small, i.symbols))
  where
    area : section_start y.format y.opthdr y.count ≤ length file → y.opthdr ≤ file_limit
    area h = unfold section_start in omega (arith, i.small, h)
