-- The debug sections of a file. Assumes nothing.
use Prim.Native.Nat.{ℕ, zero, suc, ◌+◌, ◌≤◌, ◌<◌}
use mathlib.Core.Path.{◌≡◌, refl}
use mathlib.Core.Bool.{Bool, true, false, cond}
use mathlib.Core.List.{List, [], ◌∷◌}
use native.Mathlib.Numerals.{add-one}
use native.Mathlib.Omega.{arith}
use lib.Dec.{eqb}
use lib.ListN.{length, get_or}
use Rattle.word.proofs.Test.{either, and_second}
use Rattle.format.specs.declared.FileRange.{FileRange}
use Rattle.section_kind.specs.declared.SectionKind.TheVariants.{Debug}
use Rattle.section_kind.specs.Kind.{flags_of}
use Rattle.section.specs.declared.Section.{Section}
use Rattle.file_tables.specs.Tables.{blank_section}
use Rattle.header.specs.declared.Summary.{Summary}
use Rattle.header.specs.Open.{open_of}
use Rattle.header.specs.Inside.{Inside}
use Rattle.header.proofs.Accepted.{opened_inside}
use Rattle.debug_section.specs.declared.DebugTally.{DebugTally}
use Rattle.debug_section.specs.Debug.{is_debug, raw_of, debug_ranges, exactly_one, debug_of, last_of, tally_of, DebugInside}
use Rattle.std.specs.Prelude.{None, Ok, Some}

-- ---- the loop over the sections

-- one section more
pub tally-more : (sections : List Section) (i : ℕ) {s : Section} → s ≡ get_or sections i blank_section → cond (is_debug s) (record { count = (tally_of (debug_ranges sections i)).count + 1; last = raw_of s }) (tally_of (debug_ranges sections i)) ≡ tally_of (debug_ranges sections (i + 1))
unfolding debug_ranges
tally-more sections i {s} e = let n : i + 1 ≡ suc i = omega arith in rw (e, n) (by-test (is_debug (get_or sections i blank_section)))
  where
    r : FileRange
    r = raw_of (get_or sections i blank_section)

    by-test : (b : Bool) → cond b (record { count = length (debug_ranges sections i) + 1; last = r }) (tally_of (debug_ranges sections i)) ≡ tally_of (cond b (r ∷ debug_ranges sections i) (debug_ranges sections i))
    by-test true = rw add-one refl
    by-test false = refl

-- there are no more than sections
pub ranges-few : (sections : List Section) (n : ℕ) → length (debug_ranges sections n) ≤ n
unfolding debug_ranges
ranges-few sections zero = omega arith
ranges-few sections (suc i) = by-test (is_debug (get_or sections i blank_section)) (ranges-few sections i)
  where
    by-test : (b : Bool) → length (debug_ranges sections i) ≤ i → length (cond b (raw_of (get_or sections i blank_section) ∷ debug_ranges sections i) (debug_ranges sections i)) ≤ suc i
    by-test true h = omega arith
    by-test false h = omega arith

-- ---- exactly one

one_last : (rs : List FileRange) → length rs ≡ 1 → Some (last_of rs) ≡ exactly_one rs
one_last [] e = absurd (omega arith)
one_last (r ∷ []) e = refl
one_last (r ∷ s ∷ rs) e = absurd (omega arith)

not-one : (rs : List FileRange) → (length rs ≡ 1 → ⊥) → None ≡ exactly_one rs
not-one [] h = refl
not-one (r ∷ []) h = absurd (h refl)
not-one (r ∷ s ∷ rs) h = refl

module _ (y : Summary) {t : DebugTally} (e : t ≡ tally_of (debug_ranges y.sections y.count)) where
  pub debug-one : t.count ≡ 1 → Some t.last ≡ debug_of y
  unfolding debug_of
  debug-one k = rw e (one_last (debug_ranges y.sections y.count) (rw e at k))

  pub debug-not-one : (t.count ≡ 1 → ⊥) → None ≡ debug_of y
  unfolding debug_of
  debug-not-one k = not-one (debug_ranges y.sections y.count) (rw e at k)

-- ---- of an accepted file it is inside the file

abbrev AllInside : ℕ → List FileRange → Type 0
AllInside len [] = Unit {0}
AllInside len (r ∷ rs) = (r.start.0 + r.length ≤ len) × AllInside len rs

one_inside : (len : ℕ) (rs : List FileRange) → AllInside len rs → DebugInside len (exactly_one rs)
one_inside len [] h = tt
one_inside len (r ∷ []) h = h.0
one_inside len (r ∷ s ∷ rs) h = tt

raw-inside : (file : List ℕ) (y : Summary) → Inside file y → (i : ℕ) → i < y.count → is_debug (get_or y.sections i blank_section) ≡ true → (raw_of (get_or y.sections i blank_section)).start.0 + (raw_of (get_or y.sections i blank_section)).length ≤ length file
unfolding is_debug
raw-inside file y h i k e =
    let s = get_or y.sections i blank_section in
    (h.sections i k).data-in (and_second (eqb (flags_of s.kind) (flags_of Debug)) s.raw e)

all-inside : (file : List ℕ) (y : Summary) → Inside file y → (n : ℕ) → n ≤ y.count → AllInside (length file) (debug_ranges y.sections n)
unfolding debug_ranges
all-inside file y h zero k = tt
all-inside file y h (suc i) k =
    let s = get_or y.sections i blank_section in
    let rest = all-inside file y h i (omega arith) in
    either (AllInside (length file)) (is_debug s) (λ e. (raw-inside file y h i (omega arith) e, rest)) (λ _. rest)

pub debug-inside : (file : List ℕ) → (open_of file).verdict ≡ Ok tt → DebugInside (length file) (debug_of (open_of file).summary)
unfolding debug_of
debug-inside file e =
    let y = (open_of file).summary in
    let h = opened_inside file e in
    one_inside (length file) (debug_ranges y.sections y.count) (all-inside file y h y.count (omega arith))
