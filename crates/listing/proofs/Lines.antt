-- The lines of one section more. Assumes nothing.
use mathlib.Core.Path.{◌≡◌, ap}
use mathlib.Core.List.{List, [], ◌∷◌, ◌++◌, append_assoc, append-nil}
use Prim.Native.Nat.{ℕ, zero, suc, ◌+◌, ◌<◌}
use native.Mathlib.Nat.{add-zero, add-suc, suc-add}
use native.Mathlib.Numerals.{add-one, one-add}
use native.Mathlib.Omega.{arith}
use lib.ListN.{length, get_or, take}
use Rattle.format.specs.declared.Format.{Format}
use Rattle.section.specs.declared.Section.{Section}
use Rattle.listing.specs.Listing.{section_line, section_lines}

lines_more : (f : Format) (n i : ℕ) (t : List Section) (d : Section) → i < length t → section_lines f n (take (suc i) t) ≡ section_lines f n (take i t) ++ section_line f (n + i) (get_or t i d)
unfolding section_lines
lines_more f n i [] d h = absurd (omega arith)
lines_more f n zero (s ∷ t) d h = rw (append-nil, add-zero)
lines_more f n (suc i) (s ∷ t) d h =
    rw (append_assoc, add-suc, ← suc-add) (ap (λ (l : List ℕ). section_line f n s ++ l) (lines_more f (suc n) i t d (omega arith)))

-- as the loop counts
pub lines_next : (f : Format) (i : ℕ) (t : List Section) (d : Section) → i < length t → section_lines f 1 (take (i + 1) t) ≡ section_lines f 1 (take i t) ++ section_line f (i + 1) (get_or t i d)
lines_next f i t d h = rw (add-one i) (rw (one-add i) at (lines_more f 1 i t d h))
