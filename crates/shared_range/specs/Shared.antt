-- Ranges of a file that share a byte.
use Rattle.std.specs.Prelude.{Bool, false, not, ◌&&◌, ◌||◌, List, [], ◌∷◌, ℕ, ◌+◌, ◌≤◌, ◌<◌, eqb}
use Rattle.word.specs.Test.{past}
use Rattle.format.specs.declared.FileRange.{FileRange}

-- byte k is in the range
pub record Holds (r : FileRange) (k : ℕ) : Type 0 where
  pub low : r.start.0 ≤ k
  pub high : k < r.start.0 + r.length

-- some byte is in both: neither is empty, and each ends past the other's start
unfoldable pub shares : FileRange → FileRange → Bool
shares a b =
    not (eqb a.length 0) && (not (eqb b.length 0)
    && (past b.start.0 b.length a.start.0 && past a.start.0 a.length b.start.0))

-- a range shares a byte with one of these
unfoldable pub shares_one : FileRange → List FileRange → Bool
shares_one a [] = false
shares_one a (b ∷ bs) = shares a b || shares_one a bs

-- two of these share a byte
unfoldable pub shares_two : List FileRange → Bool
shares_two [] = false
shares_two (a ∷ rs) = shares_one a rs || shares_two rs

-- no byte is in both
pub record Disjoint (a b : FileRange) : Type 0 where
  pub none : (k : ℕ) → Holds a k → Holds b k → ⊥

abbrev pub DisjointAll : FileRange → List FileRange → Type 0
DisjointAll a [] = Unit {0}
DisjointAll a (b ∷ bs) = Disjoint a b × DisjointAll a bs

-- no two of these share a byte
abbrev pub Separate : List FileRange → Type 0
Separate [] = Unit {0}
Separate (a ∷ rs) = DisjointAll a rs × Separate rs
