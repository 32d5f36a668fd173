-- Laws of a block of rows. Assumes nothing.
use Prim.Native.Nat.{ℕ, zero, suc, ◌+◌, ◌*◌}
use mathlib.Core.Path.{◌≡◌, refl, ap, ◌∙◌}
use mathlib.Core.List.{List}
use native.Mathlib.Numerals.{add-one}
use native.Mathlib.Omega.{arith}
use lib.ListN.{get_or, set}
use lib.Seq.{sets}
use Rattle.line.specs.declared.LineBlock.{LineBlock}
use Rattle.line.specs.declared.LineEntry.{LineEntry}
use Rattle.line.specs.declared.LineEntry.TheVariants.{Function, Line}
use Rattle.line.specs.Block.{added, block_to}
use Rattle.line.specs.Line.{line_row}
use Rattle.line.specs.Search.{Entries}

-- three stores are a row's
three-set : (l row : List ℕ) (at : ℕ) (x : LineEntry) → row ≡ line_row x → set (set (set l at (get_or row 0 0)) (at + 1) (get_or row 1 0)) (at + 2) (get_or row 2 0) ≡ sets l at (line_row x)
three-set l row at (Function k) e = let two : at + 2 ≡ suc (suc at) = omega arith in rw (e, two, add-one at) refl
three-set l row at (Line m) e = let two : at + 2 ≡ suc (suc at) = omega arith in rw (e, two, add-one at) refl

pub row-added : (b : LineBlock) (x : LineEntry) {row : List ℕ} → row ≡ line_row x
    → record { numbers = set (set (set b.numbers (3 * b.rows) (get_or row 0 0)) (3 * b.rows + 1) (get_or row 1 0)) (3 * b.rows + 2) (get_or row 2 0); rows = b.rows + 1 } ≡ added b x
unfolding added
row-added b x {row} e = let p = three-set b.numbers row (3 * b.rows) x e in let q = add-one b.rows in λ i. record { numbers = p i; rows = q i }

one_more : (b : LineBlock) (x : LineEntry) → (added b x).rows ≡ suc b.rows
unfolding added
one_more b x = refl

-- a block counts its rows
pub counts : (e : Entries) (n : ℕ) → (block_to e n).rows ≡ n
unfolding block_to
counts e zero = refl
counts e (suc n) = one_more (block_to e n) (e n) ∙ ap suc (counts e n)
