-- The places of an entry's fields. Assumes nothing.
use Prim.Native.Nat.{ℕ, ◌+◌, ◌≤◌}
use mathlib.Core.Path.{◌≡◌}
use native.Mathlib.Omega.{arith}
use Rattle.format.specs.declared.Format.{Format}
use Rattle.format.specs.declared.Format.TheVariants.{Xcoff32, Xcoff64}
use Rattle.format.proofs.Layouts.{FieldInside}
use Rattle.line.specs.declared.LineLayout.{LineLayout}
use Rattle.line.specs.Line.{line_layout, line_length}

-- the fields of an entry at a place, in a file of n bytes
fields-inside : (f : Format) (at n : ℕ) → at + line_length f ≤ n
    → FieldInside (line_layout f).symbol at n × FieldInside (line_layout f).address at n × FieldInside (line_layout f).line at n
fields-inside Xcoff32 at n h = (omega arith, omega arith, omega arith)
fields-inside Xcoff64 at n h = (omega arith, omega arith, omega arith)

pub entry-inside : (f : Format) {l : LineLayout} (at n : ℕ) → l ≡ line_layout f → at + line_length f ≤ n
    → FieldInside l.symbol at n × FieldInside l.address at n × FieldInside l.line at n
entry-inside f at n e h = rw e (fields-inside f at n h)
