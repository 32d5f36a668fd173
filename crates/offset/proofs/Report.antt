-- Laws of reports. Assumes nothing.
use Prim.Native.Nat.{ℕ}
use mathlib.Core.List.{List}
use native.Mathlib.Omega.{arith}
use lib.ListN.{length}
use Rattle.refusal.specs.Part.{Within}
use Rattle.offset.specs.Report.{report_of_range, InFile}
use Rattle.std.specs.Prelude.{Err, Ok, Result}
use Rattle.refusal.specs.declared.Refusal.{Refusal}
use Rattle.format.specs.declared.FileRange.{FileRange}

-- a part of the file, as it is reported, lies inside it: on a refusal too, where its start and its length are 0
pub range_inside : (file : List ℕ) (a : Result FileRange Refusal) → Within (length file) a → InFile file (report_of_range file a)
range_inside file (Ok p) h = h
range_inside file (Err x) h = omega arith
