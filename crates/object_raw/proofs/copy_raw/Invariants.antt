use Prim.Native.Nat.{◌-◌}
use mathlib.Core.Path.{◌≡◌}
use mathlib.Core.List.{◌++◌}
use lib.ListN.{length, take}
use Rattle.object.specs.Sections.{bytes_before, entries_before}
use Rattle.object_plan.specs.Object.{raw_in, object_of}
use Rattle.object_raw.proofs.copy_raw.Given as goal

abbrev pub invariant-loop-k : goal.invariant-loop-k
invariant-loop-k l =
    record {
      place : l.place ≡ bytes_before (length l.file) l.y l.k;
      first : l.first ≡ entries_before (length l.file) l.y l.k;
      rest : take l.place l.out ++ raw_in l.file l.y l.k (l.y.count - l.k) ≡ (object_of l.file).raw;
    }
