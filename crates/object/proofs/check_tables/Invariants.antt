use Prim.Native.Nat.{◌-◌}
use lib.ListN.{length}
use mathlib.Core.Path.{◌≡◌}
use Rattle.refusal.specs.Order.{first_of}
use Rattle.object.specs.Sections.{bytes_before, entries_before}
use Rattle.object.specs.Check.{table_check}
use Rattle.object.proofs.check_tables.Given as goal

abbrev pub invariant-loop-k : goal.invariant-loop-k
invariant-loop-k l =
    record {
      place : l.place ≡ bytes_before (length l.file) l.y l.k;
      first : l.first ≡ entries_before (length l.file) l.y l.k;
      rest : first_of (table_check l.file l.y) 0 l.y.count ≡ first_of (table_check l.file l.y) l.k (l.y.count - l.k);
    }
