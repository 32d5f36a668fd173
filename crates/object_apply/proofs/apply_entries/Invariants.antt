use Rattle.std.proofs.Common.{◌≡◌, ◌-◌, length}
use Rattle.object_history.specs.Entry.{apply_all}
use Rattle.object.specs.Sections.{bytes_before, entries_before}
use Rattle.object_plan.specs.Object.{entries_in, object_of}
use Rattle.object_plan.specs.Shifts.{address_shifts}
use Rattle.object_apply.proofs.apply_entries.Given as goal

abbrev pub invariant-loop-k : goal.invariant-loop-k
invariant-loop-k l =
    record {
      place : l.place ≡ bytes_before (length l.file) l.y l.k;
      first : l.first ≡ entries_before (length l.file) l.y l.k;
      rest : apply_all (entries_in l.file l.y l.k (l.y.count - l.k)) (address_shifts l.to l.from) l.buffer ≡ apply_all (object_of l.file).entries (address_shifts l.to l.from) l.initial.buffer;
    }
