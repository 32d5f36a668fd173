use Prim.Native.Nat.{◌<◌}
use Rattle.section_relocation.specs.Entry.{field_in}
use Rattle.section_overlap.specs.Ascending.{Ascending}
use Rattle.section_overlap.proofs.are_ascending.Given as goal

abbrev pub invariant-loop-i : goal.invariant-loop-i
invariant-loop-i l = record {
  small : l.last.offset < 4294967296;
  ascending : Ascending (field_in l.file l.f l.s) l.i l.last;
}
