use Prim.Native.Nat.{◌-◌}
use mathlib.Core.Path.{◌≡◌}
use Rattle.frame.specs.Change.{each_from}
use Rattle.written.specs.Written.{put_entry}
use Rattle.address_put.specs.New.{ForFormat}
use Rattle.address_put.proofs.put_entries.Given as goal

abbrev pub invariant-loop-i : goal.invariant-loop-i
invariant-loop-i l =
    ForFormat l.l.layout.format l.d l.imports (λ new. each_from (put_entry new l.file l.l) l.i (l.l.tables.nreloc - l.i) l.out ≡ each_from (put_entry new l.file l.l) 0 l.l.tables.nreloc l.initial.out)
