use Prim.Native.Nat.{◌-◌}
use mathlib.Core.Path.{◌≡◌}
use Rattle.frame.specs.Change.{each_from}
use Rattle.written.specs.Written.{put_section}
use Rattle.address_put.specs.New.{ForFormat}
use Rattle.address_put.proofs.put_sections.Given as goal

abbrev pub invariant-loop-i : goal.invariant-loop-i
invariant-loop-i l =
    ForFormat l.y.format l.d l.imports (λ new. each_from (put_section new l.file l.y) l.i (l.y.count - l.i) l.out ≡ each_from (put_section new l.file l.y) 0 l.y.count l.initial.out)
