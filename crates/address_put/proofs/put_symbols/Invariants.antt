use Prim.Native.Nat.{◌-◌}
use mathlib.Core.Path.{◌≡◌}
use Rattle.frame.specs.Change.{each_from}
use Rattle.written.specs.Written.{put_symbol}
use Rattle.address_put.specs.New.{ForFormat}
use Rattle.address_put.proofs.put_symbols.Given as goal

abbrev pub invariant-loop-k : goal.invariant-loop-k
invariant-loop-k l =
    ForFormat l.l.layout.format l.d l.imports (λ new. each_from (put_symbol new l.file l.l) l.k (l.l.tables.nsyms - l.k) l.out ≡ each_from (put_symbol new l.file l.l) 0 l.l.tables.nsyms l.initial.out)
