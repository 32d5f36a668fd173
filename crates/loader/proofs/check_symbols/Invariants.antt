use Prim.Native.Nat.{◌-◌}
use mathlib.Core.Path.{◌≡◌}
use Rattle.refusal.specs.Order.{first_of}
use Rattle.loader_symbol.specs.Symbol.{symbol_check}
use Rattle.loader.proofs.check_symbols.Given as goal

abbrev pub invariant-loop-k : goal.invariant-loop-k
invariant-loop-k l = first_of (symbol_check l.file l.f l.p l.t) 0 l.t.nsyms ≡ first_of (symbol_check l.file l.f l.p l.t) l.k (l.t.nsyms - l.k)
