use mathlib.Core.Path.{◌≡◌, refl}
use Prim.Native.Nat.{ℕ}
use Rattle.std.specs.Prelude.{None, Option, Some, unwrap_or}
use Rattle.symbol_lookup.specs.Lookup.{visibility_number}
use Rattle.symbol_lookup.proofs.report_symbol.Goals as goal

-- no visibility is shown as 0
or-zero : (v : Option ℕ) → unwrap_or v 0 ≡ visibility_number v
or-zero None = refl
or-zero (Some n) = refl

pub returns-in-Err : goal.returns-in-Err
returns-in-Err c = rw (c.in-Err.is, c.refusal_head.ensures) refl

pub returns-in-Ok : goal.returns-in-Ok
returns-in-Ok c = rw (c.in-Ok.is, c.accepted_head.ensures, c.scnum_of.ensures, c.one_if.ensures, c.is_claimed.ensures, c.unwrap_or.ensures, ← or-zero c.in-Ok.s.visibility) refl
