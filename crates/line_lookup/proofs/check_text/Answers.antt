use Rattle.std.proofs.Common.{rules}
use native.Mathlib.Omega.{arith}
use Rattle.refusal.proofs.Order.{told-accepted}
use Rattle.section_lookup.proofs.Lookup.{number-known}
use Rattle.line_lookup.proofs.Tables.{number-refused, not-text, is-text}
use Rattle.line_lookup.proofs.check_text.Goals as goal
use Rattle.refusal.proofs.Order.{handed}
use mathlib.Core.Path.{refl}

pub returns-in_err-check_number : goal.returns-in_err-check_number
returns-in_err-check_number c = rw (handed c.from_residual.ensures) (let a = c.args in number-refused a.y a.n c.in_err-check_number.ensures refl refl)

pub overflow_sub-i : goal.overflow_sub-i
overflow_sub-i c = let k = number-known _ _ (told-accepted c.in_ok-check_number.ensures refl refl) in omega arith

pub offset_bounds-sections-i : goal.offset_bounds-sections-i
offset_bounds-sections-i c = let k = number-known _ _ (told-accepted c.in_ok-check_number.ensures refl refl) in omega (arith, k, c.requires)

pub bounds-sections-i : goal.bounds-sections-i
bounds-sections-i c = let k = number-known _ _ (told-accepted c.in_ok-check_number.ensures refl refl) in let few = c.requires in search rules

pub returns-then-flags-eq-TEXT : goal.returns-then-flags-eq-TEXT
returns-then-flags-eq-TEXT c = let a = c.args in is-text a.y a.n (told-accepted c.in_ok-check_number.ensures refl refl) c.flags.ensures c.if-flags-eq-TEXT.true

pub returns : goal.returns
returns c = let a = c.args in not-text a.y a.n (told-accepted c.in_ok-check_number.ensures refl refl) c.flags.ensures c.if-flags-eq-TEXT.false
