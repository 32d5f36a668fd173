use Rattle.std.proofs.Common.{rules}
use native.Mathlib.Omega.{arith}
use Rattle.refusal.proofs.Order.{told-accepted}
use Rattle.section_lookup.proofs.Lookup.{number-known}
use Rattle.object_table.proofs.Parts.{number-refused, is-held-section, not-held-section}
use Rattle.object_table.proofs.check_held.Goals as goal
use Rattle.refusal.proofs.Order.{handed}
use mathlib.Core.Path.{refl}

pub returns-in_err-check_number : goal.returns-in_err-check_number
returns-in_err-check_number c = rw (handed c.from_residual.ensures) (let a = c.args in number-refused a.y a.n c.in_err-check_number.ensures refl)

pub overflow_sub-i : goal.overflow_sub-i
overflow_sub-i c = let k = number-known _ _ (told-accepted c.in_ok-check_number.ensures refl refl) in omega arith

pub offset_bounds-sections-i : goal.offset_bounds-sections-i
offset_bounds-sections-i c = let k = number-known _ _ (told-accepted c.in_ok-check_number.ensures refl refl) in omega (arith, k, c.requires)

pub bounds-sections-i : goal.bounds-sections-i
bounds-sections-i c = let k = number-known _ _ (told-accepted c.in_ok-check_number.ensures refl refl) in let few = c.requires in search rules

pub returns-then-is_held_kind : goal.returns-then-is_held_kind
returns-then-is_held_kind c = let a = c.args in is-held-section a.y a.n (told-accepted c.in_ok-check_number.ensures refl refl) c.is_held_kind.ensures c.if-is_held_kind.true

pub returns : goal.returns
returns c = let a = c.args in not-held-section a.y a.n (told-accepted c.in_ok-check_number.ensures refl refl) c.is_held_kind.ensures c.if-is_held_kind.false
