use native.Mathlib.Omega.{arith}
use Rattle.apply.proofs.Entries.{symbol-known}
use Rattle.rewrite.proofs.Entries.{text-place, data-place, text-placed, data-placed}
use Rattle.rewrite.proofs.place_entry.Goals as goal

pub relocation_at-e-requires : goal.relocation_at-e-requires
relocation_at-e-requires c = (c.requires.valid.0, c.requires.valid.1)

pub shift_of-z-requires-clause-valid : goal.shift_of-z-requires-clause-valid
shift_of-z-requires-clause-valid c = (c.requires.valid.0, symbol-known _ _ _ _ c.requires.valid.0 c.requires.valid.1 c.relocation_at-e.ensures)

pub shift_of-z-requires-clause-from_len : goal.shift_of-z-requires-clause-from_len
shift_of-z-requires-clause-from_len c = (c.requires.imports_len.0, c.requires.imports_len.0)

pub overflow_add-off : goal.overflow_add-off
overflow_add-off c = let i = text-place _ _ _ _ c.requires.valid.0 c.requires.valid.1 c.relocation_at-e.ensures c.if-place.true in omega (arith, i.0, i.1)

pub add_to_field-requires : goal.add_to_field-requires
add_to_field-requires c = rw c.requires.imports_len.1 (text-place _ _ _ _ c.requires.valid.0 c.requires.valid.1 c.relocation_at-e.ensures c.if-place.true).0

pub returns-then-place : goal.returns-then-place
returns-then-place c = λ p q f t h. text-placed _ _ _ _ _ _ _ _ c.relocation_at-e.ensures (c.shift_of-z.ensures p q f t h) c.if-place.true c.add_to_field.ensures

pub overflow_add-off-2 : goal.overflow_add-off-2
overflow_add-off-2 c = let i = data-place _ _ _ _ c.requires.valid.0 c.requires.valid.1 c.relocation_at-e.ensures c.if-place.false in omega (arith, i.0, i.1)

pub add_to_field-requires-2 : goal.add_to_field-requires-2
add_to_field-requires-2 c = rw c.requires.imports_len.1 (data-place _ _ _ _ c.requires.valid.0 c.requires.valid.1 c.relocation_at-e.ensures c.if-place.false).0

pub returns : goal.returns
returns c = λ p q f t h. data-placed _ _ _ _ _ _ _ _ c.relocation_at-e.ensures (c.shift_of-z.ensures p q f t h) c.if-place.false c.add_to_field-2.ensures
