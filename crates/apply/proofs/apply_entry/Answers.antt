use Rattle.apply.proofs.Entries.{data-applied, data-inside, symbol-known, text-applied, text-inside}
use Rattle.apply.proofs.apply_entry.Goals as goal

pub shift_of-z-requires-clause-valid : goal.shift_of-z-requires-clause-valid
shift_of-z-requires-clause-valid c = (c.requires.valid.0, symbol-known _ _ _ _ c.requires.valid.0 c.requires.valid.1 c.relocation_at-e.ensures)

pub shift_of-z-requires-clause-from_len : goal.shift_of-z-requires-clause-from_len
shift_of-z-requires-clause-from_len c = c.requires.from_len

pub add_to_field-requires : goal.add_to_field-requires
add_to_field-requires c = text-inside _ _ _ _ c.requires.valid.0 c.requires.valid.1 c.relocation_at-e.ensures c.if-place.true c.requires.text_len.0

pub returns-then-place : goal.returns-then-place
returns-then-place c = λ p' q' f t h. text-applied _ _ _ _ _ _ _ _ _ c.relocation_at-e.ensures c.if-place.true (c.shift_of-z.ensures p' q' f t h) c.add_to_field.ensures

pub add_to_field-requires-2 : goal.add_to_field-requires-2
add_to_field-requires-2 c = data-inside _ _ _ _ c.requires.valid.0 c.requires.valid.1 c.relocation_at-e.ensures c.if-place.false c.requires.text_len.1

pub returns : goal.returns
returns c = λ p' q' f t h. data-applied _ _ _ _ _ _ _ _ _ c.relocation_at-e.ensures c.if-place.false (c.shift_of-z.ensures p' q' f t h) c.add_to_field-2.ensures
