use mathlib.Core.Bool.{false}
use Rattle.apply.proofs.Entries.{data-applied, data-inside, symbol-known, text-applied, text-inside, width-added}
use Rattle.apply.proofs.Formats.{entry-narrow, narrow-bytes}
use Rattle.apply_all.proofs.apply_entry32.Goals as goal

pub shift_of-z-requires-clause-valid : goal.shift_of-z-requires-clause-valid
shift_of-z-requires-clause-valid c = let p = c.requires in (p.valid.0, symbol-known _ _ _ _ p.valid.0 p.valid.1 c.relocation_at-e.ensures)

pub shift_of-z-requires-clause-from_len : goal.shift_of-z-requires-clause-from_len
shift_of-z-requires-clause-from_len c = let p = c.requires in p.from_len

pub add_to_narrow-requires : goal.add_to_narrow-requires
add_to_narrow-requires c = let p = c.requires in let r = c.relocation_at-e.ensures in narrow-bytes _ _ (entry-narrow _ _ _ _ p.valid.0 p.valid.1 p.format_value r) (text-inside _ _ _ _ p.valid.0 p.valid.1 r c.if-place.true p.text_len.0)

pub returns-then-place : goal.returns-then-place
returns-then-place c = let p = c.requires in let r = c.relocation_at-e.ensures in λ p' q' f t h. text-applied _ _ _ _ _ _ _ _ _ r c.if-place.true (c.shift_of-z.ensures p' q' f t h) (width-added false _ _ _ _ (entry-narrow _ _ _ _ p.valid.0 p.valid.1 p.format_value r) c.add_to_narrow.ensures)

pub add_to_narrow-requires-2 : goal.add_to_narrow-requires-2
add_to_narrow-requires-2 c = let p = c.requires in let r = c.relocation_at-e.ensures in narrow-bytes _ _ (entry-narrow _ _ _ _ p.valid.0 p.valid.1 p.format_value r) (data-inside _ _ _ _ p.valid.0 p.valid.1 r c.if-place.false p.text_len.1)

pub returns : goal.returns
returns c = let p = c.requires in let r = c.relocation_at-e.ensures in λ p' q' f t h. data-applied _ _ _ _ _ _ _ _ _ r c.if-place.false (c.shift_of-z.ensures p' q' f t h) (width-added false _ _ _ _ (entry-narrow _ _ _ _ p.valid.0 p.valid.1 p.format_value r) c.add_to_narrow-2.ensures)
