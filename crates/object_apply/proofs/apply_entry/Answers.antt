use Rattle.object_plan.specs.Shifts.{address_shifts}
use Rattle.object_apply.proofs.Entries.{own, symbol-listed, section-listed, field-inside, entry-applied}
use Rattle.object_apply.proofs.apply_entry.Goals as goal

pub entry_at-e-requires : goal.entry_at-e-requires
entry_at-e-requires c = let a = c.args in let p = c.requires.part_ready in (p.0.entries.tables, p.0.entries.ready, p.1, own a.file.now a.t a.s p.0 a.i p.1)

pub amount_of-z-requires-clause-symbol_in_bounds : goal.amount_of-z-requires-clause-symbol_in_bounds
amount_of-z-requires-clause-symbol_in_bounds c = let a = c.args in let p = c.requires.part_ready in let q = c.requires.to_len in let e = c.entry_at-e.ensures in (symbol-listed a.file.now a.t a.s p.0 a.i p.1 e q.0, symbol-listed a.file.now a.t a.s p.0 a.i p.1 e q.1)

pub amount_of-z-requires-clause-section_in_bounds : goal.amount_of-z-requires-clause-section_in_bounds
amount_of-z-requires-clause-section_in_bounds c = let a = c.args in let p = c.requires.part_ready in let q = c.requires.to_len in let e = c.entry_at-e.ensures in (section-listed a.file.now a.t a.s p.0 a.i p.1 e q.0, section-listed a.file.now a.t a.s p.0 a.i p.1 e q.1)

pub add_to-requires : goal.add_to-requires
add_to-requires c = let a = c.args in let p = c.requires.part_ready in field-inside a.file.now a.t a.s p.0 a.i p.1 c.entry_at-e.ensures c.requires.to_len.2

pub returns : goal.returns
returns c = let a = c.args in let p = c.requires.part_ready in entry-applied a.file.now a.t a.s p.0 a.i p.1 (address_shifts a.to.now a.from.now) a.buffer.now c.entry_at-e.ensures c.amount_of-z.ensures c.add_to.ensures
