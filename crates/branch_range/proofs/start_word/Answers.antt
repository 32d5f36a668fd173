use Rattle.object_entry.specs.Entry.{object_entry}
use Rattle.object_plan.specs.Shifts.{address_shifts}
use Rattle.branch_range.specs.Range.{word_from}
use Rattle.branch_range.proofs.Known.{own-good, part-numbers, part-word}
use Rattle.branch_range.proofs.Amounts.{word-start}
use Rattle.branch_range.proofs.start_word.Goals as goal

pub entry_at-e-requires : goal.entry_at-e-requires
entry_at-e-requires c = let a = c.args in let p = c.requires.part_ready in (p.0.entries.tables, p.0.entries.ready, p.1, own-good a.file.now a.t a.s p.0 a.i p.1)

pub read_word-v-requires : goal.read_word-v-requires
read_word-v-requires c = let a = c.args in let p = c.requires in part-word a.file.now a.t a.s p.part_ready.0 a.i _ a.origin _ p.part_ready.1 c.entry_at-e.ensures p.to_len.2 p.part_ready.2

pub add_amount-requires : goal.add_amount-requires
add_amount-requires c = let a = c.args in let p = c.requires in let n = part-numbers a.file.now a.t a.s p.part_ready.0 a.i p.part_ready.1 c.entry_at-e.ensures in (p.to_len.0, p.to_len.1, n.0, n.1)

pub returns : goal.returns
returns c = let a = c.args in word-start (word_from a.bytes.now a.origin a.s) (address_shifts a.to.now a.from.now) _ _ (object_entry a.file.now a.t a.s a.i) c.entry_at-e.ensures c.read_word-v.ensures c.value_of-x.ensures c.add_amount.ensures
