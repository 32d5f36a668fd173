use Rattle.branch_range.proofs.Order.{begin-run}
use Rattle.branch_range.proofs.Known.{held-good}
use Rattle.object_entry.proofs.Entries.{entry-field}
use Rattle.branch_range.proofs.begin.Goals as goal

pub field_in-g-requires : goal.field_in-g-requires
field_in-g-requires c = let a = c.args in let p = c.requires.part_ready in (p.0.entries.ready, p.1, held-good a.file.now a.t a.s p.0 _ p.1)

pub start_word-requires-clause-part_ready : goal.start_word-requires-clause-part_ready
start_word-requires-clause-part_ready c = let p = c.requires in (p.part_ready.0, p.part_ready.1, p.part_ready.2.here p.part_ready.1)

pub start_word-requires-clause-to_len : goal.start_word-requires-clause-to_len
start_word-requires-clause-to_len c = let p = c.requires in (p.to_len.0, p.to_len.1, p.to_len.2)

pub returns : goal.returns
returns c = let a = c.args in let p = c.requires in begin-run _ _ _ _ (λ j. entry-field a.file.now a.t a.s j) _ _ _ _ c.field_in-g.ensures p.part_ready.2 p.part_ready.1 c.start_word.ensures
