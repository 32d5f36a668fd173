use lib.ListN.{length}
use borrow.Author.Tests.{eq-eqb, ne_eqb}
use Rattle.line.specs.Line.{entry_at}
use Rattle.line.proofs.Entries.{entry-inside}
use Rattle.line.proofs.entry_at.Goals as goal

pub read_field-line-requires : goal.read_field-line-requires
read_field-line-requires c = (entry-inside c.args.f c.args.at (length c.args.file.now) c.line_layout-l.ensures c.requires).2

pub read_field-requires : goal.read_field-requires
read_field-requires c = (entry-inside c.args.f c.args.at (length c.args.file.now) c.line_layout-l.ensures c.requires).0

pub returns-then-line-eq0 : goal.returns-then-line-eq0
unfolding entry_at
returns-then-line-eq0 c = rw (← c.line_layout-l.ensures, ← c.read_field-line.ensures.value, eq-eqb _ _ c.if-line-eq0.true, c.read_field.ensures.value)

pub read_field-requires-2 : goal.read_field-requires-2
read_field-requires-2 c = (entry-inside c.args.f c.args.at (length c.args.file.now) c.line_layout-l.ensures c.requires).1

pub returns : goal.returns
unfolding entry_at
returns c = rw (← c.line_layout-l.ensures, ← c.read_field-line.ensures.value, ne_eqb _ _ c.if-line-eq0.false, c.read_field-2.ensures.value)
