use mathlib.Core.Path.{◌∙◌}
use Rattle.loader_entries.proofs.Readable.{entries-readable}
use Rattle.loader_entries.proofs.Order.{overlap-first, rest-first}
use Rattle.loader_entries.specs.Entries.{entries_check}
use Rattle.loader_entries.proofs.check_entries.Goals as goal

pub first_overlap-x-requires : goal.first_overlap-x-requires
first_overlap-x-requires c = entries-readable _ _ _ _ c.requires c.first_refused-own.ensures.first

pub returns-then-x-k : goal.returns-then-x-k
unfolding entries_check
returns-then-x-k c = overlap-first _ _ _ _ c.first_refused-own.ensures.first c.first_overlap-x.ensures c.if-x-k.true

pub returns : goal.returns
unfolding entries_check
returns c = c.first_refused-own.ensures.verdict ∙ rest-first _ _ _ _ c.first_refused-own.ensures.first c.first_overlap-x.ensures c.if-x-k.false
