use native.Mathlib.Omega.{arith}
use mathlib.Core.Path.{◌∙◌}
use Rattle.section_entries.specs.Entries.{entries_check}
use Rattle.section_entries.proofs.Accepted.{entries-readable}
use Rattle.section_entries.proofs.Order.{overlap-first, rest-first}
use Rattle.section_entries.proofs.check_entries.Goals as goal

pub first_overlap-x-requires : goal.first_overlap-x-requires
first_overlap-x-requires c = entries-readable _ _ _ c.requires c.first_refused-own.ensures.first

pub name_of-requires : goal.name_of-requires
name_of-requires c = omega (arith, c.first_overlap-x.ensures.within, c.first_refused-own.ensures.first.within, c.requires.ready.numbered, c.if-x-k.true)

pub returns-then-x-k : goal.returns-then-x-k
unfolding entries_check
returns-then-x-k c = rw c.name_of.ensures (overlap-first _ _ _ c.first_refused-own.ensures.first c.first_overlap-x.ensures c.if-x-k.true)

pub returns : goal.returns
unfolding entries_check
returns c = c.first_refused-own.ensures.verdict ∙ rest-first _ _ _ c.first_refused-own.ensures.first c.first_overlap-x.ensures c.if-x-k.false
