use mathlib.Core.Path.{ap, ◌∙◌}
use Rattle.section.specs.declared.SectionHeader.{SectionHeader}
use Rattle.offset.proofs.Places.{no_table, header-found, table-there}
use Rattle.offset.proofs.section_table.Goals as goal

pub returns-then-at-eq0 : goal.returns-then-at-eq0
returns-then-at-eq0 c = let a = c.args in no_table a.file.now a.s a.n _ c.header_place-at.ensures c.if-at-eq0.true

pub read_section_header-h-requires : goal.read_section_header-h-requires
read_section_header-h-requires c = let a = c.args in rw (← c.requires.1) (header-found a.s a.n _ c.header_place-at.ensures c.if-at-eq0.false)

pub returns : goal.returns
returns c = let a = c.args in ap (λ (h : SectionHeader). h.relptr.0) c.read_section_header-h.ensures ∙ table-there a.file.now a.s a.n _ c.header_place-at.ensures c.if-at-eq0.false
