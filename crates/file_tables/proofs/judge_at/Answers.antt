use lib.ListN.{length}
use Rattle.file_header.proofs.Fields.{section-whole}
use Rattle.file_tables.specs.Tables.{judged_at}
use Rattle.file_tables.proofs.judge_at.Goals as goal

pub read_section_header-s-requires : goal.read_section_header-s-requires
read_section_header-s-requires c = let a = c.args in rw c.section_start-base.ensures (section-whole a.h.format a.h.opthdr a.h.nscns a.i (length a.file.now) c.requires.2 c.requires.0.inside)

pub returns : goal.returns
unfolding judged_at
returns c = rw (c.judge_section.ensures, c.read_section_header-s.ensures, c.section_start-base.ensures)
