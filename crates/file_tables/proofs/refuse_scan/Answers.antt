use Rattle.file_tables.specs.Tables.{refused_scan, blank_sections}
use Rattle.file_tables.proofs.refuse_scan.Goals as goal

pub returns : goal.returns
unfolding refused_scan blank_sections
returns c = rw c.blank_section-blank.ensures
