use Rattle.file_tables.specs.Tables.{blank_sections}
use Rattle.header.specs.Open.{blank_summary}
use Rattle.header.proofs.refuse.Goals as goal

pub returns : goal.returns
unfolding blank_summary blank_sections
returns c = rw c.blank_section-blank.ensures
