-- The line of the file, then those of the sections.
use Rattle.listing.specs.Listing.{file_line, section_lines, summary_text}
use Rattle.text.proofs.Stores.{Wrote, wrote, wrote-first, ◌then◌}
use lib.ListN.{take}
use native.Mathlib.Omega.{arith}
use Rattle.listing.proofs.put_summary.Goals as goal

pub returns-clause-next : goal.returns-clause-next
unfolding summary_text
returns-clause-next c = let a = c.args in let y = a.y in let lines : Wrote a.out.now 0 (summary_text y) c.put_section_lines.new.out c.put_section_lines.result = wrote-first (file_line y.format y.count y.symbols.count) c.put_file_line-at.ensures.next c.put_file_line-at.ensures.text then wrote (section_lines y.format 1 (take y.count y.sections)) c.put_section_lines.ensures.next c.put_section_lines.ensures.text in omega arith

pub returns-clause-text : goal.returns-clause-text
unfolding summary_text
returns-clause-text c = let a = c.args in let y = a.y in let lines : Wrote a.out.now 0 (summary_text y) c.put_section_lines.new.out c.put_section_lines.result = wrote-first (file_line y.format y.count y.symbols.count) c.put_file_line-at.ensures.next c.put_file_line-at.ensures.text then wrote (section_lines y.format 1 (take y.count y.sections)) c.put_section_lines.ensures.next c.put_section_lines.ensures.text in lines.text
