use Rattle.std.proofs.Common.{rules}
use mathlib.Core.Path.{◌∙◌}
use Rattle.word.proofs.Test.{found}
use Rattle.file_tables.proofs.Sections.{left-start, left-turn, sections-more, scan-refused, scan-accepted}
use Rattle.file_tables.specs.Tables.{sections_of, blank_sections}
use Rattle.file_tables.proofs.scan_sections.Goals as goal

pub loop-i-init : goal.loop-i-init
unfolding sections_of blank_sections
loop-i-init c = (left-start _ _, rw c.blank_section-blank.ensures)

pub returns-in-Err : goal.returns-in-Err
returns-in-Err c = let s = c.args in let l = c.loop-i in c.refuse_scan.ensures ∙ scan-refused s.file.now s.h l.i _ c.loop-i-test.true (found c.judge_at-a.ensures c.in-Err.is) l.invariant.0

pub loop-i-preserved : goal.loop-i-preserved
loop-i-preserved c = let s = c.args in let l = c.loop-i in let e = found c.judge_at-a.ensures c.in-Ok.is in (left-turn s.file.now s.h l.i _ c.loop-i-test.true e l.invariant.0, rw l.invariant.1 (sections-more s.file.now s.h l.i _ e))

pub returns : goal.returns
returns c = let s = c.args in let l = c.loop-i in scan-accepted s.file.now s.h l.i l.sections c.loop-i-test.false (search rules) l.invariant.0 l.invariant.1
