use Rattle.word.proofs.Test.{found}
use Rattle.section.specs.Section.{judge_section, judge_kind}
use Rattle.section.proofs.judge_section.Goals as goal

pub returns-then-is_raw_data_past : goal.returns-then-is_raw_data_past
unfolding judge_section judge_kind
returns-then-is_raw_data_past c = rw (found c.of_flags-a.ensures c.in-Some.is, found c.is_raw_data_past.ensures c.if-is_raw_data_past.true)

pub returns-then-is_misplaced : goal.returns-then-is_misplaced
unfolding judge_section judge_kind
returns-then-is_misplaced c = rw (found c.of_flags-a.ensures c.in-Some.is, found c.is_raw_data_past.ensures c.if-is_raw_data_past.false, found c.is_misplaced.ensures c.if-is_misplaced.true)

pub returns-in-None : goal.returns-in-None
unfolding judge_section judge_kind
returns-in-None c = rw (found c.of_flags-a.ensures c.in-None.is)

pub returns-else-is_misplaced : goal.returns-else-is_misplaced
unfolding judge_section judge_kind
returns-else-is_misplaced c = rw (found c.of_flags-a.ensures c.in-Some.is, found c.is_raw_data_past.ensures c.if-is_raw_data_past.false, found c.is_misplaced.ensures c.if-is_misplaced.false, c.section_of.ensures)
