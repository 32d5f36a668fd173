use mathlib.Core.Path.{ap, ◌∙◌}
use Rattle.word.proofs.Test.{found}
use Rattle.header.proofs.Answer.{open-large, open-short, open_unknown, open-known}
use Rattle.header.specs.Open.{report_of_opened}
use Rattle.header.proofs.open.Goals as goal

pub returns-then-len-gt-FILE_LIMIT-clause-cause : goal.returns-then-len-gt-FILE_LIMIT-clause-cause
returns-then-len-gt-FILE_LIMIT-clause-cause c = let f = c.args.file.now in c.refuse.ensures ∙ open-large f c.if-len-gt-FILE_LIMIT.true

pub returns-then-len-gt-FILE_LIMIT-clause-report : goal.returns-then-len-gt-FILE_LIMIT-clause-report
returns-then-len-gt-FILE_LIMIT-clause-report c = let f = c.args.file.now in ap (report_of_opened _) (c.refuse.ensures ∙ open-large f c.if-len-gt-FILE_LIMIT.true)

pub returns-then-len-lt2-clause-cause : goal.returns-then-len-lt2-clause-cause
returns-then-len-lt2-clause-cause c = let f = c.args.file.now in c.refuse-then-len-lt2.ensures ∙ open-short f c.if-len-gt-FILE_LIMIT.false c.if-len-lt2.true

pub returns-then-len-lt2-clause-report : goal.returns-then-len-lt2-clause-report
returns-then-len-lt2-clause-report c = let f = c.args.file.now in ap (report_of_opened _) (c.refuse-then-len-lt2.ensures ∙ open-short f c.if-len-gt-FILE_LIMIT.false c.if-len-lt2.true)

pub read_field-requires : goal.read_field-requires
read_field-requires c = rw c.at.ensures c.if-len-lt2.false

pub returns-in-None-clause-cause : goal.returns-in-None-clause-cause
returns-in-None-clause-cause c = let f = c.args.file.now in c.refuse-in-None.ensures ∙ open_unknown f c.if-len-gt-FILE_LIMIT.false c.if-len-lt2.false (found (rw (c.read_field.ensures.value, c.at.ensures) at c.format_of-a.ensures) c.in-None.is)

pub returns-in-None-clause-report : goal.returns-in-None-clause-report
returns-in-None-clause-report c = let f = c.args.file.now in ap (report_of_opened _) (c.refuse-in-None.ensures ∙ open_unknown f c.if-len-gt-FILE_LIMIT.false c.if-len-lt2.false (found (rw (c.read_field.ensures.value, c.at.ensures) at c.format_of-a.ensures) c.in-None.is))

pub returns-in-Some-clause-cause : goal.returns-in-Some-clause-cause
returns-in-Some-clause-cause c = let f = c.args.file.now in c.open_as.ensures ∙ open-known f c.if-len-gt-FILE_LIMIT.false c.if-len-lt2.false _ (found (rw (c.read_field.ensures.value, c.at.ensures) at c.format_of-a.ensures) c.in-Some.is)

pub returns-in-Some-clause-report : goal.returns-in-Some-clause-report
returns-in-Some-clause-report c = let f = c.args.file.now in ap (report_of_opened _) (c.open_as.ensures ∙ open-known f c.if-len-gt-FILE_LIMIT.false c.if-len-lt2.false _ (found (rw (c.read_field.ensures.value, c.at.ensures) at c.format_of-a.ensures) c.in-Some.is))
