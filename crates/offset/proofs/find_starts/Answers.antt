use Rattle.word.proofs.Test.{found}
use Rattle.refusal.proofs.Order.{told, told-accepted}
use Rattle.offset.proofs.Found.{starts-large, starts-short, starts-unknown, starts-refused, starts-known}
use Rattle.offset.proofs.find_starts.Goals as goal

pub returns-then-len-gt-FILE_LIMIT : goal.returns-then-len-gt-FILE_LIMIT
returns-then-len-gt-FILE_LIMIT c = starts-large c.args.file.now c.if-len-gt-FILE_LIMIT.true

pub returns-then-len-lt2 : goal.returns-then-len-lt2
returns-then-len-lt2 c = starts-short c.args.file.now c.if-len-gt-FILE_LIMIT.false c.if-len-lt2.true

pub read_field-requires : goal.read_field-requires
read_field-requires c = rw c.at.ensures c.if-len-lt2.false

pub returns-then-is_err : goal.returns-then-is_err
returns-then-is_err c = starts-refused c.args.file.now c.if-len-gt-FILE_LIMIT.false c.if-len-lt2.false _ (found (rw (c.read_field.ensures.value, c.at.ensures) at c.format_of-a.ensures) c.in-Some.is) (told c.check_header-v.ensures c.is_err.ensures.value c.if-is_err.true)

pub starts_as-requires : goal.starts_as-requires
starts_as-requires c = (c.if-len-gt-FILE_LIMIT.false, told-accepted c.check_header-v.ensures c.is_err.ensures.value c.if-is_err.false)

pub returns-in-None : goal.returns-in-None
returns-in-None c = starts-unknown c.args.file.now c.if-len-gt-FILE_LIMIT.false c.if-len-lt2.false (found (rw (c.read_field.ensures.value, c.at.ensures) at c.format_of-a.ensures) c.in-None.is)

pub returns-else-is_err : goal.returns-else-is_err
returns-else-is_err c = starts-known c.args.file.now c.if-len-gt-FILE_LIMIT.false c.if-len-lt2.false _ (found (rw (c.read_field.ensures.value, c.at.ensures) at c.format_of-a.ensures) c.in-Some.is) (told-accepted c.check_header-v.ensures c.is_err.ensures.value c.if-is_err.false) c.starts_as.ensures
