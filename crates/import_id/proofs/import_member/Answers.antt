use Rattle.import_id.proofs.Strings.{import-within}
use Rattle.import_id.proofs.import_member.Goals as goal

pub part_of-requires : goal.part_of-requires
part_of-requires c = rw c.import_range-a.ensures.cause (import-within _ _ _)

pub returns : goal.returns
returns c = rw (← c.import_range-a.ensures.cause) c.part_of.ensures
