use Rattle.plan_sheet.proofs.write_head.Goals as goal

pub returns : goal.returns
returns c = cc
