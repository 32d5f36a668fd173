use Rattle.section_relocation.specs.Entry.{effect_by}
use Rattle.section_relocation.proofs.effect_by.Goals as goal

pub returns-in-Adds : goal.returns-in-Adds
unfolding effect_by
returns-in-Adds c = rw c.in-Adds.is c.plain_effect.ensures

pub returns-in-Subtracts : goal.returns-in-Subtracts
unfolding effect_by
returns-in-Subtracts c = rw c.in-Subtracts.is c.plain_effect-in-Subtracts.ensures

pub returns-in-AbsoluteBranch : goal.returns-in-AbsoluteBranch
unfolding effect_by
returns-in-AbsoluteBranch c = rw c.in-AbsoluteBranch.is c.branch_effect.ensures

pub returns-in-RelativeBranch : goal.returns-in-RelativeBranch
unfolding effect_by
returns-in-RelativeBranch c = rw c.in-RelativeBranch.is c.branch_effect-in-RelativeBranch.ensures

pub returns-in-Keeps : goal.returns-in-Keeps
unfolding effect_by
returns-in-Keeps c = rw c.in-Keeps.is

pub returns-in-Other : goal.returns-in-Other
unfolding effect_by
returns-in-Other c = rw c.in-Other.is
