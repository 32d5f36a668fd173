use mathlib.Core.Path.{◌∙◌}
use lib.IntN.{pos}
use Rattle.field_kind.proofs.Laws.{inside-told, to-nothing, to-four, to-eight, to-branch}
use Rattle.field_kind.proofs.add_to.Goals as goal

pub add32-requires : goal.add32-requires
add32-requires c = inside-told _ _ c.in-Four.is c.requires

pub add64-requires : goal.add64-requires
add64-requires c = inside-told _ _ c.in-Eight.is c.requires

pub add_branch-requires : goal.add_branch-requires
add_branch-requires c = inside-told _ _ c.in-Branch.is c.requires

pub returns-in-Nothing : goal.returns-in-Nothing
returns-in-Nothing c = let a = c.args in to-nothing a.off (pos a.d) a.s.now c.in-Nothing.is

pub returns-in-Four : goal.returns-in-Four
returns-in-Four c = let a = c.args in c.add32.ensures ∙ to-four a.off (pos a.d) a.s.now c.in-Four.is

pub returns-in-Eight : goal.returns-in-Eight
returns-in-Eight c = let a = c.args in c.add64.ensures ∙ to-eight a.off (pos a.d) a.s.now c.in-Eight.is

pub returns-in-Branch : goal.returns-in-Branch
returns-in-Branch c = let a = c.args in c.add_branch.ensures ∙ to-branch a.off (pos a.d) a.s.now c.in-Branch.is
