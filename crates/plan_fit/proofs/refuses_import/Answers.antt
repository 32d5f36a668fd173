use mathlib.Core.Path.{refl}
use native.Mathlib.Omega.{arith}
use Rattle.history.specs.Plan.{address_check}
use Rattle.plan.proofs.Fit.{import-above, import-below, import-other}
use Rattle.plan.proofs.Symbols.{symbol-in}
use Rattle.word.proofs.Test.{found}
use Rattle.plan_fit.proofs.refuses_import.Goals as goal

pub returns-then-list-k : goal.returns-then-list-k
returns-then-list-k c = let a = c.args in import-below a.file.now a.l _ _ c.requires.valid.2 (omega (arith, c.if-list-k.true, c.requires.last_value))

pub followed_at-f-requires : goal.followed_at-f-requires
followed_at-f-requires c = let a = c.args in symbol-in a.file.now a.l a.k c.requires.valid.0 c.requires.valid.2

pub returns-in-Text : goal.returns-in-Text
unfolding address_check
returns-in-Text c = import-other _ c.args.l _ _ c.requires.valid.2 _ (found c.followed_at-f.ensures c.in-Text.is) refl

pub returns-in-Data : goal.returns-in-Data
unfolding address_check
returns-in-Data c = import-other _ c.args.l _ _ c.requires.valid.2 _ (found c.followed_at-f.ensures c.in-Data.is) refl

pub returns-in-Import : goal.returns-in-Import
returns-in-Import c = import-above _ c.args.l _ _ c.requires.valid.2 _ _ (found c.followed_at-f.ensures c.in-Import.is) (omega (arith, c.if-list-k.false, c.requires.last_value))

pub returns-in-Nothing : goal.returns-in-Nothing
unfolding address_check
returns-in-Nothing c = import-other _ c.args.l _ _ c.requires.valid.2 _ (found c.followed_at-f.ensures c.in-Nothing.is) refl
