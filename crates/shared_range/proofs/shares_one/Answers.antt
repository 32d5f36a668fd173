use Rattle.std.proofs.Common.{rules, take, drop}
use borrow.Author.Tests.{tests}
use mathlib.Core.Path.{◌∙◌}
use Rattle.std.proofs.lemmas.Iterator.{YieldsList-from_slice}
use Rattle.std.proofs.lemmas.Iterator.Adapters.{YieldsList-from_skip}
use Rattle.std.proofs.lemmas.Iterator.Search.{any_from_yields_List}
use Rattle.shared_range.specs.Shared.{shares}
use Rattle.shared_range.proofs.Shared.{one-any}
use Rattle.shared_range.proofs.shares_one.Goals as goal

pub returns : goal.returns
returns c =
    let rs = take c.args.n c.args.rs in
    any_from_yields_List (shares c.args.a) _ _ _ c.any.ensures.ran (YieldsList-from_skip c.args.from (YieldsList-from_slice rs cc) cc) (λ x b q k. search (rules, tests))
    ∙ one-any c.args.a (drop c.args.from rs)
