use Rattle.std.proofs.Common.{rules, ◌≡◌}
use mathlib.Core.Path.{◌∙◌}
use borrow.Author.Tests.{tests}
use lib.Dec.{eqb}
use Rattle.std.specs.List.{find}
use Rattle.std.specs.Option.{option_map}
use Rattle.std.specs.Slice.Iter.{iter_rest}
use Rattle.std.proofs.lemmas.Iterator.{YieldsList-from_slice}
use Rattle.std.proofs.lemmas.Iterator.Search.{find_from_yields_List}
use Rattle.section_kind.specs.Kind.{flags_of, kinds, listed_kind}
use Rattle.section_kind.proofs.Lookup.{kind-found}
use Rattle.section_kind.proofs.SectionKind.listed.Goals as goal
use Rattle.section_kind.proofs.SectionKind.listed.Goals.{After-find}

-- what the search finds in the list
found : (c : After-find) → iter_rest c.iter.result ≡ kinds → option_map (λ k. k.now) c.find.result ≡ find (λ k. eqb (flags_of k) c.args.low) kinds
found c e = find_from_yields_List (λ k. eqb (flags_of k) c.args.low) _ _ _ c.find.ensures.ran (YieldsList-from_slice kinds e) (λ x b q k. search (rules, tests))

pub returns : goal.returns
unfolding listed_kind
returns c = c.copied.ensures ∙ found (goal.at.returns c).After-find c.iter.ensures.rest ∙ kind-found c.args.low kinds
