use Rattle.std.proofs.Common.{◌≡◌, ◌∙◌, refl}
use Rattle.std.specs.Prelude.{None, Option, Some, ok_or}
use Rattle.line.specs.declared.LineError.TheVariants.{NoLine}
use Rattle.line.specs.declared.LineFound.{LineFound}
use Rattle.line.specs.Search.{answer_of, best_answer}
use Rattle.line_search.proofs.answer_of.Goals as goal

-- NOLINE where nothing was found
best-given : (b : Option LineFound) → ok_or b NoLine ≡ best_answer b
unfolding best_answer
best-given None = refl
best-given (Some x) = refl

pub returns-then-s : goal.returns-then-s
unfolding answer_of
returns-then-s c = rw c.if-s.true

pub returns : goal.returns
unfolding answer_of
returns c = rw c.if-s.false (c.ok_or.ensures.value ∙ best-given _)
