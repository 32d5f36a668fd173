use mathlib.Core.Path.{◌∙◌}
use Rattle.xcoff_c.proofs.xcoff_symbol.Goals as goal

pub returns : goal.returns
returns c = c.report_symbol.ensures ∙ c.symbol_at.ensures.report
