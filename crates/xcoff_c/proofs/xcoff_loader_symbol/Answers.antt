use mathlib.Core.Path.{◌∙◌}
use Rattle.xcoff_c.proofs.xcoff_loader_symbol.Goals as goal

pub returns : goal.returns
returns c = c.report_loader_symbol.ensures ∙ c.loader_symbol.ensures.report
