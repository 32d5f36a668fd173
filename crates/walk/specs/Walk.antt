-- The walk: it starts at 0, goes on by 1 + auxiliaries, and ends at the table's end or the first refusal.
use Rattle.std.specs.Prelude.{ℕ, zero, suc, ◌+◌, cond, List, [], ◌∷◌, leb, length, Err, Ok, Result}
use Rattle.format.specs.declared.SymbolIndex.{SymbolIndex}
use Rattle.refusal.specs.Refusal.{accepted_head}
use Rattle.refusal.specs.Order.{by_verdict}
use Rattle.offset.specs.Report.{refusal_head, report_head}
use Rattle.header.specs.Open.{open_of}
use Rattle.symbol.specs.declared.Tables.{Tables}
use Rattle.symbol.specs.Entry.{tables_at, entry_of}
use Rattle.symbol.specs.Symbol.{symbol_check, symbol_in}
use Rattle.walk.specs.declared.WalkEnd.{WalkEnd}
use Rattle.walk.specs.declared.WalkReport.{WalkReport}
use Rattle.refusal.specs.declared.Refusal.{Refusal}
use Rattle.symbol.specs.declared.Symbol.{Symbol}
use Rattle.refusal.specs.Verdict.{Verdict}

-- one step: a refusal ends the walk, and a symbol is visited
unfoldable pub visit_step : ℕ → (ℕ → List SymbolIndex) → Result Symbol Refusal → List SymbolIndex
visit_step i rest (Err x) = []
visit_step i rest (Ok s) = record { 0 = i } ∷ rest (i + 1 + s.numaux)

-- the symbols that at most `steps` steps from index i visit
unfoldable pub visited_from : List ℕ → Tables → ℕ → ℕ → List SymbolIndex
visited_from file t zero i = []
visited_from file t (suc steps) i =
    cond (leb t.count i) [] (visit_step i (visited_from file t steps) (symbol_in file t (record { 0 = i })))

-- each step passes an entry, so there are never more steps than entries
unfoldable pub visited_in : List ℕ → Tables → List SymbolIndex
visited_in file t = visited_from file t t.count 0

-- the index behind the symbols visited from i on and the auxiliaries of each
abbrev pub behind : List ℕ → Tables → ℕ → List SymbolIndex → ℕ
behind file t i [] = i
behind file t i (j ∷ js) = behind file t (j.0 + 1 + (entry_of file t j).numaux) js

-- why the walk ends at index i: the table does, or the entry there is refused
abbrev pub cause_at : List ℕ → Tables → ℕ → Verdict
cause_at file t i =
    cond (leb t.count i) (Ok tt) (symbol_check file t (record { 0 = i }) (entry_of file t (record { 0 = i })))

-- the end of a walk that visits these from index i on, n before them
abbrev pub end_of : List ℕ → Tables → ℕ → ℕ → List SymbolIndex → WalkEnd
end_of file t i n js =
    record { visited = n + length js; end = record { 0 = behind file t i js }; cause = cause_at file t (behind file t i js) }

unfoldable pub walk_in : List ℕ → Tables → WalkEnd
walk_in file t = end_of file t 0 0 (visited_in file t)

-- opening's refusals come first
unfoldable pub walk_of : List ℕ → Result WalkEnd Refusal
walk_of file = by_verdict (open_of file).verdict (Ok (walk_in file (tables_at file))) Err

-- the answer in document 01's numbers; a walk that stops is an answer, and its cause has a head of its own
abbrev pub report_of_walk : List ℕ → Result WalkEnd Refusal → WalkReport
report_of_walk file (Ok w) =
    record { head = accepted_head; visited = w.visited; end = w.end.0; cause = report_head file w.cause }
report_of_walk file (Err x) =
    record { head = refusal_head file x; visited = 0; end = 0; cause = accepted_head }

abbrev pub walk_report : List ℕ → WalkReport
walk_report file = report_of_walk file (walk_of file)
