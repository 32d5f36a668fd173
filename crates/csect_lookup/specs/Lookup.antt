-- The csect entry of a symbol looked up in a file by its index, a label's with its container.
use Rattle.std.specs.Prelude.{ℕ, Bool, true, false, cond, ◌&&◌, List, ltb, Err, Ok, Result}
use Rattle.format.specs.declared.SymbolIndex.{SymbolIndex}
use Rattle.refusal.specs.declared.Refusal.TheVariants as refusal
use Rattle.refusal.specs.Refusal.{accepted_head}
use Rattle.header.specs.Open.{open_of}
use Rattle.symbol.specs.declared.Tables.{Tables}
use Rattle.symbol.specs.Entry.{tables_at}
use Rattle.symbol.specs.Symbol.{symbol_in}
use Rattle.csect.specs.declared.CsectType.{CsectType}
use Rattle.csect.specs.declared.CsectType.TheVariants.{Er, Sd, Ld, Cm}
use Rattle.csect.specs.declared.Csect.{Csect}
use Rattle.csect.specs.Csect.{own_after}
use Rattle.csect_lookup.specs.declared.CsectReport.{CsectReport}
use Rattle.refusal.specs.Order.{by_verdict}
use Rattle.offset.specs.Report.{refusal_head}
use Rattle.refusal.specs.declared.Refusal.{Refusal}
use Rattle.symbol.specs.declared.Symbol.{Symbol}

abbrev pub is_sd_type : CsectType → Bool
is_sd_type Sd = true
is_sd_type Er = false
is_sd_type Ld = false
is_sd_type Cm = false

abbrev pub is_sd : Result Csect Refusal → Bool
is_sd (Ok c) = is_sd_type c.kind
is_sd (Err x) = false

-- an LD's length is a smaller index whose own entry reads as an SD csect. An LD there fails whatever it points at, so its container
-- is not looked at: the law `Answers.container-read` says that this is the container's whole read
unfoldable pub is_contained : List ℕ → Tables → SymbolIndex → Csect → CsectType → Bool
is_contained file t i c Er = true
is_contained file t i c Sd = true
is_contained file t i c Cm = true
is_contained file t i c Ld =
    ltb c.length i.0 && is_sd (own_after file t (record { 0 = c.length }) (symbol_in file t (record { 0 = c.length })))

-- CSECT of an LD whose container is not as it must be, with the LD's own index
unfoldable pub contained : List ℕ → Tables → SymbolIndex → Result Csect Refusal → Result Csect Refusal
contained file t i (Err x) = Err x
contained file t i (Ok c) = cond (is_contained file t i c c.kind) (Ok c) (Err (refusal.Csect i))

-- the entry's own read comes first
unfoldable pub csect_after : List ℕ → Tables → SymbolIndex → Result Symbol Refusal → Result Csect Refusal
csect_after file t i a = contained file t i (own_after file t i a)

unfoldable pub csect_in : List ℕ → Tables → SymbolIndex → Result Csect Refusal
csect_in file t i = csect_after file t i (symbol_in file t i)

-- opening's refusals come first
unfoldable pub csect_at : List ℕ → SymbolIndex → Result Csect Refusal
csect_at file i = by_verdict (open_of file).verdict (csect_in file (tables_at file) i) Err

abbrev pub type_number : CsectType → ℕ
type_number Er = 0
type_number Sd = 1
type_number Ld = 2
type_number Cm = 3

-- the answer in document 01's numbers
abbrev pub report_of_csect : List ℕ → Result Csect Refusal → CsectReport
report_of_csect file (Ok c) =
    record { head = accepted_head; kind = type_number c.kind; align = c.align; smclas = c.smclas; length = c.length }
report_of_csect file (Err x) =
    record { head = refusal_head file x; kind = 0; align = 0; smclas = 0; length = 0 }

abbrev pub csect_report : List ℕ → SymbolIndex → CsectReport
csect_report file i = report_of_csect file (csect_at file i)
