-- Which files are loadable modules: the module's sections, its loader section, then its relocation entries.
use Rattle.std.specs.Prelude.{ℕ, List, Err, Ok, Result}
use Rattle.format.specs.Layout.{bits_of}
use Rattle.refusal.specs.Refusal.{accepted_head}
use Rattle.module.specs.declared.Module.{Module}
use Rattle.module.specs.Module.{module_at}
use Rattle.loader.specs.Loader.{loader_in}
use Rattle.loadable.specs.declared.Loadable.{Loadable}
use Rattle.loadable.specs.declared.PartReport.{PartReport}
use Rattle.loadable.specs.declared.AnchorReport.{AnchorReport}
use Rattle.loadable.specs.declared.ModuleReport.{ModuleReport}
use Rattle.loader_entries.specs.Entries.{entries_check}
use Rattle.refusal.specs.Order.{by_verdict}
use Rattle.offset.specs.Report.{refusal_head}
use Rattle.refusal.specs.declared.Refusal.{Refusal}
use Rattle.loader_header.specs.declared.LoaderTables.{LoaderTables}

-- the relocation entries of a module whose loader section is accepted
unfoldable pub loadable_with : List ℕ → Module → Result LoaderTables Refusal → Result Loadable Refusal
loadable_with file m (Err x) = Err x
loadable_with file m (Ok t) = by_verdict (entries_check file m.format m.parts t) (Ok (record { layout = m; tables = t })) Err

unfoldable pub loadable_in : List ℕ → Result Module Refusal → Result Loadable Refusal
loadable_in file (Err x) = Err x
loadable_in file (Ok m) = loadable_with file m (loader_in file m)

-- what module_of answers: opening, the module's sections, its loader section, its entries
unfoldable pub loadable_at : List ℕ → Result Loadable Refusal
loadable_at file = loadable_in file (module_at file)

-- ---- the answer in document 01's numbers

abbrev pub part_report : ℕ → ℕ → ℕ → PartReport
part_report number address size = record { number = number; address = address; size = size }

abbrev pub anchor_report : ℕ → ℕ → AnchorReport
anchor_report section address = record { section = section; address = address }

-- the module's values
abbrev pub report_of_found : Loadable → ModuleReport
report_of_found l =
    let p = l.layout.parts in
    record {
      head = accepted_head;
      bits = bits_of l.layout.format;
      text = part_report p.text.number.0 p.text.address.0 p.text.size;
      «data» = part_report p.«data».number.0 p.«data».address.0 p.«data».size;
      bss = part_report p.bss.number.0 p.bss.address.0 p.bss.size;
      loader = p.loader.number.0;
      image = l.layout.image;
      symbols = l.tables.nsyms;
      relocations = l.tables.nreloc;
      ids = l.tables.nimpid;
      entry = anchor_report l.layout.entry.section.0 l.layout.entry.address.0;
      toc = anchor_report l.layout.toc.section.0 l.layout.toc.address.0;
    }

-- all 0 on a refusal, but for its head
abbrev pub report_of_module : List ℕ → Result Loadable Refusal → ModuleReport
report_of_module file (Ok l) = report_of_found l
report_of_module file (Err x) =
    record {
      head = refusal_head file x;
      bits = 0;
      text = part_report 0 0 0;
      «data» = part_report 0 0 0;
      bss = part_report 0 0 0;
      loader = 0;
      image = 0;
      symbols = 0;
      relocations = 0;
      ids = 0;
      entry = anchor_report 0 0;
      toc = anchor_report 0 0;
    }

abbrev pub module_report : List ℕ → ModuleReport
module_report file = report_of_module file (loadable_at file)
