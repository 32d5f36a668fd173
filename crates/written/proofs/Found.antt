-- An accepted module, check by check, both ways; and where its tables lie. Assumes nothing.
use mathlib.Core.Path.{◌≡◌, refl, sym, ◌∙◌, ap, subst}
use mathlib.Core.Bool.{false}
use mathlib.Core.List.{List}
use Prim.Native.Nat.{ℕ, ◌+◌, ◌*◌, ◌≤◌}
use native.Mathlib.Decide.{ℕ_discrete}
use native.Mathlib.Omega.{arith}
use lib.ListN.{length}
use lib.Dec.{ltb}
use borrow.Author.Tests.{ltb-false}
use Rattle.format.specs.declared.Format.{Format}
use Rattle.format.specs.declared.FileRange.{FileRange}
use Rattle.format.specs.Layout.{header_layout, aux_layout, loader_layout, loader_symbol_length, relocation_layout}
use Rattle.format.specs.Range.{range}
use Rattle.refusal.specs.Order.{refuse_if, by_verdict}
use Rattle.refusal.proofs.Order.{accepted-first, accepted-test}
use Rattle.header.specs.declared.Summary.{Summary}
use Rattle.header.specs.Open.{open_of}
use Rattle.header.specs.Inside.{Inside}
use Rattle.header.proofs.Accepted.{opened_inside}
use Rattle.file_header.specs.Header.{section_start}
use Rattle.format.specs.Limit.{file_limit}
use Rattle.parts.specs.Sections.{parts_of}
use Rattle.module.specs.declared.Module.{Module}
use Rattle.module.specs.Module.{aux_of, module_check, module_with, module_in, module_at}
use Rattle.module.proofs.Accepted.{module-inside}
use Rattle.loader_header.specs.declared.LoaderHeader.{LoaderHeader}
use Rattle.loader_header.specs.declared.LoaderTables.{LoaderTables}
use Rattle.loader_header.specs.Header.{loader_header_at, tables_of, table_past, place_of, header_check, PlacesGood}
use Rattle.loader_header.proofs.Places.{table-in, place-full}
use Rattle.loader.specs.Loader.{tables_in, loader_check, loader_in}
use Rattle.loader.proofs.Accepted.{long-enough, loader-known}
use Rattle.loadable.specs.declared.Loadable.{Loadable}
use Rattle.loader_entries.specs.Entries.{entries_check}
use Rattle.loadable.specs.Loadable.{loadable_with, loadable_in, loadable_at}
use Rattle.loadable.proofs.Accepted.{loader-room}
use Rattle.shared_range.specs.Shared.{Holds}
use Rattle.written.specs.Shared.{part_range}
use Rattle.std.specs.Prelude.{Err, Ok, Result}
use Rattle.refusal.specs.declared.Refusal.{Refusal}
use Rattle.refusal.specs.Verdict.{Verdict}

-- ---- an opened file

opthdr-start : (f : Format) (opthdr n len : ℕ) → section_start f opthdr n ≤ len → len ≤ file_limit → opthdr ≤ file_limit
unfolding section_start
opthdr-start f opthdr n len h s = omega arith

start-room : (f : Format) (opthdr n len : ℕ) → (aux_layout f).length ≤ opthdr → section_start f opthdr n ≤ len → (header_layout f).length + (aux_layout f).length ≤ len
unfolding section_start
start-room f opthdr n len a b = omega arith

pub opthdr-small : (file : List ℕ) (y : Summary) → Inside file y → y.opthdr ≤ file_limit
opthdr-small file y i = opthdr-start y.format y.opthdr y.count (length file) i.headers i.small

-- ---- the sections

pub record ModuleFound (file : List ℕ) (m : Module) : Type 0 where
  pub opened : (open_of file).verdict ≡ Ok tt
  pub check : module_check file (open_of file).summary ≡ Ok tt
  pub is : module_with (open_of file).summary.format (parts_of (open_of file).summary) (aux_of file (open_of file).summary) ≡ m

pub module-found : (file : List ℕ) (m : Module) → module_at file ≡ Ok m → ModuleFound file m
unfolding module_at module_in
module-found file m e = by-verdicts (open_of file).verdict (module_check file (open_of file).summary) refl refl e
  where
    by-verdicts : (v w : Verdict) → (open_of file).verdict ≡ v → module_check file (open_of file).summary ≡ w
        → by_verdict v (by_verdict w (Ok (module_with (open_of file).summary.format (parts_of (open_of file).summary) (aux_of file (open_of file).summary))) Err) Err ≡ Ok m
        → ModuleFound file m
    by-verdicts (Ok _) (Ok _) a b q = record { opened = a; check = b; is = cc }
    by-verdicts (Ok tt) (Err x) a b q = absurd (let z : ◌≡◌ {A = ℕ} 0 1 = cc in omega arith)
    by-verdicts (Err x) w a b q = absurd (let z : ◌≡◌ {A = ℕ} 0 1 = cc in omega arith)

-- a file that opens to y and passes the module's checks is a module
pub module-at : (file : List ℕ) (y : Summary) → open_of file ≡ record { verdict = Ok tt; summary = y } → module_check file y ≡ Ok tt
    → module_at file ≡ Ok (module_with y.format (parts_of y) (aux_of file y))
unfolding module_at module_in
module-at file y q e = rw (q, e) refl

-- ---- the loader section and the entries

pub record LoadableFound (file : List ℕ) (l : Loadable) : Type 0 where
  pub sections : module_at file ≡ Ok l.layout
  pub check : loader_check file l.layout ≡ Ok tt
  pub tables : tables_in file l.layout ≡ l.tables
  pub entries : entries_check file l.layout.format l.layout.parts l.tables ≡ Ok tt

pub loadable-found : (file : List ℕ) (l : Loadable) → loadable_at file ≡ Ok l → LoadableFound file l
unfolding loadable_at
loadable-found file l e = by-module (module_at file) refl e
  where
    by_entries : (m : Module) (t : LoaderTables) (v : Verdict) → module_at file ≡ Ok m → loader_check file m ≡ Ok tt → tables_in file m ≡ t
        → entries_check file m.format m.parts t ≡ v → by_verdict v (Ok (record { layout = m; tables = t })) Err ≡ Ok l → LoadableFound file l
    by_entries m t (Ok tt) a b c d q =
        let z : ◌≡◌ {A = Loadable} (record { layout = m; tables = t }) l = cc in
        subst (λ (k : Loadable). LoadableFound file k) z (record { sections = a; check = b; tables = c; entries = d })
    by_entries m t (Err x) a b c d q = absurd (let z : ◌≡◌ {A = ℕ} 0 1 = cc in omega arith)

    by-loader : (m : Module) (v : Verdict) → module_at file ≡ Ok m → loader_check file m ≡ v
        → loadable_with file m (by_verdict v (Ok (tables_in file m)) Err) ≡ Ok l → LoadableFound file l
    by-loader m (Ok tt) a b q = by_entries m (tables_in file m) (entries_check file m.format m.parts (tables_in file m)) a b refl refl (unfold loadable_with in q)
    by-loader m (Err x) a b q = absurd (let z : Err x ≡ Ok l = unfold loadable_with in q in let y : ◌≡◌ {A = ℕ} 0 1 = cc in omega arith)

    by-module : (a : Result Module Refusal) → module_at file ≡ a → loadable_in file a ≡ Ok l → LoadableFound file l
    by-module (Err x) a q = absurd (let z : Err x ≡ Ok l = unfold loadable_in in q in let y : ◌≡◌ {A = ℕ} 0 1 = cc in omega arith)
    by-module (Ok m) a q = by-loader m (loader_check file m) a refl (unfold loadable_in loader_in in q)

-- and the other way
pub loadable-at : (file : List ℕ) (l : Loadable) → LoadableFound file l → loadable_at file ≡ Ok l
unfolding loadable_at loadable_in loadable_with loader_in
loadable-at file l r = rw (r.sections, r.check, r.tables, r.entries) refl

-- ---- where the tables lie

-- a range inside another
abbrev pub Within : FileRange → FileRange → Type 0
Within a b = (k : ℕ) → Holds a k → Holds b k

-- the loader section's header and tables are in it
pub record TablesWithin (l : Loadable) : Type 0 where
  pub header : Within (range l.layout.parts.loader.start.0 (loader_layout l.layout.format).length) (part_range l.layout.parts.loader)
  pub symbols : Within (range l.tables.symbols.0 (l.tables.nsyms * loader_symbol_length)) (part_range l.layout.parts.loader)
  pub relocations : Within (range l.tables.relocations.0 (l.tables.nreloc * (relocation_layout l.layout.format).length)) (part_range l.layout.parts.loader)
  pub ids : Within l.tables.ids (part_range l.layout.parts.loader)
  pub strings : Within l.tables.strings (part_range l.layout.parts.loader)

table-within : (start off len size : ℕ) → table_past off len size ≡ false → Dec (len ≡ 0) → Within (range (place_of start off len) len) (range start size)
table-within start off len size e (yes z) k h = absurd (let a = h.low in let b = h.high in omega arith)
table-within start off len size e (no z) k h =
    let a = h.low in
    let b = h.high in
    let p = place-full start off len z in
    let t = table-in off len size e z in
    record { low = omega arith; high = omega arith }

places-within : (m : Module) (h : LoaderHeader) → (loader_layout m.format).length ≤ m.parts.loader.size → PlacesGood m.format m.parts.loader.start.0 m.parts.loader.size h
    → TablesWithin (record { layout = m; tables = tables_of m.format m.parts.loader.start.0 h })
unfolding tables_of
places-within m h long p =
    let start = m.parts.loader.start.0 in
    let size = m.parts.loader.size in
    let relocs = h.nreloc * (relocation_layout m.format).length in
    record {
      header = λ k g. let a = g.low in let b = g.high in record { low = a; high = omega arith };
      symbols = table-within start h.symoff (h.nsyms * loader_symbol_length) size p.symbols (ℕ_discrete (h.nsyms * loader_symbol_length) 0);
      relocations = table-within start h.rldoff relocs size p.relocations (ℕ_discrete relocs 0);
      ids = table-within start h.impoff h.istlen size p.ids (ℕ_discrete h.istlen 0);
      strings = table-within start h.stoff h.stlen size p.strings (ℕ_discrete h.stlen 0);
    }

pub tables-are : (file : List ℕ) (m : Module) → tables_of m.format m.parts.loader.start.0 (loader_header_at m.format m.parts.loader.start.0 file) ≡ tables_in file m
unfolding tables_in
tables-are file m = refl

pub header-accepted : (file : List ℕ) (m : Module) → loader_check file m ≡ Ok tt → header_check file m.format m.parts.loader.start.0 m.parts.loader.size ≡ Ok tt
unfolding loader_check
header-accepted file m e = accepted-first (header_check file m.format m.parts.loader.start.0 m.parts.loader.size) _ e

pub tables-within : (file : List ℕ) (l : Loadable) → LoadableFound file l → TablesWithin l
tables-within file l r =
    let m = l.layout in
    let c = header-accepted file m r.check in
    let i = module-inside file m r.sections in
    let start = m.parts.loader.start.0 in
    let size = m.parts.loader.size in
    subst (λ (t : LoaderTables). TablesWithin (record { layout = m; tables = t })) (tables-are file m ∙ r.tables)
    (places-within m (loader_header_at m.format start file) (long-enough file m.format start size c) (loader-known file m.format start size c (loader-room file m i)).places)

-- ---- what an accepted module tells of its auxiliary header

module _ (file : List ℕ) (l : Loadable) (e : loadable_at file ≡ Ok l) where
  found : ModuleFound file l.layout
  found = module-found file l.layout (loadable-found file l e).sections

  -- it opens
  pub found-opened : (open_of file).verdict ≡ Ok tt
  found-opened = found.opened

  -- the module's format is the file's
  pub found-format : l.layout.format ≡ (open_of file).summary.format
  found-format = sym (ap (λ (m : Module). m.format) found.is) ∙ (unfold module_with in refl)

  -- the auxiliary header is whole
  long-aux : (aux_layout (open_of file).summary.format).length ≤ (open_of file).summary.opthdr
  long-aux =
      let y = (open_of file).summary in
      let test : module_check file y ≡ (Ok tt) = found.check in
      ltb-false y.opthdr (aux_layout y.format).length
      (unfold module_check in accepted-test (ltb y.opthdr (aux_layout y.format).length) _ (accepted-first (refuse_if (ltb y.opthdr (aux_layout y.format).length) _) _ found.check))

  -- and in the file
  pub found-aux : (header_layout l.layout.format).length + (aux_layout l.layout.format).length ≤ length file
  found-aux =
      let y = (open_of file).summary in
      rw found-format (start-room y.format y.opthdr y.count (length file) long-aux (opened_inside file found-opened).headers)
