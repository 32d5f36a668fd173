-- What the loader section's refusals name is there. Assumes nothing.
use Prim.Native.Nat.{ℕ, ◌+◌, ◌*◌, ◌%◌, ◌≤◌, ◌<◌}
use mathlib.Core.Path.{◌≡◌, refl}
use mathlib.Core.Bool.{not, ◌&&◌, ◌||◌}
use mathlib.Core.List.{List}
use native.Mathlib.Nat.{mul-le-mul_right}
use native.Mathlib.Omega.{arith}
use lib.Dec.{eqb, ltb}
use lib.ListN.{length}
use Rattle.word.specs.Zero.{zeros_in}
use Rattle.format.specs.declared.Format.{Format}
use Rattle.format.specs.Layout.{loader_layout, loader_symbol_length, relocation_layout}
use Rattle.format.specs.Limit.{loader_symbol_limit, relocation_limit}
use Rattle.format.specs.Range.{bytes_of}
use Rattle.refusal.specs.declared.LimitItem.TheVariants.{LoaderSymbols, Relocations}
use Rattle.refusal.specs.declared.LoaderItem.{LoaderItem}
use Rattle.refusal.specs.declared.LoaderItem.TheVariants.{ShortHeader, Version, SymbolsPast, RelocationsPast, ImportIdsPast, StringsPast}
use Rattle.refusal.specs.declared.Refusal.{Refusal}
use Rattle.refusal.specs.declared.Refusal.TheVariants as refusal
use Rattle.refusal.proofs.Causes.{Causes, cause-if, cause-test, cause-then, cause-first}
use Rattle.file_header.specs.declared.FileHeader.{FileHeader}
use Rattle.file_header.specs.Header.{header_at}
use Rattle.offset.specs.Offset.{starts_as, loader_symbol_place}
use Rattle.offset.specs.Named.{NamesLoaderSymbol, Named, loader_start, loader_of}
use Rattle.offset.proofs.Named.{named_by, loader-named, loader-symbol-named}
use Rattle.module.specs.declared.Module.{Module}
use Rattle.module.proofs.Named.{LoaderPlace}
use Rattle.loader_header.specs.declared.LoaderHeader.{LoaderHeader}
use Rattle.loader_header.specs.Header.{loader_header_at, table_past, tables_of, numbers_check, places_check, header_check, LoaderRoom}
use Rattle.loader_header.proofs.Places.{place-full}
use Rattle.loader_symbol.specs.Symbol.{is_placed, is_found, name_in, entry_start, entry_at, entry_check, symbol_check}
use Rattle.loader.specs.Loader.{tables_in, symbols_check, loader_check}
use Rattle.loader.proofs.Accepted.{Known, loader-known}
use Rattle.std.specs.Prelude.{Err, Ok, Result}
use Rattle.loader_header.specs.declared.LoaderTables.{LoaderTables}

-- what holds of the refusal of a loader section's answer
abbrev pub LoaderCauses : (Refusal → Type 0) → Result LoaderTables Refusal → Type 0
LoaderCauses P (Ok t) = Unit {0}
LoaderCauses P (Err x) = P x

-- a table that is not empty starts at its offset
pub not-empty : (n k size : ℕ) → k < n → 0 < size → n * size ≡ 0 → ⊥
not-empty n k size p q e = let m : 1 * size ≤ n * size = mul-le-mul_right size (omega arith) in absurd (omega arith)

module _ (file : List ℕ) (m : Module) (l : LoaderPlace file m) where
  abbrev P : Refusal → Type 0
  P = Named file

  abbrev h : FileHeader
  h = header_at l.opened.format file

  loader-item : (i : LoaderItem) → P (refusal.Loader i)
  loader-item i = let o = l.opened in named_by file o.format o.headed (refusal.Loader i) (loader-named file o.format o.headed l.inside)

  numbers-named : (n : LoaderHeader) → Causes P (numbers_check n)
  unfolding numbers_check
  numbers-named n =
      let o = l.opened in
      let s = loader-named file o.format o.headed l.inside in
      cause-test P (not (eqb n.version 1 || eqb n.version 2)) (refusal.Loader Version) _ (λ _. loader-item Version)
      (λ _. cause-test P (ltb loader_symbol_limit n.nsyms) (refusal.Limit LoaderSymbols) _ (λ _. named_by file o.format o.headed (refusal.Limit LoaderSymbols) s)
      (λ _. cause-if P (ltb relocation_limit n.nreloc) (refusal.Limit Relocations) (λ _. named_by file o.format o.headed (refusal.Limit Relocations) s)))

  places-named : (f : Format) (start size : ℕ) (n : LoaderHeader) → Causes P (places_check file f start size n)
  unfolding places_check
  places-named f start size n =
      cause-test P (table_past n.symoff (n.nsyms * loader_symbol_length) size) (refusal.Loader SymbolsPast) _ (λ _. loader-item SymbolsPast)
      (λ _. cause-test P (table_past n.rldoff (n.nreloc * (relocation_layout f).length) size) (refusal.Loader RelocationsPast) _ (λ _. loader-item RelocationsPast)
      (λ _. cause-test P (table_past n.impoff n.istlen size || ltb (zeros_in (bytes_of file (tables_of f start n).ids)) (3 * n.nimpid)) (refusal.Loader ImportIdsPast) _ (λ _. loader-item ImportIdsPast)
      (λ _. cause-if P (table_past n.stoff n.stlen size) (refusal.Loader StringsPast) (λ _. loader-item StringsPast))))

  header-named : (f : Format) (start size : ℕ) → Causes P (header_check file f start size)
  unfolding header_check
  header-named f start size =
      cause-test P (ltb size (loader_layout f).length) (refusal.Loader ShortHeader) _ (λ _. loader-item ShortHeader)
      (λ _. cause-then P (numbers_check (loader_header_at f start file)) _ (numbers-named (loader_header_at f start file)) (λ _. places-named f start size (loader_header_at f start file)))

  -- the header that offsets read is the module's
  pub header_is : loader_of file h ≡ loader_header_at m.format m.parts.loader.start.0 file
  unfolding header_at
  header_is = rw (l.format, ← l.start) refl

  module _ (room : LoaderRoom (length file) m.parts.loader.start.0 m.parts.loader.size)
      (e : header_check file m.format m.parts.loader.start.0 m.parts.loader.size ≡ Ok tt) where
    known : Known file m.format m.parts.loader.start.0 m.parts.loader.size
    known = loader-known file m.format m.parts.loader.start.0 m.parts.loader.size e room

    pub header-whole : loader_start file h + (loader_layout l.opened.format).length ≤ length file
    header-whole = rw (l.start, ← l.format) known.header

    symbol-place : (k : ℕ) → k < (tables_in file m).nsyms → NamesLoaderSymbol file h (k + 3) (loader_symbol_place (starts_as l.opened.format file) (k + 3))
    unfolding tables_in tables_of
    symbol-place k p =
        let n = loader_header_at m.format m.parts.loader.start.0 file in
        let start = place-full m.parts.loader.start.0 n.symoff (n.nsyms * loader_symbol_length) (not-empty n.nsyms k loader_symbol_length p (omega arith)) in
        loader-symbol-named file l.opened.format l.opened.headed header-whole k (rw header_is p) (rw (header_is, l.start, ← start) known.tables.symbols)

    symbols-named : Causes P (symbols_check file m (tables_in file m))
    unfolding symbols_check symbol_check entry_check
    symbols-named =
        let t = tables_in file m in
        cause-first P (symbol_check file m.format m.parts t) 0 t.nsyms
        (λ k _ q. let n = entry_at m.format (entry_start t k) file in
        cause-if P (not (ltb (n.smtype % 8) 4 && is_placed m.parts t.nimpid n && is_found (name_in file t.strings (entry_start t k) (k + 3) n.name))) (refusal.Lsym (k + 3))
        (λ _. named_by file l.opened.format l.opened.headed (refusal.Lsym (k + 3)) (symbol-place k (omega arith))))

  -- request 4: of the loader section and its symbols
  pub loader-check-named : LoaderRoom (length file) m.parts.loader.start.0 m.parts.loader.size → Causes P (loader_check file m)
  unfolding loader_check
  loader-check-named room =
      let start = m.parts.loader.start.0 in
      let size = m.parts.loader.size in
      cause-then P (header_check file m.format start size) _ (header-named m.format start size) (λ e. symbols-named room e)
