-- What the checks of the loader section leave known. Assumes nothing.
use Prim.Native.Nat.{ℕ, ◌+◌, ◌*◌, ◌≤◌}
use mathlib.Core.Path.{◌≡◌, subst}
use mathlib.Core.Bool.{false, not, ◌||◌}
use mathlib.Core.List.{List}
use native.Mathlib.Decide.{ℕ_discrete}
use native.Mathlib.Omega.{arith}
use lib.Dec.{eqb, ltb}
use lib.ListN.{length}
use borrow.Author.Tests.{ltb-false}
use Rattle.word.proofs.Test.{or-first, or-second}
use Rattle.word.specs.Zero.{zeros_in}
use Rattle.format.specs.declared.Format.{Format}
use Rattle.format.specs.Layout.{loader_layout, loader_symbol_length, relocation_layout}
use Rattle.format.specs.Limit.{file_limit, loader_symbol_limit, relocation_limit}
use Rattle.format.specs.Range.{bytes_of}
use Rattle.refusal.specs.declared.Refusal.TheVariants.{Loader}
use Rattle.refusal.specs.declared.LoaderItem.TheVariants.{ShortHeader}
use Rattle.refusal.specs.Order.{◌or_else◌, refuse_if}
use Rattle.refusal.proofs.Order.{accepted-first, accepted-rest, accepted-test, first-all, by-verdict}
use Rattle.loader_header.specs.declared.LoaderHeader.{LoaderHeader}
use Rattle.loader_header.specs.Header.{loader_header_at, table_past, numbers_check, place_of, tables_of, places_check, header_check, LoaderRoom, PlacesGood}
use Rattle.module.specs.declared.Module.{Module}
use Rattle.loader_header.specs.declared.LoaderTables.{LoaderTables}
use Rattle.loader_symbol.specs.Symbol.{TablesInside}
use Rattle.loader.specs.Loader.{tables_in, symbols_check, loader_check, loader_in}
use Rattle.loader.specs.Inside.{LoaderInside}
use Rattle.loader_header.proofs.Places.{header-long, table-in, place-empty, place-full}
use Rattle.std.specs.Prelude.{Err, Ok, Result}
use Rattle.refusal.specs.declared.Refusal.{Refusal}

-- what an accepted section has
module _ (file : List ℕ) (f : Format) (start size : ℕ) (e : header_check file f start size ≡ Ok tt) where
  tests : (refuse_if (ltb size (loader_layout f).length) (Loader ShortHeader) or_else numbers_check (loader_header_at f start file) or_else places_check file f start size (loader_header_at f start file)) ≡ Ok tt
  unfolding header_check
  tests = e

  pub long-enough : (loader_layout f).length ≤ size
  long-enough = ltb-false size (loader_layout f).length (accepted-test (ltb size (loader_layout f).length) _ (accepted-first (refuse_if (ltb size (loader_layout f).length) (Loader ShortHeader)) _ tests))

  pub numbers-good : numbers_check (loader_header_at f start file) ≡ Ok tt
  numbers-good = accepted-first (numbers_check (loader_header_at f start file)) _ (accepted-rest (refuse_if (ltb size (loader_layout f).length) (Loader ShortHeader)) _ tests)

  pub places-good : places_check file f start size (loader_header_at f start file) ≡ Ok tt
  places-good = accepted-rest (numbers_check (loader_header_at f start file)) _ (accepted-rest (refuse_if (ltb size (loader_layout f).length) (Loader ShortHeader)) _ tests)

-- the limits
module _ (h : LoaderHeader) (e : numbers_check h ≡ Ok tt) where
  pub few : (h.nsyms ≤ loader_symbol_limit) × (h.nreloc ≤ relocation_limit)
  few = unfold numbers_check in
      let r = accepted-rest (refuse_if (not (eqb h.version 1 || eqb h.version 2)) _) _ e in (
        ltb-false loader_symbol_limit h.nsyms (accepted-test (ltb loader_symbol_limit h.nsyms) _ (accepted-first (refuse_if (ltb loader_symbol_limit h.nsyms) _) _ r)),
        ltb-false relocation_limit h.nreloc (accepted-test (ltb relocation_limit h.nreloc) _ (accepted-rest (refuse_if (ltb loader_symbol_limit h.nsyms) _) _ r)),
      )

-- the places
pub places-known : (file : List ℕ) (f : Format) (start size : ℕ) (h : LoaderHeader) → places_check file f start size h ≡ Ok tt → start + size ≤ file_limit → PlacesGood f start size h
unfolding places_check
places-known file f start size h e room =
    let a = table_past h.symoff (h.nsyms * loader_symbol_length) size in
    let b = table_past h.rldoff (h.nreloc * (relocation_layout f).length) size in
    let c = table_past h.impoff h.istlen size in
    let z = ltb (zeros_in (bytes_of file (tables_of f start h).ids)) (3 * h.nimpid) in
    let d = table_past h.stoff h.stlen size in
    let r1 = accepted-rest (refuse_if a _) _ e in
    let r2 = accepted-rest (refuse_if b _) _ r1 in
    let r3 = accepted-rest (refuse_if (c || z) _) _ r2 in
    record {
      room = room;
      symbols = accepted-test a _ (accepted-first (refuse_if a _) _ e);
      relocations = accepted-test b _ (accepted-first (refuse_if b _) _ r1);
      ids = or-first c z (accepted-test (c || z) _ (accepted-first (refuse_if (c || z) _) _ r2));
      strings = accepted-test d _ r3;
    }

-- the import ids have their strings
ids-full : (file : List ℕ) (f : Format) (start size : ℕ) (h : LoaderHeader) → places_check file f start size h ≡ Ok tt → 3 * h.nimpid ≤ zeros_in (bytes_of file (tables_of f start h).ids)
unfolding places_check
ids-full file f start size h e =
    let a = table_past h.symoff (h.nsyms * loader_symbol_length) size in
    let b = table_past h.rldoff (h.nreloc * (relocation_layout f).length) size in
    let c = table_past h.impoff h.istlen size in
    let zeros = zeros_in (bytes_of file (tables_of f start h).ids) in
    let r2 = accepted-rest (refuse_if b _) _ (accepted-rest (refuse_if a _) _ e) in
    ltb-false zeros (3 * h.nimpid) (or-second c (ltb zeros (3 * h.nimpid)) (accepted-test (c || ltb zeros (3 * h.nimpid)) _ (accepted-first (refuse_if (c || ltb zeros (3 * h.nimpid)) _) _ r2)))

-- a table at its place ends in the file
table_at : (start off len size n : ℕ) → start + size ≤ n → table_past off len size ≡ false → Dec (len ≡ 0) → place_of start off len + len ≤ n
table_at start off len size n r e (yes z) = rw (place-empty start off len z) (omega arith)
table_at start off len size n r e (no z) = rw (place-full start off len z) (omega (arith, table-in off len size e z))

pub tables-inside : (file : List ℕ) (f : Format) (start size : ℕ) (h : LoaderHeader) → length file ≤ file_limit → start + size ≤ length file → h.nsyms ≤ loader_symbol_limit → PlacesGood f start size h → TablesInside file (tables_of f start h)
unfolding tables_of
tables-inside file f start size h l r n p =
    record {
      small = l;
      few = n;
      symbols = table_at start h.symoff (h.nsyms * loader_symbol_length) size (length file) r p.symbols (ℕ_discrete (h.nsyms * loader_symbol_length) 0);
      ids = table_at start h.impoff h.istlen size (length file) r p.ids (ℕ_discrete h.istlen 0);
      strings = table_at start h.stoff h.stlen size (length file) r p.strings (ℕ_discrete h.stlen 0);
    }

-- all that is known of a section whose header and tables are accepted
pub record Known (file : List ℕ) (f : Format) (start size : ℕ) : Type 0 where
  pub header : start + (loader_layout f).length ≤ length file
  pub places : PlacesGood f start size (loader_header_at f start file)
  pub tables : TablesInside file (tables_of f start (loader_header_at f start file))

pub loader-known : (file : List ℕ) (f : Format) (start size : ℕ) → header_check file f start size ≡ Ok tt → LoaderRoom (length file) start size → Known file f start size
loader-known file f start size e room =
    let h = loader_header_at f start file in
    let long = long-enough file f start size e in
    let bytes = header-long f in
    let inside = room.inside (omega arith) in
    let small = room.small in
    let places = places-known file f start size h (places-good file f start size e) (omega arith) in
    record {
      header = omega arith;
      places = places;
      tables = tables-inside file f start size h small inside (few h (numbers-good file f start size e)).0 places;
    }

-- all that is known of the tables that are found
tables-known : (file : List ℕ) (m : Module) → LoaderRoom (length file) m.parts.loader.start.0 m.parts.loader.size → loader_check file m ≡ Ok tt → LoaderInside file m (tables_in file m)
unfolding loader_check symbols_check tables_in tables_of
tables-known file m room e =
    let f = m.format in
    let start = m.parts.loader.start.0 in
    let size = m.parts.loader.size in
    let h = loader_header_at f start file in
    let c = accepted-first (header_check file f start size) _ e in
    let known = loader-known file f start size c room in
    let long = long-enough file f start size c in
    let inside = room.inside (omega (arith, header-long f)) in
    record {
      tables = known.tables;
      few = (few h (numbers-good file f start size c)).1;
      relocations = table_at start h.rldoff (h.nreloc * (relocation_layout f).length) size (length file) inside known.places.relocations (ℕ_discrete (h.nreloc * (relocation_layout f).length) 0);
      ids = ids-full file f start size h (places-good file f start size c);
      symbols = λ k l. first-all _ h.nsyms 0 (accepted-rest (header_check file f start size) _ e) k (omega arith) (omega arith);
    }

-- of an answer: it holds where tables are found
abbrev Answered : List ℕ → Module → Result LoaderTables Refusal → Type 0
Answered file m (Ok t) = LoaderInside file m t
Answered file m (Err x) = Unit {0}

pub loader-inside : (file : List ℕ) (m : Module) (t : LoaderTables) → LoaderRoom (length file) m.parts.loader.start.0 m.parts.loader.size → loader_in file m ≡ Ok t → LoaderInside file m t
unfolding loader_in
loader-inside file m t room e = subst (Answered file m) e (by-verdict (Answered file m) (loader_check file m) (tables-known file m room) (λ x. tt))
