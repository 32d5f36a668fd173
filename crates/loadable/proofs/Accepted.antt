-- What an accepted module guarantees. Assumes nothing.
use Prim.Native.Nat.{ℕ, ◌+◌, ◌≤◌, ◌<◌}
use mathlib.Core.Path.{◌≡◌, refl, subst}
use mathlib.Core.Bool.{false}
use mathlib.Core.List.{List}
use native.Mathlib.Decide.{dec_lt}
use native.Mathlib.Omega.{arith}
use lib.ListN.{length}
use borrow.Author.Tests.{ltb-true}
use Rattle.format.specs.declared.Format.{Format}
use Rattle.format.specs.Limit.{file_limit}
use Rattle.refusal.specs.declared.Refusal.TheVariants.{Overlap}
use Rattle.refusal.specs.Order.{refuse_if}
use Rattle.refusal.proofs.Order.{accepted-first, accepted-rest, accepted-test, first-all, by-verdict}
use Rattle.parts.specs.declared.Part.{Part}
use Rattle.parts.specs.declared.Parts.{Parts}
use Rattle.module.specs.declared.Module.{Module}
use Rattle.module.specs.Module.{module_at}
use Rattle.module.specs.Inside.{PartInside, ModuleInside}
use Rattle.module.proofs.Accepted.{module-inside}
use Rattle.loader_header.specs.declared.LoaderTables.{LoaderTables}
use Rattle.loader_header.specs.Header.{LoaderRoom}
use Rattle.loader.specs.Loader.{loader_in}
use Rattle.loader.specs.Inside.{LoaderInside}
use Rattle.loader.proofs.Accepted.{loader-inside}
use Rattle.relocation.specs.Relocation.{entry_in, own_at, place_at, EntriesInside}
use Rattle.relocation.proofs.Entries.{own-symbol}
use Rattle.field_overlap.specs.Overlap.{meets}
use Rattle.field_overlap.proofs.Rule.{meets-none}
use Rattle.loadable.specs.declared.Loadable.{Loadable}
use Rattle.loader_entries.specs.Entries.{entry_check, entries_check, EntriesReady}
use Rattle.loader_entries.proofs.Readable.{field-inside}
use Rattle.loadable.specs.Loadable.{loadable_with, loadable_in, loadable_at}
use Rattle.loadable.specs.Valid.{Valid}
use Rattle.std.specs.Prelude.{Err, Ok, Result}
use Rattle.refusal.specs.declared.Refusal.{Refusal}

-- ---- what is known before the entries are judged

pub loader-room : (file : List ℕ) (m : Module) → ModuleInside file m → LoaderRoom (length file) m.parts.loader.start.0 m.parts.loader.size
loader-room file m i = record { small = i.small; inside = i.loader }

-- a section with bytes is no longer than the file
part_small : (len : ℕ) (p : Part) → len ≤ file_limit → PartInside len p → Dec (0 < p.size) → p.size ≤ file_limit
part_small len p l h (yes s) = let k = h s in omega arith
part_small len p l h (no s) = omega arith

pub entries-inside : (file : List ℕ) (m : Module) (t : LoaderTables) → ModuleInside file m → LoaderInside file m t → EntriesInside file m.format t
entries-inside file m t i l = record { small = i.small; few = l.few; inside = l.relocations }

pub entries-ready : (file : List ℕ) (m : Module) (t : LoaderTables) → ModuleInside file m → loader_in file m ≡ Ok t → EntriesReady file m.format m.parts t
entries-ready file m t i e =
    let l = loader-inside file m t (loader-room file m i) e in
    record {
      entries = entries-inside file m t i l;
      symbols = l.tables.few;
      text_size = part_small (length file) m.parts.text i.small i.text (dec_lt 0 m.parts.text.size);
      data_size = part_small (length file) m.parts.«data» i.small i.«data» (dec_lt 0 m.parts.«data».size);
    }

module _ (file : List ℕ) (f : Format) (p : Parts) (t : LoaderTables) where
  symbol-known : (i : ℕ) → own_at file f p t i ≡ Ok tt → (entry_in file f t i).symbol < 3 + t.nsyms
  unfolding own_at
  symbol-known i e = ltb-true (entry_in file f t i).symbol (3 + t.nsyms) (own-symbol f p t.nsyms i (entry_in file f t i) e)

  -- ---- entries that are accepted

  own-accepted : entries_check file f p t ≡ Ok tt → (i : ℕ) → i < t.nreloc → entry_check file f p t i ≡ Ok tt
  unfolding entries_check
  own-accepted e i l = first-all (entry_check file f p t) t.nreloc 0 e i (omega arith) (omega arith)

  entry-own : (i : ℕ) → entry_check file f p t i ≡ Ok tt → own_at file f p t i ≡ Ok tt
  unfolding entry_check
  entry-own i e = accepted-first (own_at file f p t i) (refuse_if (meets (place_at file f p t) i) (Overlap (record { 0 = i }))) e

  entry-apart : (i : ℕ) → entry_check file f p t i ≡ Ok tt → meets (place_at file f p t) i ≡ false
  unfolding entry_check
  entry-apart i e = accepted-test (meets (place_at file f p t) i) (Overlap (record { 0 = i })) (accepted-rest (own_at file f p t i) (refuse_if (meets (place_at file f p t) i) (Overlap (record { 0 = i }))) e)

-- ---- the whole module

checked-valid : (file : List ℕ) (m : Module) (t : LoaderTables) → ModuleInside file m → LoaderInside file m t → entries_check file m.format m.parts t ≡ Ok tt → Valid file (record { layout = m; tables = t })
checked-valid file m t i l e =
    let each = own-accepted file m.format m.parts t e in
    let own : (j : ℕ) → j < t.nreloc → own_at file m.format m.parts t j ≡ (Ok tt) = λ j b. entry-own file m.format m.parts t j (each j b) in
    record {
      sections = i;
      loader = l;
      entries = entries-inside file m t i l;
      own = own;
      inside = λ j b. field-inside file m.format m.parts t j (own j b);
      known = λ j b. symbol-known file m.format m.parts t j (own j b);
      pairs = λ j k a b. meets-none (place_at file m.format m.parts t) k (entry-apart file m.format m.parts t k (each k b)) j a;
    }

-- of an answer: it holds where a loadable module is found
abbrev Answered : List ℕ → Result Loadable Refusal → Type 0
Answered file (Ok l) = Valid file l
Answered file (Err x) = Unit {0}

by-tables : (file : List ℕ) (m : Module) (a : Result LoaderTables Refusal) → ModuleInside file m → loader_in file m ≡ a → Answered file (loadable_with file m a)
unfolding loadable_with
by-tables file m (Err x) i e = tt
by-tables file m (Ok t) i e =
    by-verdict (Answered file) (entries_check file m.format m.parts t) (checked-valid file m t i (loader-inside file m t (loader-room file m i) e)) (λ x. tt)

by-module : (file : List ℕ) (a : Result Module Refusal) → module_at file ≡ a → Answered file (loadable_in file a)
unfolding loadable_in
by-module file (Err x) e = tt
by-module file (Ok m) e = by-tables file m (loader_in file m) (module-inside file m e) refl

-- an accepted module is valid
pub loadable-valid : (file : List ℕ) (l : Loadable) → loadable_at file ≡ Ok l → Valid file l
unfolding loadable_at
loadable-valid file l e = subst (Answered file) e (by-module file (module_at file) refl)
