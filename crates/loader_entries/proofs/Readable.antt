-- What is known of the entries before the first that is refused by itself. Assumes nothing.
use Prim.Native.Nat.{ℕ}
use mathlib.Core.Path.{◌≡◌}
use mathlib.Core.List.{List}
use Rattle.format.specs.declared.Format.{Format}
use Rattle.refusal.proofs.Order.{accepts}
use Rattle.parts.specs.declared.Parts.{Parts}
use Rattle.loader_header.specs.declared.LoaderTables.{LoaderTables}
use Rattle.relocation.specs.Relocation.{entry_in, own_at, place_at, PlaceInside}
use Rattle.relocation.proofs.Entries.{place_inside}
use Rattle.field_overlap.specs.Overlap.{Readable}
use Rattle.loader_entries.specs.Entries.{FirstRefused, EntriesReady}
use Rattle.std.specs.Prelude.{Ok}

module _ (file : List ℕ) (f : Format) (p : Parts) (t : LoaderTables) where
  pub field-inside : (i : ℕ) → own_at file f p t i ≡ Ok tt → PlaceInside p (place_at file f p t i)
  unfolding own_at place_at
  field-inside i e = place_inside f p t.nsyms i (entry_in file f t i) e

  pub entries-readable : {k : ℕ} → EntriesReady file f p t → FirstRefused (own_at file f p t) t.nreloc k → Readable file f p t k
  entries-readable r own =
      record {
        entries = r.entries;
        few = own.within;
        accepted = λ i l. accepts (own_at file f p t i) (own.before i l);
        inside = λ i l. field-inside i (accepts (own_at file f p t i) (own.before i l));
        text_size = r.text_size;
        data_size = r.data_size;
      }
