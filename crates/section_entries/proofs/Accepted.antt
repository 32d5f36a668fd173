-- What accepted entries guarantee. Assumes nothing.
use Prim.Native.Nat.{ℕ, ◌<◌}
use mathlib.Core.Path.{◌≡◌}
use mathlib.Core.Bool.{false}
use mathlib.Core.List.{List}
use native.Mathlib.Omega.{arith}
use Rattle.refusal.specs.declared.Refusal.TheVariants.{SectionOverlap}
use Rattle.refusal.specs.Order.{refuse_if}
use Rattle.refusal.proofs.Order.{accepts, accepted-first, accepted-rest, accepted-test, first-all}
use Rattle.symbol.specs.declared.Tables.{Tables}
use Rattle.section_relocation.specs.declared.ObjectSection.{ObjectSection}
use Rattle.section_relocation.specs.Entry.{field_in, name_of}
use Rattle.section_overlap.specs.Overlap.{overlaps, meets, Readable}
use Rattle.section_overlap.proofs.Rule.{meets-none}
use Rattle.object_entry.specs.Entry.{own_at}
use Rattle.object_entry.proofs.Entries.{held}
use Rattle.section_entries.specs.Entries.{entry_check, entries_check, FirstRefused, EntriesReady}
use Rattle.std.specs.Prelude.{Ok}

module _ (file : List ℕ) (t : Tables) (s : ObjectSection) where
  -- the entries before the first that is refused by itself
  pub entries-readable : {k : ℕ} → EntriesReady file t s → FirstRefused (own_at file t s) s.count k → Readable file t.format s k
  entries-readable r own =
      record { ready = r.ready; few = own.within; held = λ i l. held file t s i (accepts (own_at file t s i) (own.before i l)) }

  -- ---- entries that are accepted

  each-accepted : entries_check file t s ≡ Ok tt → (i : ℕ) → i < s.count → entry_check file t s i ≡ Ok tt
  unfolding entries_check
  each-accepted e i l = first-all (entry_check file t s) s.count 0 e i (omega arith) (omega arith)

  entry-own : (i : ℕ) → entry_check file t s i ≡ Ok tt → own_at file t s i ≡ Ok tt
  unfolding entry_check
  entry-own i e = accepted-first (own_at file t s i) (refuse_if (meets (field_in file t.format s) i) (SectionOverlap (name_of s i))) e

  entry-apart : (i : ℕ) → entry_check file t s i ≡ Ok tt → meets (field_in file t.format s) i ≡ false
  unfolding entry_check
  entry-apart i e =
      accepted-test (meets (field_in file t.format s) i) (SectionOverlap (name_of s i))
      (accepted-rest (own_at file t s i) (refuse_if (meets (field_in file t.format s) i) (SectionOverlap (name_of s i))) e)

  pub own-accepted : entries_check file t s ≡ Ok tt → (i : ℕ) → i < s.count → own_at file t s i ≡ Ok tt
  own-accepted e i l = entry-own i (each-accepted e i l)

  pub none-overlaps : entries_check file t s ≡ Ok tt → (j i : ℕ) → j < i → i < s.count → overlaps (field_in file t.format s j) (field_in file t.format s i) ≡ false
  none-overlaps e j i a b = meets-none (field_in file t.format s) i (entry-apart i (each-accepted e i b)) j a
