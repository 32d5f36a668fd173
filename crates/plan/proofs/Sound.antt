-- What demand 3 asks of a module holds of every file: an accepted one by what its judging guarantees, a refused one has no entries. Assumes nothing.
use mathlib.Core.Path.{◌≡◌, refl}
use mathlib.Core.Bool.{Bool, true, false, cond}
use mathlib.Core.List.{List}
use Prim.Native.Nat.{ℕ, zero, suc, ◌+◌, ◌≤◌, ◌<◌}
use native.Mathlib.Omega.{arith}
use Rattle.relocation.specs.Relocation.{place_at}
use Rattle.field_overlap.specs.Overlap.{Compatible}
use Rattle.loadable.specs.declared.Loadable.{Loadable}
use Rattle.loadable.specs.Loadable.{loadable_at}
use Rattle.loadable.specs.Valid.{Valid}
use Rattle.loadable.proofs.Accepted.{loadable-valid}
use Rattle.history.specs.declared.Relocation.{Relocation}
use Rattle.history.specs.Images.{length_of, All, Inside, Pairwise}
use Rattle.history.specs.Plan.{Sound}
use Rattle.history.proofs.Demand3.{no-entries-sound}
use Rattle.plan.specs.Relocatable.{relocation_at, relocations_from, relocatable_of, no_module, relocatable_by, relocatable_at}
use Rattle.plan.proofs.Raw.{length-raw-text, length-raw-data}
use Rattle.std.specs.Prelude.{Err, Ok, Result}
use Rattle.refusal.specs.declared.Refusal.{Refusal}

module _ (file : List ℕ) (l : Loadable) where
  -- what holds of each entry holds of all
  all_from : (P : Relocation → Type 0) (i n : ℕ) → ((j : ℕ) → i ≤ j → j < i + n → P (relocation_at file l j)) → All P (relocations_from file l i n)
  unfolding relocations_from
  all_from P i zero h = tt
  all_from P i (suc n) h = (h i (omega arith) (omega arith), all_from P (suc i) n (λ j a b. h j (omega arith) (omega arith)))

  -- the same of each two
  pairwise-from : (i n : ℕ) → ((j k : ℕ) → i ≤ j → j < k → k < i + n → Compatible (relocation_at file l j).place (relocation_at file l k).place)
      → Pairwise (relocations_from file l i n)
  unfolding relocations_from
  pairwise-from i zero h = tt
  pairwise-from i (suc n) h = (
    all_from (λ e. Compatible (relocation_at file l i).place e.place) (suc i) n (λ j a b. h i j (omega arith) (omega arith) (omega arith)),
    pairwise-from (suc i) n (λ j k a b c. h j k (omega arith) b (omega arith)),
  )

module _ (file : List ℕ) (l : Loadable) (v : Valid file l) where
  -- each section's bytes are in its raw image
  section-in : (t : Bool) → cond t l.layout.parts.text.size l.layout.parts.«data».size ≤ length_of t (relocatable_of file l).raw
  unfolding relocatable_of
  section-in true = rw (length-raw-text file l v) (omega arith)
  section-in false = rw (length-raw-data file l v) v.sections.holds

  -- an entry's field is inside its raw image
  entry-inside : (i : ℕ) → i < l.tables.nreloc → Inside (relocatable_of file l).raw (relocation_at file l i)
  unfolding relocation_at
  entry-inside i h =
      let place = place_at file l.layout.format l.layout.parts l.tables i in
      omega (arith, (v.inside i h).inside, section-in place.text)

  -- two entries' fields are the same or share no byte
  entries-apart : (i j : ℕ) → i < j → j < l.tables.nreloc → Compatible (relocation_at file l i).place (relocation_at file l j).place
  unfolding relocation_at
  entries-apart i j a b = v.pairs i j a b

  -- an accepted module is sound
  pub valid-sound : Sound (relocatable_of file l)
  valid-sound =
      record {
        inside = insides;
        pairwise = pairs;
      }
    where
      insides : All (Inside (relocatable_of file l).raw) (relocatable_of file l).entries
      insides = unfold relocatable_of in all_from file l (Inside (relocatable_of file l).raw) 0 l.tables.nreloc (λ j a b. entry-inside j (omega arith))

      pairs : Pairwise (relocatable_of file l).entries
      pairs = unfold relocatable_of in pairwise-from file l 0 l.tables.nreloc (λ j k a b c. entries-apart j k b (omega arith))

-- by the answer: a refused file has no entries
answer-sound : (file : List ℕ) (a : Result Loadable Refusal) → loadable_at file ≡ a → Sound (relocatable_by file a)
unfolding relocatable_by
answer-sound file (Ok l) e = valid-sound file l (loadable-valid file l e)
answer-sound file (Err x) e = no-entries-sound (no_module x) (unfold no_module in refl)

-- every file is sound
pub relocatable-sound : (file : List ℕ) → Sound (relocatable_at file)
unfolding relocatable_at
relocatable-sound file = answer-sound file (loadable_at file) refl
