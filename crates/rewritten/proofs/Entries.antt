-- Loader symbols and relocation entries with new addresses: judged as before, and the fields named are the same. Assumes nothing.
use mathlib.Core.Path.{◌≡◌, refl, ap}
use mathlib.Core.Bool.{Bool, true, false, cond}
use Prim.Native.Nat.{ℕ, zero, suc, ◌+◌, ◌-◌, ◌≤◌, ◌<◌}
use native.Mathlib.Decide.{ℕ_discrete}
use native.Mathlib.Omega.{arith}
use lib.ListN.{get_or}
use lib.Dec.{eqb}
use borrow.Author.Tests.{eq-eqb, ne_eqb, le-leb}
use Rattle.word.proofs.Test.{and_first}
use Rattle.format.specs.declared.Format.{Format}
use Rattle.format.specs.declared.SectionNumber.{SectionNumber}
use Rattle.parts.specs.declared.Part.{Part}
use Rattle.parts.specs.declared.Parts.{Parts}
use Rattle.module.specs.Module.{image_length}
use Rattle.loader_symbol.specs.declared.LoaderEntry.{LoaderEntry}
use Rattle.loader_symbol.specs.Symbol.{is_imported, is_placed}
use Rattle.relocation.specs.declared.RelocationEntry.{RelocationEntry}
use Rattle.relocation.specs.declared.FieldPlace.{FieldPlace}
use Rattle.relocation.specs.Relocation.{is_wide, bytes_wide, is_inside, is_held, is_good, own_check, place_of}
use Rattle.relocation.proofs.Entries.{inside-known, own_held, held-text, held-data}
use Rattle.field_overlap.specs.Overlap.{meets_one, meets}
use Rattle.history.specs.declared.Followed.{Followed}
use Rattle.history.specs.declared.Followed.TheVariants as followed
use Rattle.history.specs.Plan.{Plan}
use Rattle.plan.specs.Relocatable.{followed_of}
use Rattle.rebase.specs.Rebase.{rebased_symbol}
use Rattle.written.specs.Written.{entry_follows}
use Rattle.written.specs.Moved.{moved_part, moved_parts, moved_entry, moved_relocation}
use Rattle.rewritten.proofs.Parts.{Moves}
use Rattle.std.specs.Prelude.{Ok}

-- ---- relocation entries

bytes-some : (b : Bool) → 0 < bytes_wide b
bytes-some true = omega arith
bytes-some false = omega arith

-- an address that keeps its distance from its section stays inside it
inside-moved : (g : ℕ → ℕ) (p q : Part) (e d : RelocationEntry) → q.address.0 ≡ g p.address.0 → q.size ≡ p.size → d.address.0 ≡ g e.address.0 → d.rtype ≡ e.rtype
    → g e.address.0 ≡ g p.address.0 + (e.address.0 - p.address.0) → is_inside p e ≡ true → is_inside q d ≡ true
unfolding is_inside
inside-moved g p q e d qa qs da dr k h =
    let i = inside-known p e h in
    rw (dr, le-leb q.address.0 d.address.0 (omega arith), le-leb (d.address.0 + bytes_wide (is_wide e.rtype)) (q.address.0 + q.size) (omega arith)) refl

module _ (new : Followed → ℕ → ℕ) (limit : ℕ) (p : Parts) (v : Moves new limit p) (holds : p.«data».size ≤ image_length p) where
  abbrev moved : RelocationEntry → RelocationEntry
  moved e = moved_relocation new (entry_follows p e) e

  -- the new address of a held field
  text-address : (e : RelocationEntry) → is_held p e ≡ true → e.scnum ≡ p.text.number.0
      → new followed.Text e.address.0 ≡ new followed.Text p.text.address.0 + (e.address.0 - p.text.address.0)
  text-address e h q =
      let i = inside-known p.text e (held-text p e h q) in
      v.text_in e.address.0 i.0 (omega (arith, i.1, bytes-some (is_wide e.rtype)))

  data-address : (e : RelocationEntry) → is_held p e ≡ true → (e.scnum ≡ p.text.number.0 → ⊥)
      → new followed.Data e.address.0 ≡ new followed.Data p.«data».address.0 + (e.address.0 - p.«data».address.0)
  data-address e h n =
      let i = inside-known p.«data» e (held-data p e h n) in
      v.data-in e.address.0 i.0 (omega (arith, i.1, bytes-some (is_wide e.rtype)))

  follows-text : (e : RelocationEntry) → e.scnum ≡ p.text.number.0 → entry_follows p e ≡ followed.Text
  unfolding entry_follows
  follows-text e q = rw (eq-eqb e.scnum p.text.number.0 q) refl

  follows-data : (e : RelocationEntry) → (e.scnum ≡ p.text.number.0 → ⊥) → entry_follows p e ≡ followed.Data
  unfolding entry_follows
  follows-data e n = rw (ne_eqb e.scnum p.text.number.0 n) refl

  held_moved : (e : RelocationEntry) → is_held p e ≡ true → Dec (e.scnum ≡ p.text.number.0) → is_held (moved_parts new p) (moved e) ≡ true
  unfolding is_held
  held_moved e h (yes q) =
      rw (eq-eqb e.scnum p.text.number.0 q)
      (inside-moved (new followed.Text) p.text (moved_part new followed.Text p.text) e (moved e) refl refl (ap (λ (f : Followed). new f e.address.0) (follows-text e q)) refl
      (text-address e h q) (held-text p e h q))
  held_moved e h (no n) =
      rw (ne_eqb e.scnum p.text.number.0 n, and_first (eqb e.scnum p.«data».number.0) _ (rw (ne_eqb e.scnum p.text.number.0 n) at h))
      (inside-moved (new followed.Data) p.«data» (moved_part new followed.Data p.«data») e (moved e) refl refl (ap (λ (f : Followed). new f e.address.0) (follows-data e n)) refl
      (data-address e h n) (held-data p e h n))

  -- an entry that is good by itself stays so
  pub own-moved : (f : Format) (nsyms i : ℕ) (e : RelocationEntry) → own_check f p nsyms i e ≡ Ok tt → own_check f (moved_parts new p) nsyms i (moved e) ≡ Ok tt
  unfolding own_check is_good
  own-moved f nsyms i e q =
      let h : is_held p e ≡ true = own_held f p nsyms i e q in
      rw (held_moved e h (ℕ_discrete e.scnum p.text.number.0)) (rw h at q)

  -- and names the same field
  pub place-moved : (e : RelocationEntry) → is_held p e ≡ true → Dec (e.scnum ≡ p.text.number.0) → place_of (moved_parts new p) (moved e) ≡ place_of p e
  unfolding place_of
  place-moved e h (yes q) =
      let o : new followed.Text e.address.0 - new followed.Text p.text.address.0 ≡ e.address.0 - p.text.address.0 = omega (arith, text-address e h q) in
      rw (follows-text e q, eq-eqb e.scnum p.text.number.0 q, o) refl
  place-moved e h (no n) =
      let o : new followed.Data e.address.0 - new followed.Data p.«data».address.0 ≡ e.address.0 - p.«data».address.0 = omega (arith, data-address e h n) in
      rw (follows-data e n, ne_eqb e.scnum p.text.number.0 n, o) refl

-- ---- overlaps

meets-one-same : (r s : ℕ → FieldPlace) (e : FieldPlace) (n : ℕ) → ((i : ℕ) → i < n → r i ≡ s i) → meets_one r e n ≡ meets_one s e n
unfolding meets_one
meets-one-same r s e zero h = refl
meets-one-same r s e (suc n) h = rw (h n (omega arith), meets-one-same r s e n (λ i b. h i (omega arith))) refl

-- fields that are the same meet the same
pub meets-same : (r s : ℕ → FieldPlace) (i : ℕ) → ((j : ℕ) → j ≤ i → r j ≡ s j) → meets r i ≡ meets s i
unfolding meets
meets-same r s i h = rw (h i (omega arith)) (meets-one-same r s (s i) i (λ j b. h j (omega arith)))

-- ---- loader symbols

-- a symbol is placed as before
pub placed-moved : (new : Followed → ℕ → ℕ) (p : Parts) (nimpid : ℕ) (f : Followed) (e : LoaderEntry) → is_placed (moved_parts new p) nimpid (moved_entry new f e) ≡ is_placed p nimpid e
unfolding is_placed
placed-moved new p nimpid f e = refl

abbrev follow : ℕ → Bool → Bool → Bool → ℕ → Followed
follow k a b c x = cond a (cond b followed.Nothing (followed.Import k x)) (cond c followed.Text followed.Data)

-- and follows what it followed; an import with its new value
pub followed-moved : (new : Followed → ℕ → ℕ) (q : Plan) → ((k v : ℕ) → new (followed.Import k v) v ≡ get_or q.list k 0) → (text : SectionNumber) (k : ℕ) (e : LoaderEntry)
    → followed_of text k (moved_entry new (followed_of text k e) e) ≡ rebased_symbol q (followed_of text k e)
unfolding followed_of
followed-moved new q imports text k e = by_tests (is_imported e.smtype) (eqb e.ifile 0) (eqb e.scnum text.0)
  where
    by_tests : (a b c : Bool) → follow k a b c (new (follow k a b c e.value) e.value) ≡ rebased_symbol q (follow k a b c e.value)
    by_tests true true c = refl
    by_tests true false c = ap (λ (x : ℕ). followed.Import k x) (imports k e.value)
    by_tests false b true = refl
    by_tests false b false = refl
