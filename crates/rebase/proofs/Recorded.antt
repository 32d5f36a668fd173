-- The plan of a module's recorded addresses. Assumes nothing.
use mathlib.Core.Path.{◌≡◌, refl, ◌∙◌, ap, fun_ext}
use mathlib.Core.List.{map}
use Prim.Native.Nat.{ℕ, zero, suc, ◌<◌}
use native.Mathlib.Nat.{mod-eq_of_lt}
use lib.ListN.{get_or, get_or-map}
use lib.IntN.{ℤ, pos, ◌+ℤ◌, ◌-ℤ◌, +ℤ_invr, +ℤ_idr}
use Rattle.update.specs.Update.{Bytes, remainder}
use Rattle.history.specs.declared.Followed.{Followed}
use Rattle.history.specs.declared.Followed.TheVariants as followed
use Rattle.history.specs.Images.{Shifts, apply_all}
use Rattle.history.specs.Plan.{Relocatable, Plan, limit_of, Sound, SamePlan, SameAddress, followed_by, displacement_of, displacements, built_images}
use Rattle.history.proofs.Apply.{apply_all-zero}
use Rattle.rebase.specs.Rebase.{new_address, rebased_symbol, rebased, recorded_value, recorded_plan, OwnPlace, OwnPlaces}

-- ---- a module written for a plan records the plan

module _ (m : Relocatable) (p : Plan) where
  value-rebased : (j : ℕ) → get_or (recorded_plan (rebased m p)).list j 0 ≡ recorded_value (rebased_symbol p (get_or m.symbols j followed.Nothing))
  unfolding recorded_plan rebased
  value-rebased j =
      get_or-map recorded_value (map (rebased_symbol p) m.symbols) j followed.Nothing
      ∙ ap recorded_value (get_or-map (rebased_symbol p) m.symbols j followed.Nothing)

  -- where each import has its own place in the list; the places of other symbols are ignored
  pub recorded-rebased : OwnPlaces m → SamePlan m (recorded_plan (rebased m p)) p
  recorded-rebased own = record { text = unfold recorded_plan rebased in refl; dat = unfold recorded_plan rebased in refl; imports = at }
    where
      by-symbol : (j : ℕ) (f : Followed) → get_or m.symbols j followed.Nothing ≡ f → OwnPlace j f → SameAddress (recorded_plan (rebased m p)) p f
      by-symbol j followed.Text e o = tt
      by-symbol j followed.Data e o = tt
      by-symbol j (followed.Import k v) e o = rw o (value-rebased j ∙ ap (λ (f : Followed). recorded_value (rebased_symbol p f)) e ∙ ap (λ (n : ℕ). get_or p.list n 0) o)
      by-symbol j followed.Nothing e o = tt

      at : (i : ℕ) → SameAddress (recorded_plan (rebased m p)) p (followed_by m i)
      at zero = unfold followed_by in tt
      at (suc zero) = unfold followed_by in tt
      at (suc (suc zero)) = unfold followed_by in tt
      at (suc (suc (suc j))) = unfold followed_by in by-symbol j (get_or m.symbols j followed.Nothing) refl (own j)

-- ---- a module's own plan moves nothing

module _ (m : Relocatable) where
  value-recorded : (j : ℕ) → get_or (recorded_plan m).list j 0 ≡ recorded_value (get_or m.symbols j followed.Nothing)
  unfolding recorded_plan
  value-recorded j = get_or-map recorded_value m.symbols j followed.Nothing

  symbol-still : (j : ℕ) (f : Followed) → get_or m.symbols j followed.Nothing ≡ f → OwnPlace j f → displacement_of m (recorded_plan m) f ≡ pos 0
  unfolding displacement_of
  symbol-still j followed.Text e o = unfold recorded_plan in +ℤ_invr (pos m.text_address)
  symbol-still j followed.Data e o = unfold recorded_plan in +ℤ_invr (pos m.data_address)
  symbol-still j (followed.Import k v) e o =
      ap (λ (n : ℕ). pos n -ℤ pos v) (ap (λ (n : ℕ). get_or (recorded_plan m).list n 0) o ∙ value-recorded j ∙ ap recorded_value e) ∙ +ℤ_invr (pos v)
  symbol-still j followed.Nothing e o = refl

  recorded-still : OwnPlaces m → displacements m (recorded_plan m) ≡ (λ i. pos 0)
  unfolding displacements
  recorded-still own = fun_ext at
    where
      at : (i : ℕ) → displacement_of m (recorded_plan m) (followed_by m i) ≡ pos 0
      at zero = unfold followed_by displacement_of recorded_plan in +ℤ_invr (pos m.text_address)
      at (suc zero) = unfold followed_by displacement_of recorded_plan in +ℤ_invr (pos m.data_address)
      at (suc (suc zero)) = unfold followed_by displacement_of recorded_plan in +ℤ_invr (pos m.data_address)
      at (suc (suc (suc j))) = unfold followed_by in symbol-still j (get_or m.symbols j followed.Nothing) refl (own j)

  -- built for it, the images are the raw ones
  pub recorded-images : Sound m → OwnPlaces m → Bytes m.raw.text → Bytes m.raw.dat → built_images m (recorded_plan m) ≡ m.raw
  unfolding built_images
  recorded-images sound own bt bd =
      ap (λ (s : Shifts). apply_all m.entries s m.raw) (recorded-still own) ∙ apply_all-zero m.entries m.raw bt bd sound.inside

  -- and an address below the limit stays
  still : (d : ℤ) (a : ℕ) → d ≡ pos 0 → a < limit_of m → remainder (pos a +ℤ d) (limit_of m) ≡ a
  still d a e h =
      ap (λ (z : ℤ). remainder (pos a +ℤ z) (limit_of m)) e ∙ ap (λ (z : ℤ). remainder z (limit_of m)) (+ℤ_idr (pos a)) ∙ (unfold remainder in mod-eq_of_lt h)

  pub text-still : (a : ℕ) → a < limit_of m → new_address m (recorded_plan m) followed.Text a ≡ a
  unfolding new_address
  text-still a h = still (displacement_of m (recorded_plan m) followed.Text) a (unfold displacement_of recorded_plan in +ℤ_invr (pos m.text_address)) h

  pub data-still : (a : ℕ) → a < limit_of m → new_address m (recorded_plan m) followed.Data a ≡ a
  unfolding new_address
  data-still a h = still (displacement_of m (recorded_plan m) followed.Data) a (unfold displacement_of recorded_plan in +ℤ_invr (pos m.data_address)) h

  pub import-still : (j k v a : ℕ) → get_or m.symbols j followed.Nothing ≡ followed.Import k v → OwnPlace j (followed.Import k v) → new_address m (recorded_plan m) (followed.Import k v) a ≡ v
  unfolding new_address
  import-still j k v a e o = ap (λ (n : ℕ). get_or (recorded_plan m).list n 0) o ∙ value-recorded j ∙ ap recorded_value e
