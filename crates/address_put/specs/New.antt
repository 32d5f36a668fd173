-- New addresses by what text and data move by, which the code keeps modulo 2^64.
use Rattle.std.specs.Prelude.{◌≡◌, List, ℕ, ◌<◌}
use Rattle.format.specs.declared.Format.{Format}
use Rattle.history.specs.declared.Followed.{Followed}
use Rattle.history.specs.declared.Followed.TheVariants as followed
use Rattle.history.specs.Plan.{Relocatable, Plan, displacement_of}
use Rattle.apply.specs.Shift.{Displaced}
use Rattle.rebase.specs.Rebase.{new_address}

-- the place of an import is in a list of n addresses
abbrev pub ImportIn : ℕ → Followed → Type 0
ImportIn n followed.Text = Unit {0}
ImportIn n followed.Data = Unit {0}
ImportIn n (followed.Import k v) = k < n
ImportIn n followed.Nothing = Unit {0}

-- Q holds of the new addresses of any module of the format f in any plan that has the list, where text, data and bss move by d
abbrev pub ForFormat : Format → List ℕ → List ℕ → ((Followed → ℕ → ℕ) → Type 0) → Type 0
ForFormat f d list Q =
    (m : Relocatable) (p : Plan) → m.format ≡ f → p.list ≡ list → Displaced d (displacement_of m p followed.Text) (displacement_of m p followed.Data) → Q (new_address m p)
