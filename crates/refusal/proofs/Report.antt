-- Laws of reports. Assumes nothing.
use Prim.Native.Nat.{ℕ}
use mathlib.Core.Path.{◌≡◌, refl, ap}
use mathlib.Core.Bool.{false}
use lib.Dec.{eqb}
use Rattle.refusal.specs.declared.Refusal.{Refusal}
use Rattle.refusal.specs.declared.Refusal.TheVariants.{Short, Magic, Limit, Kind, Bounds, Address, Strings, Index, Aux, Name, Scnum, Csect, Module, Thread, Loader, Lsym, Lrel, SectionLrel, Overlap, SectionOverlap, Plan, Room, Sheet, Record, Form, Clash, Range, Full, Absent, Long, Shared, Visibility, NoLine, Group}
use Rattle.refusal.specs.Refusal.{number_of}

-- an answer that is as promised has the report that is promised
pub reported : {A B : Type 0} (report : A → B) {a b : A} → a ≡ b → (a ≡ b) × (report a ≡ report b)
reported report e = (e, ap report e)

-- no refusal has number 0
pub number-not-zero : (x : Refusal) → eqb (number_of x) 0 ≡ false
number-not-zero Short = refl
number-not-zero Magic = refl
number-not-zero (Limit i) = refl
number-not-zero (Kind i) = refl
number-not-zero (Bounds i) = refl
number-not-zero (Address i) = refl
number-not-zero Strings = refl
number-not-zero (Index i) = refl
number-not-zero (Aux i) = refl
number-not-zero (Name i) = refl
number-not-zero (Scnum i) = refl
number-not-zero (Csect i) = refl
number-not-zero (Module i) = refl
number-not-zero (Thread i) = refl
number-not-zero (Loader i) = refl
number-not-zero (Lsym i) = refl
number-not-zero (Lrel i) = refl
number-not-zero (Overlap i) = refl
number-not-zero (Plan i) = refl
number-not-zero (Room i) = refl
number-not-zero Sheet = refl
number-not-zero (Record i) = refl
number-not-zero Form = refl
number-not-zero Clash = refl
number-not-zero (SectionLrel e) = refl
number-not-zero (SectionOverlap e) = refl
number-not-zero (Range e) = refl
number-not-zero Full = refl
number-not-zero Absent = refl
number-not-zero Long = refl
number-not-zero Shared = refl
number-not-zero NoLine = refl
number-not-zero Group = refl
number-not-zero (Visibility i) = refl
