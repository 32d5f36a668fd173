-- Request 11, what one address of a plan alone can change, for every file: no premise says anything of it.
use mathlib.Core.List.{List}
use Prim.Native.Nat.{ℕ}
use Rattle.history.specs.Images.{Images}
use Rattle.history.specs.Plan.{Plan, built_images}
use Rattle.history.specs.Call.{build, move, effect, Accepts}
use Rattle.history.specs.Follows.{PlanAddress, InFieldNaming, AgreeBut, SameExcept}
use Rattle.history.specs.Follows.PlanAddress.{of_text, of_data, of_import}
use Rattle.history.proofs.Follows.{address-alone, address-alone-builds, address-alone-moves}
use Rattle.plan.specs.Relocatable.{relocatable_at}
use Rattle.plan.proofs.Sound.{relocatable-sound}

-- "If two accepted plans agree in data address and import addresses, the images are the same in every byte except fields with at least one entry that names
-- text or a symbol defined in text." It holds of plans that are not accepted too
pub text-alone : (file : List ℕ) (p q : Plan) → AgreeBut of_text (relocatable_at file) p q
    → SameExcept (InFieldNaming of_text (relocatable_at file)) (built_images (relocatable_at file) p) (built_images (relocatable_at file) q)
text-alone file = address-alone of_text (relocatable_at file) (relocatable-sound file)

-- "Likewise for data with bss"
pub data-alone : (file : List ℕ) (p q : Plan) → AgreeBut of_data (relocatable_at file) p q
    → SameExcept (InFieldNaming of_data (relocatable_at file)) (built_images (relocatable_at file) p) (built_images (relocatable_at file) q)
data-alone file = address-alone of_data (relocatable_at file) (relocatable-sound file)

-- "and for one import"
pub import-alone : (file : List ℕ) (k : ℕ) (p q : Plan) → AgreeBut (of_import k) (relocatable_at file) p q
    → SameExcept (InFieldNaming (of_import k) (relocatable_at file)) (built_images (relocatable_at file) p) (built_images (relocatable_at file) q)
import-alone file k = address-alone (of_import k) (relocatable_at file) (relocatable-sound file)

-- what accepted builds leave in the buffers, whatever these held
pub builds-alone : (file : List ℕ) (a : PlanAddress) (p q : Plan) → AgreeBut a (relocatable_at file) p q → (x : Images)
    → Accepts (relocatable_at file) x (build p) → Accepts (relocatable_at file) x (build q)
    → SameExcept (InFieldNaming a (relocatable_at file)) (effect (relocatable_at file) (build p) x) (effect (relocatable_at file) (build q) x)
builds-alone file a = address-alone-builds a (relocatable_at file) (relocatable-sound file)

-- what accepted moves from one plan leave, on any buffers
pub moves-alone : (file : List ℕ) (a : PlanAddress) (p q : Plan) → AgreeBut a (relocatable_at file) p q → (o : Plan) (x : Images)
    → Accepts (relocatable_at file) x (move o p) → Accepts (relocatable_at file) x (move o q)
    → SameExcept (InFieldNaming a (relocatable_at file)) (effect (relocatable_at file) (move o p) x) (effect (relocatable_at file) (move o q) x)
moves-alone file a = address-alone-moves a (relocatable_at file) (relocatable-sound file)
