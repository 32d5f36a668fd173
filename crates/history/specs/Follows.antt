-- Request 11: one address of a plan alone. Which entries name what follows it, and which plans agree but in it.
use Rattle.std.specs.Prelude.{◌≡◌, Bool, ◌⊎◌, ℕ, ◌+◌, get_or}
use Rattle.history.specs.declared.Followed.{Followed}
use Rattle.history.specs.declared.Followed.TheVariants as followed
use Rattle.history.specs.declared.Relocation.{Relocation}
use Rattle.history.specs.Images.{Images, lengths, image_of, InField, Any}
use Rattle.history.specs.Plan.{Relocatable, Plan, SameAddress, followed_by}

-- an address of a plan: of text, of data, or of the import with a place in the list
pub data PlanAddress : Type 0 where
  of_text : PlanAddress
  of_data : PlanAddress
  of_import : ℕ → PlanAddress

-- what a symbol follows is the address
abbrev pub Follows : PlanAddress → Followed → Type 0
Follows of_text f = f ≡ followed.Text
Follows of_data f = f ≡ followed.Data
Follows (of_import k) f = (v : ℕ) × (f ≡ followed.Import k v)

-- ---- which entries name what follows an address

-- symbol i is a loader symbol that follows f; 3 is the first in the table
pub record LoaderSymbol (m : Relocatable) (f : Followed) (i : ℕ) : Type 0 where
  pub place : ℕ
  pub index : i ≡ 3 + place
  pub follows : get_or m.symbols place followed.Nothing ≡ f

-- symbol i is text or a symbol defined in text; data, bss or a symbol defined in either; the import
abbrev pub SymbolOf : PlanAddress → Relocatable → ℕ → Type 0
SymbolOf of_text m i = (i ≡ 0) ⊎ LoaderSymbol m followed.Text i
SymbolOf of_data m i = (i ≡ 1) ⊎ (i ≡ 2) ⊎ LoaderSymbol m followed.Data i
SymbolOf (of_import k) m i = (v : ℕ) × LoaderSymbol m (followed.Import k v) i

-- an entry names such a symbol
abbrev pub Names : PlanAddress → Relocatable → Relocation → Type 0
Names a m e = SymbolOf a m e.symbol

-- byte k of the text image (t true) or the data image is in a field with at least one entry that names what follows the address
abbrev pub InFieldNaming : PlanAddress → Relocatable → Bool → ℕ → Type 0
InFieldNaming a m t k = Any (λ e. InField t k e × Names a m e) m.entries

-- ---- which plans agree but in an address

-- the addresses of all imports that are not deferred, and of all but the one with place k; ignored places may differ
abbrev pub SameImports : Relocatable → Plan → Plan → Type 0
SameImports m p q = (i : ℕ) → SameAddress p q (followed_by m i)

abbrev pub SameImportsBut : ℕ → Relocatable → Plan → Plan → Type 0
SameImportsBut k m p q = (i : ℕ) → (Follows (of_import k) (followed_by m i) → ⊥) → SameAddress p q (followed_by m i)

-- every address but one
abbrev pub AgreeBut : PlanAddress → Relocatable → Plan → Plan → Type 0
AgreeBut of_text m p q = (p.dat ≡ q.dat) × SameImports m p q
AgreeBut of_data m p q = (p.text ≡ q.text) × SameImports m p q
AgreeBut (of_import k) m p q = (p.text ≡ q.text) × (p.dat ≡ q.dat) × SameImportsBut k m p q

-- ---- images that are the same in every byte except some

-- of the same lengths, with the same byte wherever Q does not hold of its image and place
pub record SameExcept (Q : Bool → ℕ → Type 0) (x y : Images) : Type 0 where
  pub same_lengths : lengths x ≡ lengths y
  pub same_bytes : (t : Bool) (k : ℕ) → (Q t k → ⊥) → get_or (image_of t x) k 0 ≡ get_or (image_of t y) k 0
