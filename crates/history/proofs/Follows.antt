-- Request 11: what one address of a plan alone can change in the images. Assumes nothing.
use mathlib.Core.Path.{◌≡◌, refl, sym, ◌∙◌, ap}
use mathlib.Core.Bool.{Bool}
use mathlib.Core.Logic.{inl, inr, ◌↔◌}
use mathlib.Core.List.{List, [], ◌∷◌}
use Prim.Native.Nat.{ℕ, zero, suc}
use native.Mathlib.Omega.{arith}
use lib.ListN.{get_or}
use lib.IntN.{ℤ, pos, ◌-ℤ◌}
use Rattle.book.proofs.Bytes.{none-all}
use Rattle.history.specs.declared.Followed.{Followed}
use Rattle.history.specs.declared.Followed.TheVariants as followed
use Rattle.history.specs.declared.Relocation.{Relocation}
use Rattle.history.specs.Images.{Images, Shifts, apply_all, All, Inside, InField}
use Rattle.history.specs.Plan.{Relocatable, Plan, Sound, SamePlan, followed_by, displacement_of, displacements, differences, built_images}
use Rattle.history.specs.Call.{build, move, effect, Accepts}
use Rattle.history.specs.Follows.{PlanAddress, Follows, LoaderSymbol, SymbolOf, Names, InFieldNaming, AgreeBut, SameExcept}
use Rattle.history.specs.Follows.PlanAddress.{of_text, of_data, of_import}
use Rattle.history.proofs.Apply.{apply_all-lengths}
use Rattle.history.proofs.Bytes.{same_byte}
use Rattle.history.proofs.Check.{accepted-inside}
use Rattle.history.proofs.Corollaries.{build-images, move-images}

-- ---- the symbols of an address

module _ (m : Relocatable) where
  -- a loader symbol follows what its place in the table says
  loader-follows : (f : Followed) (i : ℕ) → LoaderSymbol m f i → followed_by m i ≡ f
  unfolding followed_by
  loader-follows f i s =
      let e : i ≡ suc (suc (suc s.place)) = omega (arith, s.index) in
      ap (followed_by m) e ∙ s.follows

  -- symbols from 3 on are loader symbols
  follows-loader : (f : Followed) (k : ℕ) → get_or m.symbols k followed.Nothing ≡ f → LoaderSymbol m f (suc (suc (suc k)))
  follows-loader f k e = record { place = k; index = omega arith; follows = e }

  -- a symbol of the address follows it
  of-follows : (a : PlanAddress) (i : ℕ) → SymbolOf a m i → Follows a (followed_by m i)
  unfolding followed_by
  of-follows of_text i (inl z) = rw z refl
  of-follows of_text i (inr s) = loader-follows followed.Text i s
  of-follows of_data i (inl z) = rw z refl
  of-follows of_data i (inr (inl z)) = rw z refl
  of-follows of_data i (inr (inr s)) = loader-follows followed.Data i s
  of-follows (of_import k) i (v, s) = (v, loader-follows (followed.Import k v) i s)

  -- and a symbol that follows it is one of it
  follows_of : (a : PlanAddress) (i : ℕ) → Follows a (followed_by m i) → SymbolOf a m i
  unfolding followed_by
  follows_of of_text zero e = inl refl
  follows_of of_text (suc zero) e = let z : ◌≡◌ {A = ℕ} 0 1 = cc in absurd (omega arith)
  follows_of of_text (suc (suc zero)) e = let z : ◌≡◌ {A = ℕ} 0 1 = cc in absurd (omega arith)
  follows_of of_text (suc (suc (suc k))) e = inr (follows-loader followed.Text k e)
  follows_of of_data zero e = let z : ◌≡◌ {A = ℕ} 0 1 = cc in absurd (omega arith)
  follows_of of_data (suc zero) e = inl refl
  follows_of of_data (suc (suc zero)) e = inr (inl refl)
  follows_of of_data (suc (suc (suc k))) e = inr (inr (follows-loader followed.Data k e))
  follows_of (of_import j) zero (v, e) = let z : ◌≡◌ {A = ℕ} 0 1 = cc in absurd (omega arith)
  follows_of (of_import j) (suc zero) (v, e) = let z : ◌≡◌ {A = ℕ} 0 1 = cc in absurd (omega arith)
  follows_of (of_import j) (suc (suc zero)) (v, e) = let z : ◌≡◌ {A = ℕ} 0 1 = cc in absurd (omega arith)
  follows_of (of_import j) (suc (suc (suc k))) (v, e) = (v, follows-loader (followed.Import j v) k e)

  -- the symbols of an address are exactly those that follow it
  pub symbols-follow : (a : PlanAddress) (i : ℕ) → SymbolOf a m i ↔ Follows a (followed_by m i)
  symbols-follow a i = (of-follows a i, follows_of a i)

  -- ---- plans that agree but in one address

  -- plans that are the same agree but in any
  pub same-agree : (a : PlanAddress) (p q : Plan) → SamePlan m p q → AgreeBut a m p q
  same-agree of_text p q s = (s.dat, s.imports)
  same-agree of_data p q s = (s.text, s.imports)
  same-agree (of_import k) p q s = (s.text, s.dat, λ i n. s.imports i)

  module _ (p q : Plan) where
    -- an import with the same address in both has the same displacement
    same-import : (k v : ℕ) → get_or p.list k 0 ≡ get_or q.list k 0 → displacement_of m p (followed.Import k v) ≡ displacement_of m q (followed.Import k v)
    unfolding displacement_of
    same-import k v e = ap (λ (n : ℕ). pos n -ℤ pos v) e

    -- what does not follow the address has the same displacement in both
    agree-displacement : (a : PlanAddress) → AgreeBut a m p q → (i : ℕ) (f : Followed) → followed_by m i ≡ f → (Follows a f → ⊥)
        → displacement_of m p f ≡ displacement_of m q f
    unfolding displacement_of
    agree-displacement of_text g i followed.Text e n = absurd (n refl)
    agree-displacement of_text g i followed.Data e n = ap (λ (k : ℕ). pos k -ℤ pos m.data_address) g.0
    agree-displacement of_text g i (followed.Import k v) e n = same-import k v (rw e at (g.1 i))
    agree-displacement of_text g i followed.Nothing e n = refl
    agree-displacement of_data g i followed.Text e n = ap (λ (k : ℕ). pos k -ℤ pos m.text_address) g.0
    agree-displacement of_data g i followed.Data e n = absurd (n refl)
    agree-displacement of_data g i (followed.Import k v) e n = same-import k v (rw e at (g.1 i))
    agree-displacement of_data g i followed.Nothing e n = refl
    agree-displacement (of_import j) g i followed.Text e n = ap (λ (k : ℕ). pos k -ℤ pos m.text_address) g.0
    agree-displacement (of_import j) g i followed.Data e n = ap (λ (k : ℕ). pos k -ℤ pos m.data_address) g.1
    agree-displacement (of_import j) g i (followed.Import k v) e n = same-import k v (rw e at (g.2 i (rw e n)))
    agree-displacement (of_import j) g i followed.Nothing e n = refl

    -- so an entry that names nothing that follows the address has the same displacement in both
    agree-shift : (a : PlanAddress) → AgreeBut a m p q → (e : Relocation) → (Names a m e → ⊥) → displacements m p e.symbol ≡ displacements m q e.symbol
    unfolding displacements
    agree-shift a g e n =
        agree-displacement a g e.symbol (followed_by m e.symbol) refl (λ h. n ((symbols-follow a e.symbol).1 h))

-- ---- the images

-- shifts that agree on every entry that names nothing that follows the address
module _ (a : PlanAddress) (m : Relocatable) (s s' : Shifts) (agree : (e : Relocation) → (Names a m e → ⊥) → s e.symbol ≡ s' e.symbol) where
  -- they agree on every entry of a byte that is in no field with at least one entry that names something that does
  all-agree : (t : Bool) (k : ℕ) (es : List Relocation) → All (λ e. InField t k e × Names a m e → ⊥) es → All (λ e. InField t k e → s e.symbol ≡ s' e.symbol) es
  all-agree t k [] h = tt
  all-agree t k (e ∷ es) h = (λ i. agree e (λ n. h.0 (i, n)), all-agree t k es h.1)

  -- so they leave the same but for such fields
  applied-except : (x : Images) → Sound m → All (Inside x) m.entries → SameExcept (InFieldNaming a m) (apply_all m.entries s x) (apply_all m.entries s' x)
  applied-except x sound i =
      record {
        same_lengths = apply_all-lengths m.entries s x ∙ sym (apply_all-lengths m.entries s' x);
        same_bytes = λ t k n. same_byte t k m.entries s s' x i sound.pairwise (all-agree t k m.entries (none-all (λ e. InField t k e × Names a m e) m.entries n));
      }

module _ (a : PlanAddress) (m : Relocatable) (sound : Sound m) (p q : Plan) (agree : AgreeBut a m p q) where
  -- "If two accepted plans agree in ..., the images are the same in every byte except fields with at least one entry that names ...": also of plans that are not accepted
  pub address-alone : SameExcept (InFieldNaming a m) (built_images m p) (built_images m q)
  unfolding built_images
  address-alone = applied-except a m (displacements m p) (displacements m q) (agree-shift m p q a agree) m.raw sound sound.inside

  -- what accepted builds leave, whatever the buffers held
  pub address-alone-builds : (x : Images) → Accepts m x (build p) → Accepts m x (build q)
      → SameExcept (InFieldNaming a m) (effect m (build p) x) (effect m (build q) x)
  address-alone-builds x e f = rw (build-images m x p e, build-images m x q f) address-alone

  -- what accepted moves from one plan leave, on any buffers
  pub address-alone-moves : (o : Plan) (x : Images) → Accepts m x (move o p) → Accepts m x (move o q)
      → SameExcept (InFieldNaming a m) (effect m (move o p) x) (effect m (move o q) x)
  unfolding differences
  address-alone-moves o x e f =
      rw (move-images m x o p e, move-images m x o q f)
      (applied-except a m (differences m o p) (differences m o q)
      (λ r n. ap (λ (z : ℤ). z -ℤ displacements m o r.symbol) (agree-shift m p q a agree r n)) x sound (accepted-inside m sound (move o p) x e))
