-- Shifts that agree on every entry whose field holds a byte leave the same byte there. Once for any images, places, kinds of field and amounts. Assumes nothing.
use mathlib.Core.Path.{◌≡◌, refl, sym, ◌∙◌, ap}
use mathlib.Core.Logic.{inl, inr}
use mathlib.Core.List.{List, [], ◌∷◌}
use Prim.Native.Nat.{ℕ}
use lib.IntN.{ℤ}
use Rattle.book.specs.Machine.{Shifts}
use Rattle.book.specs.Entries.{Fields, apply_entry, apply_all, All, Any, Pairwise}
use Rattle.book.proofs.Entries.{FieldLaws, AllInside, Compatible, all-inside}

-- what that asks of fields; K is how a byte of the images is named
pub record ByteLaws {X P E : Type 0} (f : Fields X P E) (law : FieldLaws f) (K : Type 0) : Type 1 where
  pub byte : K → X → ℕ
  -- the field at a place holds a byte
  pub Holds : P → K → Type 0
  pub holds? : (p : P) (k : K) → Dec (Holds p k)
  -- fields apart hold no byte in common
  pub apart : (p q : P) (k : K) → law.Apart p q → Holds p k → Holds q k → ⊥
  -- an addition leaves the bytes that its field does not hold
  pub outside : (p : P) (a : ℤ) (x : X) (k : K) → (Holds p k → ⊥) → byte k (f.add p a x) ≡ byte k x
  -- those that it holds depend on what it held, and on nothing else
  pub within : (p : P) (a : ℤ) (x y : X) (k : K) → law.Inside x p → law.Inside y p → ((j : K) → Holds p j → byte j x ≡ byte j y) → Holds p k
      → byte k (f.add p a x) ≡ byte k (f.add p a y)

-- what not one has, all have not
pub none-all : {E : Type 0} (P : E → Type 0) (es : List E) → (Any P es → ⊥) → All (λ e. P e → ⊥) es
none-all P [] h = tt
none-all P (e ∷ es) h = (λ p. h (inl p), none-all P es (λ a. h (inr a)))

module _ {X P E K : Type 0} (f : Fields X P E) (law : FieldLaws f) (bytes : ByteLaws f law K) where
  -- x and y hold the same in an entry's field
  abbrev SameField : X → X → E → Type 0
  SameField x y e = (j : K) → bytes.Holds (f.place e) j → bytes.byte j x ≡ bytes.byte j y

  -- s and t add the same to an entry's field, if it holds byte k
  abbrev pub Agrees : Shifts → Shifts → K → E → Type 0
  Agrees s t k e = bytes.Holds (f.place e) k → f.amount e s ≡ f.amount e t

  module _ (s t : Shifts) where
    -- byte j after one entry by s of x and by t of y
    entry-byte : (e : E) (x y : X) (j : K) → law.Inside x (f.place e) → law.Inside y (f.place e) → bytes.byte j x ≡ bytes.byte j y
        → (bytes.Holds (f.place e) j → (f.amount e s ≡ f.amount e t) × SameField x y e)
        → bytes.byte j (apply_entry f e s x) ≡ bytes.byte j (apply_entry f e t y)
    entry-byte e x y j i i' b h = by_place (bytes.holds? (f.place e) j)
      where
        by_place : Dec (bytes.Holds (f.place e) j) → bytes.byte j (apply_entry f e s x) ≡ bytes.byte j (apply_entry f e t y)
        by_place (yes p) =
            bytes.within (f.place e) (f.amount e s) x y j i i' (h p).1 p
            ∙ ap (λ (a : ℤ). bytes.byte j (f.add (f.place e) a y)) (h p).0
        by_place (no n) =
            bytes.outside (f.place e) (f.amount e s) x j n ∙ b ∙ sym (bytes.outside (f.place e) (f.amount e t) y j n)

    module _ (k : K) where
      -- an entry leaves a compatible field that holds byte k the same
      field-after : (e g : E) (x y : X) → Compatible f law e g → law.Inside x (f.place e) → law.Inside y (f.place e) → Agrees s t k e
          → (bytes.Holds (f.place e) k → SameField x y e) → bytes.Holds (f.place g) k → SameField x y g
          → SameField (apply_entry f e s x) (apply_entry f e t y) g
      field-after e g x y c i i' a d h m j hj = entry-byte e x y j i i' (m j hj) (on c)
        where
          on : Compatible f law e g → bytes.Holds (f.place e) j → (f.amount e s ≡ f.amount e t) × SameField x y e
          on (inl q) p = let hk : bytes.Holds (f.place e) k = rw q h in (a hk, d hk)
          on (inr q) p = absurd (bytes.apart (f.place e) (f.place g) j q p hj)

      -- the same of every entry that follows
      fields-after : (e : E) (es : List E) (x y : X) → All (Compatible f law e) es → law.Inside x (f.place e) → law.Inside y (f.place e) → Agrees s t k e
          → (bytes.Holds (f.place e) k → SameField x y e) → All (λ g. bytes.Holds (f.place g) k → SameField x y g) es
          → All (λ g. bytes.Holds (f.place g) k → SameField (apply_entry f e s x) (apply_entry f e t y) g) es
      fields-after e [] x y c i i' a d m = tt
      fields-after e (g ∷ es) x y c i i' a d m =
          (λ h. field-after e g x y c.0 i i' a d h (m.0 h), fields-after e es x y c.1 i i' a d m.1)

      -- byte k after all entries by s of x and by t of y
      bytes_after : (es : List E) (x y : X) → AllInside f law x es → AllInside f law y es → Pairwise (Compatible f law) es → All (Agrees s t k) es
          → bytes.byte k x ≡ bytes.byte k y → All (λ e. bytes.Holds (f.place e) k → SameField x y e) es
          → bytes.byte k (apply_all f es s x) ≡ bytes.byte k (apply_all f es t y)
      unfolding apply_all
      bytes_after [] x y i i' p a b m = b
      bytes_after (e ∷ es) x y i i' p a b m =
          bytes_after es (apply_entry f e s x) (apply_entry f e t y)
          (all-inside f law es (f.place e) (f.amount e s) x i.1) (all-inside f law es (f.place e) (f.amount e t) y i'.1) p.1 a.1
          (entry-byte e x y k i.0 i'.0 b (λ h. (a.0 h, m.0 h)))
          (fields-after e es x y p.0 i.0 i'.0 a.0 m.0 m.1)

      -- images hold the same as themselves
      own-fields : (es : List E) (x : X) → All (λ e. bytes.Holds (f.place e) k → SameField x x e) es
      own-fields [] x = tt
      own-fields (e ∷ es) x = (λ h j p. refl, own-fields es x)

      -- shifts that agree on every entry whose field holds a byte leave the same byte there
      pub same_byte : (es : List E) (x : X) → AllInside f law x es → Pairwise (Compatible f law) es → All (Agrees s t k) es
          → bytes.byte k (apply_all f es s x) ≡ bytes.byte k (apply_all f es t x)
      same_byte es x i p a = bytes_after es x x i i p a refl (own-fields es x)
