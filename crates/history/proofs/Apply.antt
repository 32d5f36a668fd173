-- Laws of relocation entries applied to images. Assumes nothing.
use mathlib.Core.Path.{◌≡◌, refl, sym, ◌∙◌, ap}
use mathlib.Core.Bool.{Bool, true, false, not}
use mathlib.Core.Logic.{◌⊎◌, inl, inr}
use mathlib.Core.List.{List, [], ◌∷◌}
use Prim.Native.Nat.{ℕ, ◌+◌, ◌≤◌, ◌<◌}
use lib.ListN.{length, get_or}
use lib.IntN.{ℤ, pos, ◌+ℤ◌, neg_ℤ-+ℤ}
use Rattle.update.specs.Update.{Apart, Bytes}
use Rattle.update.proofs.Laws.{length-add, add-add, add_apart, add-zero, add-outside}
use Rattle.relocation.specs.declared.FieldPlace.{FieldPlace}
use Rattle.relocation.specs.Relocation.{bytes_wide}
use Rattle.field_overlap.specs.Overlap.{Compatible}
use Rattle.field_overlap.specs.Overlap.Compatible.{other_section, same, before, after}
use Rattle.history.specs.declared.Relocation.{Relocation}
use Rattle.book.specs.Machine.{sum}
use Rattle.book.specs.Entries as entries
use Rattle.book.proofs.Entries as composition
use Rattle.book.proofs.Entries.{FieldLaws}
use Rattle.history.specs.Images.{Images, images, lengths, fields, Shifts, signed, add_at, apply_entry, apply_all, length_of, All, Inside, Pairwise, image_of}

-- ---- one field changed

-- the other image stays
other-image : (t : Bool) (w off : ℕ) (z : ℤ) (x : Images) → image_of (not t) (add_at t w off z x) ≡ image_of (not t) x
unfolding add_at
other-image true w off z x = refl
other-image false w off z x = refl

-- what is outside the field stays
pub add_at-outside : (t u : Bool) (w off k : ℕ) (z : ℤ) (x : Images) → (t ≡ u → (k < off) ⊎ (off + w ≤ k))
    → get_or (image_of u (add_at t w off z x)) k 0 ≡ get_or (image_of u x) k 0
unfolding add_at
add_at-outside true true w off k z x h = add-outside w off k z x.text (h refl)
add_at-outside true false w off k z x h = ap (λ (l : List ℕ). get_or l k 0) (other-image true w off z x)
add_at-outside false true w off k z x h = ap (λ (l : List ℕ). get_or l k 0) (other-image false w off z x)
add_at-outside false false w off k z x h = add-outside w off k z x.dat (h refl)

-- a field added to keeps both lengths
pub add_at-lengths : (t : Bool) (w off : ℕ) (z : ℤ) (x : Images) → lengths (add_at t w off z x) ≡ lengths x
unfolding add_at
add_at-lengths true w off z x = ap (λ (n : ℕ). (n, length x.dat)) (length-add w off z x.text)
add_at-lengths false w off z x = ap (λ (n : ℕ). (length x.text, n)) (length-add w off z x.dat)

-- images of the same lengths have either length the same
pub length-in : (u : Bool) (x y : Images) → lengths x ≡ lengths y → length_of u x ≡ length_of u y
length-in true x y e = ap (λ (l : ℕ × ℕ). l.0) e
length-in false x y e = ap (λ (l : ℕ × ℕ). l.1) e

-- a then b is their sum
pub add_at-add : (t : Bool) (w off : ℕ) (a b : ℤ) (x : Images) → off + w ≤ length_of t x → add_at t w off b (add_at t w off a x) ≡ add_at t w off (a +ℤ b) x
unfolding add_at
add_at-add true w off a b x h = ap (λ (l : List ℕ). images l x.dat) (add-add w off a b x.text h)
add_at-add false w off a b x h = ap (λ (l : List ℕ). images x.text l) (add-add w off a b x.dat h)

-- 0 added changes nothing
add_at-zero : (t : Bool) (w off : ℕ) (x : Images) → Bytes (image_of t x) → off + w ≤ length_of t x → add_at t w off (pos 0) x ≡ x
unfolding add_at
add_at-zero true w off x b h = ap (λ (l : List ℕ). images l x.dat) (add-zero w off x.text b h)
add_at-zero false w off x b h = ap (λ (l : List ℕ). images x.text l) (add-zero w off x.dat b h)

-- changes in two images can change places
add_at-other : (t u : Bool) (w off w' off' : ℕ) (a b : ℤ) (x : Images) → (t ≡ u → ⊥)
    → add_at t w off a (add_at u w' off' b x) ≡ add_at u w' off' b (add_at t w off a x)
unfolding add_at
add_at-other true true w off w' off' a b x h = absurd (h refl)
add_at-other true false w off w' off' a b x h = refl
add_at-other false true w off w' off' a b x h = refl
add_at-other false false w off w' off' a b x h = absurd (h refl)

-- changes of fields that share no byte can change places
add_at-apart : (t : Bool) (w off w' off' : ℕ) (a b : ℤ) (x : Images) → Apart off w off' w'
    → add_at t w off a (add_at t w' off' b x) ≡ add_at t w' off' b (add_at t w off a x)
unfolding add_at
add_at-apart true w off w' off' a b x h = ap (λ (l : List ℕ). images l x.dat) (add_apart w off w' off' a b x.text h)
add_at-apart false w off w' off' a b x h = ap (λ (l : List ℕ). images x.text l) (add_apart w off w' off' a b x.dat h)

-- ---- fields by their places

-- z added to a field
abbrev pub add_to : FieldPlace → ℤ → Images → Images
add_to f z x = add_at f.text (bytes_wide f.wide) f.offset z x

-- the field is inside its image
abbrev pub Holds : Images → FieldPlace → Type 0
Holds x f = f.offset + bytes_wide f.wide ≤ length_of f.text x

-- fields of different images, or that share no byte
abbrev pub PlacesApart : FieldPlace → FieldPlace → Type 0
PlacesApart f g =
    (f.text ≡ g.text → ⊥) ⊎ ((f.text ≡ g.text) × Apart f.offset (bytes_wide f.wide) g.offset (bytes_wide g.wide))

-- compatible fields are the same or apart
same-or-apart : (f g : FieldPlace) → Compatible f g → (f ≡ g) ⊎ PlacesApart f g
same-or-apart f g (other_section h) = inr (inl h)
same-or-apart f g (same e) = inl e
same-or-apart f g (before e h) = inr (inr (e, inl h))
same-or-apart f g (after e h) = inr (inr (e, inr h))

-- changes of fields apart can change places
pub add_to-apart : (f g : FieldPlace) (a b : ℤ) (x : Images) → PlacesApart f g → add_to f a (add_to g b x) ≡ add_to g b (add_to f a x)
add_to-apart f g a b x (inl h) =
    add_at-other f.text g.text (bytes_wide f.wide) f.offset (bytes_wide g.wide) g.offset a b x h
add_to-apart f g a b x (inr h) =
    rw (← h.0) (add_at-apart f.text (bytes_wide f.wide) f.offset (bytes_wide g.wide) g.offset a b x h.1)

-- ---- lengths

-- entries applied keep both lengths
pub apply_all-lengths : (es : List Relocation) (s : Shifts) (x : Images) → lengths (apply_all es s x) ≡ lengths x
unfolding apply_all
apply_all-lengths [] s x = refl
apply_all-lengths (e ∷ es) s x =
    apply_all-lengths es s (apply_entry e s x)
    ∙ add_at-lengths e.place.text (bytes_wide e.place.wide) e.place.offset (signed e.minus (s e.symbol)) x

-- entries are inside any images of the same lengths
pub inside-lengths : (es : List Relocation) (x y : Images) → lengths x ≡ lengths y → All (Inside x) es → All (Inside y) es
inside-lengths [] x y h i = tt
inside-lengths (e ∷ es) x y h i = (rw (length-in e.place.text x y h) at i.0, inside-lengths es x y h i.1)

-- ---- all entries by s and then all by t

-- a sign goes over a sum
pub signed_add : (m : Bool) (a b : ℤ) → signed m a +ℤ signed m b ≡ signed m (a +ℤ b)
signed_add true a b = sym (neg_ℤ-+ℤ a b)
signed_add false a b = refl

-- what composition asks of a module's fields
abbrev pub field_laws : FieldLaws fields
field_laws =
    record {
      Inside = Holds;
      Apart = PlacesApart;
      inside-add = λ p q a x i. rw (length-in p.text (add_to q a x) x (add_at-lengths q.text (bytes_wide q.wide) q.offset a x)) i;
      add-add = λ p a b x i. add_at-add p.text (bytes_wide p.wide) p.offset a b x i;
      add_apart = add_to-apart;
      amount-sum = λ e s t. signed_add e.minus (s e.symbol) (t e.symbol);
    }

-- compatible entries are so in the general law's words
all_either : (e : Relocation) (es : List Relocation) → All (λ f. Compatible e.place f.place) es → All (composition.Compatible fields field_laws e) es
all_either e [] c = tt
all_either e (f ∷ es) c = (same-or-apart e.place f.place c.0, all_either e es c.1)

pub pairwise-either : (es : List Relocation) → Pairwise es → entries.Pairwise (composition.Compatible fields field_laws) es
pairwise-either [] p = tt
pairwise-either (e ∷ es) p = (all_either e es p.0, pairwise-either es p.1)

-- all entries by s and then all by t are all by s + t
pub apply_all-add : (es : List Relocation) (s t : Shifts) (x : Images) → All (Inside x) es → Pairwise es
    → apply_all es t (apply_all es s x) ≡ apply_all es (sum s t) x
unfolding apply_all
apply_all-add es s t x i p = composition.apply_all-add fields field_laws es s t x i (pairwise-either es p)

-- ---- shifts that are 0

-- either image is bytes where both are
bytes-in : (u : Bool) (x : Images) → Bytes x.text → Bytes x.dat → Bytes (image_of u x)
bytes-in true x b c = b
bytes-in false x b c = c

-- 0 has no sign
signed-zero : (m : Bool) → signed m (pos 0) ≡ pos 0
signed-zero true = refl
signed-zero false = refl

-- an entry applied by 0 changes nothing
entry_zero : (e : Relocation) (x : Images) → Bytes x.text → Bytes x.dat → Inside x e → apply_entry e (λ i. pos 0) x ≡ x
unfolding apply_entry
entry_zero e x b c i =
    ap (λ (z : ℤ). add_to e.place z x) (signed-zero e.minus)
    ∙ add_at-zero e.place.text (bytes_wide e.place.wide) e.place.offset x (bytes-in e.place.text x b c) i

-- entries applied by 0 change nothing
pub apply_all-zero : (es : List Relocation) (x : Images) → Bytes x.text → Bytes x.dat → All (Inside x) es → apply_all es (λ i. pos 0) x ≡ x
unfolding apply_all
apply_all-zero [] x b c i = refl
apply_all-zero (e ∷ es) x b c i = ap (λ (y : Images). apply_all es (λ i. pos 0) y) (entry_zero e x b c i.0) ∙ apply_all-zero es x b c i.1
