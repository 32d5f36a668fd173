-- What the list of kinds holds, and which flags are allowed. Assumes nothing.
use mathlib.Core.Path.{◌≡◌, refl, sym, ◌∙◌, ap}
use mathlib.Core.Bool.{Bool, true, false, cond, not, ◌&&◌, ◌||◌}
use mathlib.Core.List.{List, [], ◌∷◌}
use mathlib.Core.Logic.{◌⊎◌, inl, inr}
use Prim.Native.Nat.{ℕ, zero, suc, ◌/◌, ◌%◌, ◌<◌}
use native.Mathlib.Decide.{ℕ_discrete}
use native.Mathlib.Omega.{arith}
use borrow.Author.Tests.{eqb-true, eq-eqb, ne_eqb}
use lib.Dec.{eqb}
use lib.ListN.{length, get_or}
use Rattle.section_kind.specs.declared.SectionKind.{SectionKind}
use Rattle.section_kind.specs.declared.SectionKind.TheVariants.{Deleted, Dwarf, Loader}
use Rattle.section_kind.specs.Kind.{flags_of, kinds, kind_in, listed_kind, kind_of}
use Rattle.section_kind.specs.Claim.{thirteen, Names}
use Rattle.std.specs.Prelude.{None, Some}

-- ---- the list holds 01's thirteen kinds, each once

abbrev pub flags_in : List SectionKind → List ℕ
flags_in [] = []
flags_in (k ∷ ks) = flags_of k ∷ flags_in ks

-- the flags of the list's kinds are document 01's thirteen values
pub holds-thirteen : flags_in kinds ≡ thirteen
holds-thirteen = refl

-- whether some kind of a list has these flags, and whether each of a list has its own
abbrev has : ℕ → List SectionKind → Bool
has n [] = false
has n (k ∷ ks) = eqb (flags_of k) n || has n ks

abbrev each_own : List SectionKind → Bool
each_own [] = true
each_own (k ∷ ks) = not (has (flags_of k) ks) && each_own ks

has-at : (n : ℕ) (ks : List SectionKind) (i : ℕ) → i < length ks → flags_of (get_or ks i Deleted) ≡ n → has n ks ≡ true
has-at n [] i h e = absurd (omega arith)
has-at n (k ∷ ks) zero h e = rw (eq-eqb (flags_of k) n e) refl
has-at n (k ∷ ks) (suc i) h e = rw (has-at n ks i (omega arith) e) (or-true (eqb (flags_of k) n))
  where
    or-true : (b : Bool) → (b || true) ≡ true
    or-true true = refl
    or-true false = refl

no-and-first : (a b : Bool) → (not a && b) ≡ true → a ≡ true → ⊥
no-and-first true b e h = let z : ◌≡◌ {A = ℕ} 0 1 = cc in absurd (omega arith)
no-and-first false b e h = let z : ◌≡◌ {A = ℕ} 0 1 = cc in absurd (omega arith)

no-and-rest : (a b : Bool) → (not a && b) ≡ true → b ≡ true
no-and-rest true b e = let z : ◌≡◌ {A = ℕ} 0 1 = cc in absurd (omega arith)
no-and-rest false b e = e

-- the computed test as a law: two places with the same flags are one
own-place : (ks : List SectionKind) → each_own ks ≡ true → (i j : ℕ) → i < length ks → j < length ks → flags_of (get_or ks i Deleted) ≡ flags_of (get_or ks j Deleted) → i ≡ j
own-place [] t i j h l e = absurd (omega arith)
own-place (k ∷ ks) t zero zero h l e = refl
own-place (k ∷ ks) t zero (suc j) h l e = absurd (no-and-first (has (flags_of k) ks) (each_own ks) t (has-at (flags_of k) ks j (omega arith) (sym e)))
own-place (k ∷ ks) t (suc i) zero h l e = absurd (no-and-first (has (flags_of k) ks) (each_own ks) t (has-at (flags_of k) ks i (omega arith) e))
own-place (k ∷ ks) t (suc i) (suc j) h l e = ap suc (own-place ks (no-and-rest (has (flags_of k) ks) (each_own ks) t) i j (omega arith) (omega arith) e)

pub each-once : (i j : ℕ) → i < length kinds → j < length kinds → flags_of (get_or kinds i Deleted) ≡ flags_of (get_or kinds j Deleted) → i ≡ j
each-once i j h l e = own-place kinds refl i j h l e

-- ---- which flags are allowed

record At (low : ℕ) (ks : List SectionKind) (k : SectionKind) : Type 0 where
  place : ℕ
  inside : place < length ks
  listed : get_or ks place Deleted ≡ k
  flags : flags_of k ≡ low

-- what is found is in the list
found_at : (low : ℕ) (ks : List SectionKind) (k : SectionKind) → kind_in low ks ≡ Some k → At low ks k
found_at low [] k e = let z : ◌≡◌ {A = ℕ} 0 1 = cc in absurd (omega arith)
found_at low (x ∷ ks) k e = by-test (eqb (flags_of x) low) refl e (λ q. found_at low ks k q)
  where
    by-test : (b : Bool) → eqb (flags_of x) low ≡ b → cond b (Some x) (kind_in low ks) ≡ Some k → (kind_in low ks ≡ Some k → At low ks k) → At low (x ∷ ks) k
    by-test true t q rest = let s : x ≡ k = cc in record { place = 0; inside = omega arith; listed = s; flags = ap flags_of (sym s) ∙ eqb-true (flags_of x) low t }
    by-test false t q rest = let r = rest q in let h = r.inside in record { place = suc r.place; inside = omega arith; listed = r.listed; flags = r.flags }

-- what is in the list is found: the first kind with these flags is the only one
at-found : (low : ℕ) (ks : List SectionKind) → each_own ks ≡ true → (i : ℕ) → i < length ks → flags_of (get_or ks i Deleted) ≡ low → kind_in low ks ≡ Some (get_or ks i Deleted)
at-found low [] t i h e = absurd (omega arith)
at-found low (k ∷ ks) t zero h e = rw (eq-eqb (flags_of k) low e) refl
at-found low (k ∷ ks) t (suc i) h e =
    let other : flags_of k ≡ low → ⊥ = λ q. no-and-first (has (flags_of k) ks) (each_own ks) t (has-at (flags_of k) ks i (omega arith) (e ∙ sym q)) in
    rw (ne_eqb (flags_of k) low other) (at-found low ks (no-and-rest (has (flags_of k) ks) (each_own ks) t) i (omega arith) e)

-- flags other than all ones that are allowed have their low 16 bits in the list, and the high 16 are 0 or the kind is dwarf
pub allowed-listed : (flags : ℕ) (k : SectionKind) → (flags ≡ 0xFFFFFFFF → ⊥) → kind_of flags ≡ Some k → Names flags k
unfolding kind_of listed_kind
allowed-listed flags k n e = by_high (eqb (flags / 65536) 0) refl (eqb (flags % 65536) (flags_of Dwarf)) refl (rw (ne_eqb flags 0xFFFFFFFF n) at e)
  where
    named : kind_in (flags % 65536) kinds ≡ Some k → (At (flags % 65536) kinds k → (flags / 65536 ≡ 0) ⊎ (k ≡ Dwarf)) → Names flags k
    named q h = let r = found_at (flags % 65536) kinds k q in record { place = r.place; inside = r.inside; listed = r.listed; low = r.flags; high = h r }

    dwarf : flags % 65536 ≡ flags_of Dwarf → At (flags % 65536) kinds k → k ≡ Dwarf
    dwarf w r =
        let i = each-once r.place 1 r.inside (omega arith) (ap flags_of r.listed ∙ r.flags ∙ w) in
        sym r.listed ∙ ap (λ (j : ℕ). get_or kinds j Deleted) i

    by_high : (a : Bool) → eqb (flags / 65536) 0 ≡ a → (b : Bool) → eqb (flags % 65536) (flags_of Dwarf) ≡ b → cond (a || b) (kind_in (flags % 65536) kinds) None ≡ Some k → Names flags k
    by_high true t b u q = named q (λ r. inl (eqb-true (flags / 65536) 0 t))
    by_high false t true u q = named q (λ r. inr (dwarf (eqb-true (flags % 65536) (flags_of Dwarf) u) r))
    by_high false t false u q = let z : ◌≡◌ {A = ℕ} 0 1 = cc in absurd (omega arith)

-- and such flags are allowed
pub listed-allowed : (flags : ℕ) (k : SectionKind) → (flags ≡ 0xFFFFFFFF → ⊥) → Names flags k → kind_of flags ≡ Some k
unfolding kind_of listed_kind
listed-allowed flags k n r = rw (ne_eqb flags 0xFFFFFFFF n) (by_high r.high)
  where
    found : kind_in (flags % 65536) kinds ≡ Some k
    found = at-found (flags % 65536) kinds refl r.place r.inside (ap flags_of r.listed ∙ r.low) ∙ ap Some r.listed

    by_high : (flags / 65536 ≡ 0) ⊎ (k ≡ Dwarf) → cond (eqb (flags / 65536) 0 || eqb (flags % 65536) (flags_of Dwarf)) (kind_in (flags % 65536) kinds) None ≡ Some k
    by_high (inl z) = rw (eq-eqb (flags / 65536) 0 z) found
    by_high (inr d) = rw (eq-eqb (flags % 65536) (flags_of Dwarf) (sym r.low ∙ ap flags_of d)) (or_kept (eqb (flags / 65536) 0))
      where
        or_kept : (b : Bool) → cond (b || true) (kind_in (flags % 65536) kinds) None ≡ Some k
        or_kept true = found
        or_kept false = found

-- ---- the flags of the loader section

-- a kind other than deleted has the flags themselves, or is dwarf
flags-or-dwarf : (flags : ℕ) (k : SectionKind) → Names flags k → (flags_of k ≡ flags) ⊎ (k ≡ Dwarf)
flags-or-dwarf flags k r = by r.high
  where
    by : (flags / 65536 ≡ 0) ⊎ (k ≡ Dwarf) → (flags_of k ≡ flags) ⊎ (k ≡ Dwarf)
    by (inl z) = inl (let e = r.low in omega arith)
    by (inr d) = inr d

-- a section is the loader's by its kind exactly where its header has the loader's flags
pub loader-flags : (flags : ℕ) (k : SectionKind) → kind_of flags ≡ Some k → eqb (flags_of k) (flags_of Loader) ≡ eqb flags (flags_of Loader)
loader-flags flags k e = by (ℕ_discrete flags 0xFFFFFFFF)
  where
    listed : (r : Names flags k) → (flags_of k ≡ flags) ⊎ (k ≡ Dwarf) → eqb (flags_of k) (flags_of Loader) ≡ eqb flags (flags_of Loader)
    listed r (inl q) = rw q refl
    listed r (inr d) =
        let low : 16 ≡ flags % 65536 = rw d at r.low in
        let other : flags ≡ flags_of Loader → ⊥ = λ q. (let m : 16 ≡ 4096 % 65536 = rw q at low in absurd (omega arith)) in
        rw (d, ne_eqb flags (flags_of Loader) other) refl

    deleted : flags ≡ 0xFFFFFFFF → Deleted ≡ k
    deleted q = unfold kind_of in let a : Some Deleted ≡ Some k = rw (eq-eqb flags 0xFFFFFFFF q) at e in cc

    by : Dec (flags ≡ 0xFFFFFFFF) → eqb (flags_of k) (flags_of Loader) ≡ eqb flags (flags_of Loader)
    by (yes q) = let d = deleted q in rw (← d, q) refl
    by (no n) = let r = allowed-listed flags k n e in listed r (flags-or-dwarf flags k r)
