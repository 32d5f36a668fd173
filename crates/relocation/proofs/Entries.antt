-- Laws of one relocation entry. Assumes nothing.
use Prim.Native.Nat.{ℕ, suc, ◌+◌, ◌-◌, ◌*◌, ◌%◌, ◌≤◌, ◌<◌}
use mathlib.Core.Path.{◌≡◌}
use mathlib.Core.Bool.{true, false, not, ◌&&◌}
use mathlib.Core.List.{List}
use native.Mathlib.Decide.{ℕ_discrete, dec_le}
use native.Mathlib.Nat.{mul-le-mul_right, suc-mul}
use native.Mathlib.Omega.{arith}
use lib.Dec.{eqb, ltb, leb}
use borrow.Author.Tests.{lt-leb, le-leb, leb-true, eq-eqb, ne_eqb, not-false}
use Rattle.word.specs.Test.{past}
use Rattle.word.proofs.Test.{past-yes, past-no, and_first, and_second}
use Rattle.format.specs.declared.Format.{Format}
use Rattle.format.specs.declared.Format.TheVariants.{Xcoff32, Xcoff64}
use Rattle.format.specs.declared.RelocationLayout.{RelocationLayout}
use Rattle.format.specs.Layout.{relocation_layout}
use Rattle.format.proofs.Layouts.{FieldInside}
use Rattle.refusal.specs.Order.{refuse_if}
use Rattle.refusal.proofs.Order.{accepted-rest, accepted-test}
use Rattle.parts.specs.declared.Part.{Part}
use Rattle.parts.specs.declared.Parts.{Parts}
use Rattle.loader_header.specs.declared.LoaderTables.{LoaderTables}
use Rattle.relocation.specs.declared.RelocationEntry.{RelocationEntry}
use Rattle.relocation.specs.Relocation.{is_thread, is_type, is_width, width_bits, bytes_wide, is_wide, is_inside, is_held, is_good, own_check, place_of, entry_in, own_at, PlaceInside}
use Rattle.std.specs.Prelude.{Ok}

-- the fields of an entry at base, in a file of n bytes
entry-fields : (f : Format) (base n : ℕ) → base + (relocation_layout f).length ≤ n → FieldInside (relocation_layout f).address base n × FieldInside (relocation_layout f).symbol base n
entry-fields Xcoff32 base n h = (omega arith, omega arith)
entry-fields Xcoff64 base n h = (omega arith, omega arith)

pub entry-inside : (f : Format) {l : RelocationLayout} (base n : ℕ) → l ≡ relocation_layout f → base + (relocation_layout f).length ≤ n → FieldInside l.address base n × FieldInside l.symbol base n
entry-inside f base n e h = rw e (entry-fields f base n h)

pub entry-long : (f : Format) → 12 ≤ (relocation_layout f).length
entry-long Xcoff32 = omega arith
entry-long Xcoff64 = omega arith

-- entry i of a table that is in the file is in the file
pub entry_whole : (start e i count n : ℕ) → i < count → start + count * e ≤ n → start + i * e + e ≤ n
entry_whole start e i count n h k =
    let m : suc i * e ≤ count * e = mul-le-mul_right e h in
    omega (arith, m, suc-mul i e)

-- a field below its section is not inside; any other is by its offset
pub inside-below : (p : Part) (e : RelocationEntry) → e.address.0 < p.address.0 → false ≡ is_inside p e
unfolding is_inside
inside-below p e h = rw (lt-leb p.address.0 e.address.0 h)

pub inside-by : (p : Part) (e : RelocationEntry) {w : ℕ} → p.address.0 ≤ e.address.0 → w ≡ bytes_wide (is_wide e.rtype) → not (past (e.address.0 - p.address.0) w p.size) ≡ is_inside p e
unfolding is_inside
inside-by p e {w} h q = rw (← q) (by_place (dec_le (e.address.0 - p.address.0 + w) p.size))
  where
    by_place : Dec (e.address.0 - p.address.0 + w ≤ p.size) → not (past (e.address.0 - p.address.0) w p.size) ≡ (leb p.address.0 e.address.0 && leb (e.address.0 + w) (p.address.0 + p.size))
    by_place (yes l) = rw (past-no (e.address.0 - p.address.0) w p.size l, le-leb p.address.0 e.address.0 h, le-leb (e.address.0 + w) (p.address.0 + p.size) (omega arith))
    by_place (no l) = rw (past-yes (e.address.0 - p.address.0) w p.size (omega arith), le-leb p.address.0 e.address.0 h, lt-leb (e.address.0 + w) (p.address.0 + p.size) (omega arith))

-- a field inside its section starts at or after it and ends in it
pub inside-known : (p : Part) (e : RelocationEntry) → is_inside p e ≡ true → (p.address.0 ≤ e.address.0) × (e.address.0 - p.address.0 + bytes_wide (is_wide e.rtype) ≤ p.size)
unfolding is_inside
inside-known p e h =
    let a = leb p.address.0 e.address.0 in
    let b = leb (e.address.0 + bytes_wide (is_wide e.rtype)) (p.address.0 + p.size) in
    let low = leb-true p.address.0 e.address.0 (and_first a b h) in
    let high = leb-true (e.address.0 + bytes_wide (is_wide e.rtype)) (p.address.0 + p.size) (and_second a b h) in
    (low, omega arith)

-- an entry that is good by itself is held
own-good : (f : Format) (p : Parts) (nsyms i : ℕ) (e : RelocationEntry) → own_check f p nsyms i e ≡ Ok tt → is_good f p nsyms e ≡ true
unfolding own_check
own-good f p nsyms i e q = not-false (is_good f p nsyms e) (accepted-test (not (is_good f p nsyms e)) _ (accepted-rest (refuse_if (is_thread e) _) _ q))

good-held : (f : Format) (p : Parts) (nsyms : ℕ) (e : RelocationEntry) → is_good f p nsyms e ≡ true → is_held p e ≡ true
unfolding is_good
good-held f p nsyms e q =
    let a = is_type (e.rtype % 256) in
    let b = is_width f (width_bits e.rtype) in
    let c = is_held p e in
    let d = ltb e.symbol (3 + nsyms) in
    and_second (a && b) c (and_first (a && b && c) d q)

pub own_held : (f : Format) (p : Parts) (nsyms i : ℕ) (e : RelocationEntry) → own_check f p nsyms i e ≡ Ok tt → is_held p e ≡ true
own_held f p nsyms i e q = good-held f p nsyms e (own-good f p nsyms i e q)

-- so its symbol is known
pub own-symbol : (f : Format) (p : Parts) (nsyms i : ℕ) (e : RelocationEntry) → own_check f p nsyms i e ≡ Ok tt → ltb e.symbol (3 + nsyms) ≡ true
own-symbol f p nsyms i e q = last (own-good f p nsyms i e q)
  where
    last : is_good f p nsyms e ≡ true → ltb e.symbol (3 + nsyms) ≡ true
    last g = unfold is_good in and_second (is_type (e.rtype % 256) && is_width f (width_bits e.rtype) && is_held p e) _ g

-- entry i in the file is held where it is good by itself
pub held_at : (file : List ℕ) (f : Format) (p : Parts) (t : LoaderTables) (i : ℕ) {e : RelocationEntry} → own_at file f p t i ≡ Ok tt
    → e ≡ entry_in file f t i → is_held p e ≡ true
unfolding own_at
held_at file f p t i q h = rw h (own_held f p t.nsyms i (entry_in file f t i) q)

-- a held field is inside text, or inside data
pub held-text : (p : Parts) (e : RelocationEntry) → is_held p e ≡ true → e.scnum ≡ p.text.number.0 → is_inside p.text e ≡ true
unfolding is_held
held-text p e h q = rw (eq-eqb e.scnum p.text.number.0 q) at h

pub held-data : (p : Parts) (e : RelocationEntry) → is_held p e ≡ true → (e.scnum ≡ p.text.number.0 → ⊥) → is_inside p.«data» e ≡ true
unfolding is_held
held-data p e h n = and_second (eqb e.scnum p.«data».number.0) _ (rw (ne_eqb e.scnum p.text.number.0 n) at h)

-- so it starts where that section does, or after
pub above-text : (p : Parts) (e : RelocationEntry) → is_held p e ≡ true → e.scnum ≡ p.text.number.0 → p.text.address.0 ≤ e.address.0
above-text p e h q = (inside-known p.text e (held-text p e h q)).0

pub above-data : (p : Parts) (e : RelocationEntry) → is_held p e ≡ true → (e.scnum ≡ p.text.number.0 → ⊥) → p.«data».address.0 ≤ e.address.0
above-data p e h n = (inside-known p.«data» e (held-data p e h n)).0

-- the field of such an entry is inside its section
place_in : (p : Parts) (e : RelocationEntry) → is_held p e ≡ true → Dec (e.scnum ≡ p.text.number.0) → PlaceInside p (place_of p e)
unfolding place_of
place_in p e h (yes q) = record { inside = rw (eq-eqb e.scnum p.text.number.0 q) (inside-known p.text e (held-text p e h q)).1 }
place_in p e h (no n) = record { inside = rw (ne_eqb e.scnum p.text.number.0 n) (inside-known p.«data» e (held-data p e h n)).1 }

pub place_inside : (f : Format) (p : Parts) (nsyms i : ℕ) (e : RelocationEntry) → own_check f p nsyms i e ≡ Ok tt → PlaceInside p (place_of p e)
place_inside f p nsyms i e q = place_in p e (own_held f p nsyms i e q) (ℕ_discrete e.scnum p.text.number.0)
