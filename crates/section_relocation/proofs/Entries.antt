-- Laws of one entry of a section's own relocation table. Assumes nothing.
use Prim.Native.Nat.{ℕ, ◌+◌, ◌-◌, ◌≤◌, ◌<◌}
use mathlib.Core.Path.{◌≡◌, refl, sym, ◌∙◌}
use mathlib.Core.Bool.{Bool, true, false, not, cond, ◌&&◌}
use mathlib.Core.List.{List}
use native.Mathlib.Decide.{dec_le}
use native.Mathlib.Omega.{arith}
use lib.Dec.{leb}
use borrow.Author.Tests.{lt-leb, le-leb, leb-true, ne_eqb}
use Rattle.word.specs.Test.{past}
use Rattle.word.proofs.Test.{past-yes, past-no, and_first, and_second}
use Rattle.format.specs.declared.Format.{Format}
use Rattle.format.specs.declared.Format.TheVariants.{Xcoff32, Xcoff64}
use Rattle.format.proofs.Layouts.{FieldInside}
use Rattle.table_kind.specs.declared.TableKind.TheVariants.{Relocations}
use Rattle.table_kind.specs.Kind.{entry_length}
use Rattle.field_kind.specs.declared.FieldKind.{FieldKind}
use Rattle.field_kind.specs.declared.FieldKind.TheVariants as kind
use Rattle.field_kind.specs.declared.ObjectField.{ObjectField}
use Rattle.field_kind.specs.Field.{bytes_in, place}
use Rattle.object_history.specs.declared.AmountKind.{AmountKind}
use Rattle.section_relocation.specs.declared.ObjectSection.{ObjectSection}
use Rattle.section_relocation.specs.declared.EntryLayout.{EntryLayout}
use Rattle.section_relocation.specs.declared.SectionEntry.{SectionEntry}
use Rattle.section_relocation.specs.declared.Effect.{Effect}
use Rattle.section_relocation.specs.Entry.{entry_layout, entry_in, known, plain_effect, effect_of, effect_or, has_bytes, is_inside, is_held_by, is_held, field_by, field_of, field_in}
use Rattle.std.specs.Prelude.{None, Option, Some}

-- ---- reading

-- the fields of an entry at base, in a file of n bytes
pub record EntryInside (l : EntryLayout) (base n : ℕ) : Type 0 where
  pub address : FieldInside l.address base n
  pub symbol : FieldInside l.symbol base n
  pub rsize : FieldInside l.rsize base n
  pub rtype : FieldInside l.rtype base n

entry-fields : (f : Format) (base n : ℕ) → base + entry_length Relocations f ≤ n → EntryInside (entry_layout f) base n
entry-fields Xcoff32 base n h = record { address = omega arith; symbol = omega arith; rsize = omega arith; rtype = omega arith }
entry-fields Xcoff64 base n h = record { address = omega arith; symbol = omega arith; rsize = omega arith; rtype = omega arith }

pub entry-inside : (f : Format) {l : EntryLayout} (base n : ℕ) → l ≡ entry_layout f → base + entry_length Relocations f ≤ n → EntryInside l base n
entry-inside f base n e h = rw e (entry-fields f base n h)

-- ---- widths

pub plain-four : (f : Format) (bits : ℕ) (a : AmountKind) → bits ≡ 32 → known kind.Four a ≡ plain_effect f bits a
unfolding plain_effect
plain-four Xcoff32 bits a e = rw e refl
plain-four Xcoff64 bits a e = rw e refl

pub plain-none : (f : Format) (bits : ℕ) (a : AmountKind) → (bits ≡ 32 → ⊥) → (bits ≡ 64 → ⊥) → None ≡ plain_effect f bits a
unfolding plain_effect
plain-none Xcoff32 bits a n m = rw (ne_eqb bits 32 n) refl
plain-none Xcoff64 bits a n m = rw (ne_eqb bits 32 n, ne_eqb bits 64 m) refl

pub plain-narrow : (f : Format) (bits : ℕ) (a : AmountKind) → f ≡ Xcoff32 → (bits ≡ 32 → ⊥) → None ≡ plain_effect f bits a
unfolding plain_effect
plain-narrow f bits a e n = rw e (rw (ne_eqb bits 32 n) refl)

pub plain-eight : (f : Format) (bits : ℕ) (a : AmountKind) → f ≡ Xcoff64 → bits ≡ 64 → known kind.Eight a ≡ plain_effect f bits a
unfolding plain_effect
plain-eight f bits a e n = rw (e, n) refl

-- ---- a field inside its section

pub inside-below : (s : ObjectSection) (at : ℕ) (k : FieldKind) → at < s.address.0 → false ≡ is_inside s at k
unfolding is_inside
inside-below s at k h = rw (lt-leb s.address.0 at h) refl

pub inside-by : (s : ObjectSection) (at : ℕ) (k : FieldKind) {w : ℕ} → s.address.0 ≤ at → w ≡ bytes_in k → not (past (at - s.address.0) w s.size) ≡ is_inside s at k
unfolding is_inside
inside-by s at k {w} h q = rw (← q) (by_place (dec_le (at - s.address.0 + w) s.size))
  where
    by_place : Dec (at - s.address.0 + w ≤ s.size) → not (past (at - s.address.0) w s.size) ≡ (leb s.address.0 at && leb (at + w) (s.address.0 + s.size))
    by_place (yes l) = rw (past-no (at - s.address.0) w s.size l, le-leb s.address.0 at h, le-leb (at + w) (s.address.0 + s.size) (omega arith)) refl
    by_place (no l) = rw (past-yes (at - s.address.0) w s.size (omega arith), le-leb s.address.0 at h, lt-leb (at + w) (s.address.0 + s.size) (omega arith)) refl

inside-known : (s : ObjectSection) (at : ℕ) (k : FieldKind) → is_inside s at k ≡ true → (s.address.0 ≤ at) × (at - s.address.0 + bytes_in k ≤ s.size)
unfolding is_inside
inside-known s at k h =
    let low = leb-true s.address.0 at (and_first _ _ h) in
    let high = leb-true (at + bytes_in k) (s.address.0 + s.size) (and_second (leb s.address.0 at) _ h) in
    (low, omega arith)

-- ---- what is held

pub held-unknown : (f : Format) (s : ObjectSection) (e : SectionEntry) {a : Option Effect} → a ≡ effect_of f e → a ≡ None → false ≡ is_held f s e
unfolding is_held
held-unknown f s e p q = rw (← p) (rw q refl)

pub held-known : (f : Format) (s : ObjectSection) (e : SectionEntry) {a : Option Effect} (x : Effect) → a ≡ effect_of f e → a ≡ Some x
    → cond (has_bytes x.kind) (is_inside s e.address.0 x.kind) true ≡ is_held f s e
unfolding is_held
held-known f s e x p q = rw (← p) (rw q refl)

pub bytes_inside : (k : FieldKind) {i b r : Bool} → b ≡ has_bytes k → b ≡ true → r ≡ i → r ≡ cond (has_bytes k) i true
bytes_inside k p q h = rw (← p) (rw q h)

pub bytes-none : (k : FieldKind) (i : Bool) {b : Bool} → b ≡ has_bytes k → b ≡ false → true ≡ cond (has_bytes k) i true
bytes-none k i p q = rw (← p) (rw q refl)

-- the field of a held entry that has bytes is inside its section
pub record FieldHeld (s : ObjectSection) (at : ℕ) (k : FieldKind) : Type 0 where
  pub low : s.address.0 ≤ at
  pub high : at - s.address.0 + bytes_in k ≤ s.size

held_by : (s : ObjectSection) (at : ℕ) (a : Option Effect) → is_held_by s at a ≡ true → has_bytes (effect_or a).kind ≡ true → FieldHeld s at (effect_or a).kind
held_by s at None h b = absurd (let z : ◌≡◌ {A = ℕ} 0 1 = cc in omega arith)
held_by s at (Some x) h b = let p = inside-known s at x.kind (rw b at h) in record { low = p.0; high = p.1 }

pub held-field : (f : Format) (s : ObjectSection) (e : SectionEntry) → is_held f s e ≡ true → {x : Effect} → x ≡ effect_or (effect_of f e) → {b : Bool} → b ≡ has_bytes x.kind → b ≡ true
    → FieldHeld s e.address.0 x.kind
unfolding is_held
held-field f s e h p q r = rw p (held_by s e.address.0 (effect_of f e) h (rw p at (sym q ∙ r)))

pub field-some : (f : Format) (s : ObjectSection) (e : SectionEntry) (x : Effect) {b : Bool} → x ≡ effect_or (effect_of f e) → b ≡ has_bytes x.kind → b ≡ true
    → place (s.place + (e.address.0 - s.address.0)) x.kind ≡ field_of f s e
unfolding field_of field_by
field-some f s e x p q r = rw (← p) (rw (← q) (rw r refl))

pub field-none : (f : Format) (s : ObjectSection) (e : SectionEntry) (x : Effect) {b : Bool} → x ≡ effect_or (effect_of f e) → b ≡ has_bytes x.kind → b ≡ false
    → place 0 x.kind ≡ field_of f s e
unfolding field_of field_by
field-none f s e x p q r = rw (← p) (rw (← q) (rw r refl))

-- ---- where the field of a held entry lies in the buffer: among its section's bytes, or nowhere

pub record FieldIn (s : ObjectSection) (g : ObjectField) : Type 0 where
  pub from : has_bytes g.kind ≡ true → s.place ≤ g.offset
  pub upto : g.offset + bytes_in g.kind ≤ s.place + s.size

no_bytes : (k : FieldKind) → has_bytes k ≡ false → bytes_in k ≡ 0
no_bytes kind.Nothing h = refl
no_bytes kind.Four h = absurd (let z : ◌≡◌ {A = ℕ} 0 1 = cc in omega arith)
no_bytes kind.Eight h = absurd (let z : ◌≡◌ {A = ℕ} 0 1 = cc in omega arith)
no_bytes kind.Branch h = absurd (let z : ◌≡◌ {A = ℕ} 0 1 = cc in omega arith)

pub field-held : (f : Format) (s : ObjectSection) (e : SectionEntry) → is_held f s e ≡ true → FieldIn s (field_of f s e)
unfolding field_of field_by
field-held f s e h = by (has_bytes (effect_or (effect_of f e)).kind) refl
  where
    k : FieldKind
    k = (effect_or (effect_of f e)).kind

    by : (b : Bool) → has_bytes k ≡ b → FieldIn s (place (cond (has_bytes k) (s.place + (e.address.0 - s.address.0)) 0) k)
    by true q =
        let w = held-field f s e h {x = effect_or (effect_of f e)} refl (sym q) refl in
        rw q (record { from = λ _. omega arith; upto = omega (arith, w.high) })
    by false q = record { from = λ r. absurd (let z : true ≡ false = sym r ∙ q in let o : ◌≡◌ {A = ℕ} 0 1 = cc in omega arith); upto = rw q (rw (no_bytes k q) (omega arith)) }

pub field-in-held : (file : List ℕ) (f : Format) (s : ObjectSection) (i : ℕ) → is_held f s (entry_in file f s i) ≡ true → FieldIn s (field_in file f s i)
unfolding field_in
field-in-held file f s i h = field-held f s (entry_in file f s i) h
