-- Relocation entries applied, one and all. Assumes nothing.
use Rattle.std.proofs.Common.{◌≡◌, ℕ, ◌+◌, ◌-◌, ◌^◌, ◌<◌, ◌≤◌, Bool, true, false, cond, List, ℤ, pos, refl, ap, ◌∙◌, arith, lit<}
use native.Mathlib.Nat.{dvd-mul_left}
use Rattle.update.specs.Update.{remainder, add_field}
use Rattle.update.proofs.Remainder.{remainder-neg}
use Rattle.update.proofs.Laws.{add_cong}
use Rattle.relocation.specs.Relocation.{bytes_wide}
use Rattle.loadable.specs.declared.Loadable.{Loadable}
use Rattle.loadable.specs.Valid.{Valid}
use Rattle.history.specs.declared.Relocation.{Relocation}
use Rattle.history.specs.Images.{Images, images, Shifts, signed, add_at, apply_entry, apply_all}
use Rattle.plan.specs.Relocatable.{relocation_at, relocations_from}
use Rattle.plan.proofs.Symbols.{entries-start, entries-turn, entries-end}
use Rattle.apply.proofs.Stands.{narrowed, stands}

-- ---- integers with one remainder modulo 2^64

-- they have one remainder modulo a field's width
field-narrowed : (wide : Bool) (a b : ℤ) → remainder a (2 ^ 64) ≡ remainder b (2 ^ 64) → remainder a (256 ^ bytes_wide wide) ≡ remainder b (256 ^ bytes_wide wide)
field-narrowed true a b h = h
field-narrowed false a b h = narrowed 4294967296 (lit< tt) (dvd-mul_left 4294967296 4294967296) a b h

-- and subtracted too
signed-alike : (minus : Bool) (a b : ℤ) → remainder a (2 ^ 64) ≡ remainder b (2 ^ 64) → remainder (signed minus a) (2 ^ 64) ≡ remainder (signed minus b) (2 ^ 64)
signed-alike true a b h = remainder-neg (2 ^ 64) (lit< tt) a b h
signed-alike false a b h = h

-- so they have one effect on a field
pub field_alike : (wide minus : Bool) (off : ℕ) (a b : ℤ) (bs : List ℕ) → remainder a (2 ^ 64) ≡ remainder b (2 ^ 64)
    → add_field (bytes_wide wide) off (signed minus a) bs ≡ add_field (bytes_wide wide) off (signed minus b) bs
field_alike wide minus off a b bs h =
    add_cong (bytes_wide wide) off (signed minus a) (signed minus b) bs (field-narrowed wide (signed minus a) (signed minus b) (signed-alike minus a b h))

-- ---- one entry

-- a field added to by what a test says of its sign
pub sign-added : {minus : Bool} (n : Bool) (w off z : ℕ) (bs cs : List ℕ) → minus ≡ n
    → cs ≡ add_field w off (signed n (pos z)) bs → cs ≡ add_field w off (signed minus (pos z)) bs
sign-added n w off z bs cs p h = rw p h

-- and of its width
pub width-added : {wide : Bool} (w : Bool) (off : ℕ) (z : ℤ) (bs cs : List ℕ) → wide ≡ w
    → cs ≡ add_field (bytes_wide w) off z bs → cs ≡ add_field (bytes_wide wide) off z bs
width-added w off z bs cs p h = rw p h

module _ (file : List ℕ) (l : Loadable) (i : ℕ) (e : Relocation) where
  -- an entry's symbol is text, data, bss or in the table
  pub symbol-known : Valid file l → i < l.tables.nreloc → e ≡ relocation_at file l i → e.symbol < 3 + l.tables.nsyms
  unfolding relocation_at
  symbol-known v h r = rw r (v.known i h)

  -- its field is inside its section
  pub field-inside : Valid file l → i < l.tables.nreloc → e ≡ relocation_at file l i
      → e.place.offset + bytes_wide e.place.wide ≤ cond e.place.text l.layout.parts.text.size l.layout.parts.«data».size
  unfolding relocation_at
  field-inside v h r = rw r (v.inside i h).inside

  -- a field of text is inside the text image
  pub text-inside : {n : ℕ} → Valid file l → i < l.tables.nreloc → e ≡ relocation_at file l i → e.place.text ≡ true → n ≡ l.layout.parts.text.size
      → e.place.offset + bytes_wide e.place.wide ≤ n
  text-inside v h r t s = rw s (rw t at (field-inside v h r))

  -- a field of data is inside the data image
  pub data-inside : {n : ℕ} → Valid file l → i < l.tables.nreloc → e ≡ relocation_at file l i → e.place.text ≡ false → n ≡ l.layout.image
      → e.place.offset + bytes_wide e.place.wide ≤ n
  data-inside v h r t s =
      let b : e.place.offset + bytes_wide e.place.wide ≤ l.layout.parts.«data».size = rw t at (field-inside v h r) in
      omega (arith, v.sections.holds)

  -- z is the number by which the entry's field is changed
  module _ (s : Shifts) (z : ℕ) (t d bs : List ℕ) where
    -- a field of text changed by its symbol's shift modulo 2^64 is the entry applied
    pub text-applied : e ≡ relocation_at file l i → e.place.text ≡ true → z ≡ remainder (s e.symbol) (2 ^ 64)
        → bs ≡ add_field (bytes_wide e.place.wide) e.place.offset (signed e.minus (pos z)) t
        → images bs d ≡ apply_entry (relocation_at file l i) s (images t d)
    unfolding apply_entry add_at
    text-applied r p h b =
        rw (← r, p)
        (ap (λ (x : List ℕ). images x d) (b ∙ field_alike e.place.wide e.minus e.place.offset (pos z) (s e.symbol) t (stands z (s e.symbol) h)))

    -- so is a field of data
    pub data-applied : e ≡ relocation_at file l i → e.place.text ≡ false → z ≡ remainder (s e.symbol) (2 ^ 64)
        → bs ≡ add_field (bytes_wide e.place.wide) e.place.offset (signed e.minus (pos z)) d
        → images t bs ≡ apply_entry (relocation_at file l i) s (images t d)
    unfolding apply_entry add_at
    data-applied r p h b =
        rw (← r, p)
        (ap (λ (x : List ℕ). images t x) (b ∙ field_alike e.place.wide e.minus e.place.offset (pos z) (s e.symbol) d (stands z (s e.symbol) h)))

-- ---- a loop over the entries, by the work that is left

module _ (file : List ℕ) (l : Loadable) (s : Shifts) (n : ℕ) where
  -- at its start all entries are left
  pub all_start : (x : Images) → apply_all (relocations_from file l 0 (n - 0)) s x ≡ apply_all (relocations_from file l 0 n) s x
  all_start x = rw (← entries-start file l n) refl

  -- a turn applies entry i
  pub all-turn : (i : ℕ) (x y : Images) → i < n → y ≡ apply_entry (relocation_at file l i) s x
      → apply_all (relocations_from file l (i + 1) (n - (i + 1))) s y ≡ apply_all (relocations_from file l i (n - i)) s x
  unfolding apply_all
  all-turn i x y h e = rw (e, entries-turn file l n i h) refl

  -- at its end none is left
  pub all_end : (i : ℕ) (x : Images) → n ≤ i → apply_all (relocations_from file l i (n - i)) s x ≡ x
  unfolding apply_all
  all_end i x h = rw (entries-end file l n i h) refl
