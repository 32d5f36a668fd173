-- The two images of a module, and relocation entries applied to them.
use Rattle.std.specs.Prelude.{Bool, true, false, List, ℕ, ◌+◌, ◌≤◌, ◌<◌, length, ℤ, neg_ℤ, ◌≡◌}
pub use Rattle.book.specs.Machine.{Shifts}
pub use Rattle.book.specs.Entries.{All, Any}
use Rattle.book.specs.Entries as entries
use Rattle.update.specs.Update.{add_field}
use Rattle.relocation.specs.declared.FieldPlace.{FieldPlace}
use Rattle.relocation.specs.Relocation.{bytes_wide}
use Rattle.field_overlap.specs.Overlap.{Compatible}
use Rattle.history.specs.declared.Relocation.{Relocation}

-- what the two buffers hold: the text image and the data image
pub record Images : Type 0 where
  pub text : List ℕ
  pub dat : List ℕ

abbrev pub images : List ℕ → List ℕ → Images
images t d = record { text = t; dat = d }

-- the lengths of both
abbrev pub lengths : Images → ℕ × ℕ
lengths x = (length x.text, length x.dat)

abbrev pub signed : Bool → ℤ → ℤ
signed true z = neg_ℤ z
signed false z = z

-- z added to the field of w bytes from off, in the text or in the data image
unfoldable pub add_at : Bool → ℕ → ℕ → ℤ → Images → Images
add_at true w off z x = images (add_field w off z x.text) x.dat
add_at false w off z x = images x.text (add_field w off z x.dat)

-- a module's entries: their fields, and their symbols' shifts
abbrev pub fields : entries.Fields Images FieldPlace Relocation
fields =
    record {
      add = λ p z x. add_at p.text (bytes_wide p.wide) p.offset z x;
      place = λ e. e.place;
      amount = λ e s. signed e.minus (s e.symbol);
    }

-- an entry applied by its symbol's shift
unfoldable pub apply_entry : Relocation → Shifts → Images → Images
apply_entry e s x = entries.apply_entry fields e s x

-- each entry applied in order
unfoldable pub apply_all : List Relocation → Shifts → Images → Images
unfolding entries.apply_all apply_entry
apply_all es s x = entries.apply_all fields es s x

-- ---- what holds of the entries of an accepted module

-- the text image (true) or the data image
abbrev pub image_of : Bool → Images → List ℕ
image_of true x = x.text
image_of false x = x.dat

abbrev pub length_of : Bool → Images → ℕ
length_of t x = length (image_of t x)

abbrev pub Inside : Images → Relocation → Type 0
Inside x e = e.place.offset + bytes_wide e.place.wide ≤ length_of e.place.text x

-- two fields of one image are the same or share no byte
abbrev pub Pairwise : List Relocation → Type 0
Pairwise es = entries.Pairwise (λ e f. Compatible e.place f.place) es

-- byte k of the text image (t true) or the data image is in the field at a place
abbrev pub InPlace : Bool → ℕ → FieldPlace → Type 0
InPlace t k p = (p.text ≡ t) × (p.offset ≤ k) × (k < p.offset + bytes_wide p.wide)

-- and in an entry's field
abbrev pub InField : Bool → ℕ → Relocation → Type 0
InField t k e = InPlace t k e.place
