-- "The length and every other byte stay." Assumes nothing.
use mathlib.Core.Path.{◌≡◌, refl, ◌∙◌, subst}
use mathlib.Core.Bool.{true}
use mathlib.Core.List.{List}
use Prim.Native.Nat.{ℕ, zero, suc, ◌+◌, ◌<◌}
use native.Mathlib.Omega.{arith}
use lib.ListN.{length, get_or, take}
use Rattle.word.specs.declared.Field.{Field}
use Rattle.format.specs.Layout.{header_layout, section_layout, aux_layout, symbol_layout, relocation_layout}
use Rattle.format.specs.Range.{range}
use Rattle.file_header.specs.Header.{section_start}
use Rattle.header.specs.declared.Summary.{Summary}
use Rattle.parts.specs.Sections.{flag_at}
use Rattle.loader_symbol.specs.Symbol as symbol
use Rattle.relocation.specs.Relocation as relocation
use Rattle.loadable.specs.declared.Loadable.{Loadable}
use Rattle.history.specs.declared.Followed.{Followed}
use Rattle.history.specs.declared.Followed.TheVariants as followed
use Rattle.history.specs.Images.{Images}
use Rattle.written.specs.Written.{put_header, anchor_follows}
use Rattle.plan.specs.Relocatable.{followed_at}
use Rattle.shared_range.specs.Shared.{Holds}
use Rattle.frame.specs.Change.{each_from}
use Rattle.written.specs.Written.{put_address, moves, flag_follows, entry_follows, put_section, put_aux, put_symbol, put_entry, put_text, put_data, written_by}
use Rattle.written.specs.Changed.{field_range, Changed}
use Rattle.written.specs.Changed.Changed.{raw_text, raw_data, text_start, data_start, entry, toc, paddr, vaddr, value, address}
use Rattle.frame.proofs.Change.{stored-local}
use Rattle.rewritten.proofs.Fields.{address-local}

-- a byte that no change of an entry changes
each-kept : (put : ℕ → List ℕ → List ℕ) (x k n : ℕ) (bs : List ℕ) → ((i : ℕ) → i < k + n → (bs : List ℕ) → get_or (put i bs) x 0 ≡ get_or bs x 0) → get_or (each_from put k n bs) x 0 ≡ get_or bs x 0
unfolding each_from
each-kept put x k zero bs h = refl
each-kept put x k (suc n) bs h = each-kept put x (suc k) n (put k bs) (λ i b. h i (omega arith)) ∙ h k (omega arith) bs

-- a byte outside an address that moves, and every byte where it does not
address_kept : (new : Followed → ℕ → ℕ) (file : List ℕ) (f : Followed) (a : Field) (base k : ℕ) (bs : List ℕ) → (moves f ≡ true → Holds (field_range a base) k → ⊥) → get_or (put_address new file f a base bs) k 0 ≡ get_or bs k 0
address_kept new file followed.Text a base k bs h = (address-local new file followed.Text a base).outside bs k (h refl)
address_kept new file followed.Data a base k bs h = (address-local new file followed.Data a base).outside bs k (h refl)
address_kept new file (followed.Import j v) a base k bs h = (address-local new file (followed.Import j v) a base).outside bs k (h refl)
address_kept new file followed.Nothing a base k bs h = unfold put_address in refl

module _ (new : Followed → ℕ → ℕ) (x : Images) (file : List ℕ) (y : Summary) (l : Loadable)
    (xt : length x.text ≡ l.layout.parts.text.size) (xd : length (take l.layout.parts.«data».size x.dat) ≡ l.layout.parts.«data».size)
    (k : ℕ) (none : Changed file y l k → ⊥) where
  text-kept : (bs : List ℕ) → get_or (put_text x l.layout bs) k 0 ≡ get_or bs k 0
  unfolding put_text
  text-kept bs =
      (stored-local l.layout.parts.text.start.0 x.text).outside bs k (λ h. none (raw_text (subst (λ (n : ℕ). Holds (range l.layout.parts.text.start.0 n) k) xt h)))

  data-kept : (bs : List ℕ) → get_or (put_data x l.layout bs) k 0 ≡ get_or bs k 0
  unfolding put_data
  data-kept bs =
      let v = take l.layout.parts.«data».size x.dat in
      (stored-local l.layout.parts.«data».start.0 v).outside bs k (λ h. none (raw_data (subst (λ (n : ℕ). Holds (range l.layout.parts.«data».start.0 n) k) xd h)))

  aux-kept : (bs : List ℕ) → get_or (put_aux new file l.layout bs) k 0 ≡ get_or bs k 0
  unfolding put_aux
  aux-kept bs =
      let a = aux_layout l.layout.format in
      let base = (header_layout l.layout.format).length in
      let fe = anchor_follows l.layout.parts l.layout.entry in
      let ft = anchor_follows l.layout.parts l.layout.toc in
      let b3 = put_address new file ft a.toc base bs in
      let b2 = put_address new file fe a.entry base b3 in
      let b1 = put_address new file followed.Data a.dstart base b2 in
      address_kept new file followed.Text a.tstart base k b1 (λ _ h. none (text_start h))
      ∙ address_kept new file followed.Data a.dstart base k b2 (λ _ h. none (data_start h))
      ∙ address_kept new file fe a.entry base k b3 (λ m h. none (entry m h))
      ∙ address_kept new file ft a.toc base k bs (λ m h. none (toc m h))

  section-kept : (i : ℕ) → i < y.count → (bs : List ℕ) → get_or (put_section new file y i bs) k 0 ≡ get_or bs k 0
  unfolding put_section put_header
  section-kept i b bs =
      let f = flag_follows (flag_at y.sections i) in
      let base = section_start y.format y.opthdr i in
      address_kept new file f (section_layout y.format).vaddr base k (put_address new file f (section_layout y.format).paddr base bs) (λ m h. none (vaddr i b m h))
      ∙ address_kept new file f (section_layout y.format).paddr base k bs (λ m h. none (paddr i b m h))

  symbol-kept : (j : ℕ) → j < l.tables.nsyms → (bs : List ℕ) → get_or (put_symbol new file l j bs) k 0 ≡ get_or bs k 0
  unfolding put_symbol
  symbol-kept j b bs = address_kept new file (followed_at file l j) (symbol_layout l.layout.format).value (symbol.entry_start l.tables j) k bs (λ m h. none (value j b m h))

  entry_kept : (i : ℕ) → i < l.tables.nreloc → (bs : List ℕ) → get_or (put_entry new file l i bs) k 0 ≡ get_or bs k 0
  unfolding put_entry
  entry_kept i b bs =
      let F = l.layout.format in
      address_kept new file (entry_follows l.layout.parts (relocation.entry_in file F l.tables i)) (relocation_layout F).address (relocation.entry_start F l.tables i) k bs (λ _ h. none (address i b h))

  -- a byte that is in none of these stays
  pub byte-kept : get_or (written_by new x file y l file) k 0 ≡ get_or file k 0
  unfolding written_by
  byte-kept =
      each-kept (put_entry new file l) k 0 l.tables.nreloc _ (λ i b. entry_kept i (omega arith))
      ∙ each-kept (put_symbol new file l) k 0 l.tables.nsyms _ (λ j b. symbol-kept j (omega arith))
      ∙ each-kept (put_section new file y) k 0 y.count _ (λ i b. section-kept i (omega arith))
      ∙ aux-kept _ ∙ data-kept _ ∙ text-kept file
