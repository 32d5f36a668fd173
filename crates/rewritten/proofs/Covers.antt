-- Changes that set the same bytes: the second of two is as if the first were not done. Assumes nothing.
use mathlib.Core.Path.{◌≡◌, refl, sym, ◌∙◌}
use mathlib.Core.Bool.{Bool, true, false, cond}
use mathlib.Core.Logic.{◌⊎◌, inl, inr}
use mathlib.Core.List.{List, [], ◌∷◌}
use Prim.Native.Nat.{ℕ, zero, suc, ◌+◌, ◌<◌}
use native.Mathlib.Decide.{ℕ_discrete, dec_lt}
use native.Mathlib.Omega.{arith}
use lib.ListN.{length, get_or, take, set, length-set}
use lib.Seq.{sets, ext_get_or, get_or-set_same, get_or-set_other, set_out}
use Rattle.update.specs.Update.{bytes_of_number, put_field}
use Rattle.update.proofs.Laws.{length-bytes}
use Rattle.word.specs.declared.Field.{Field}
use Rattle.word.specs.Number.{bytes_in, field_in}
use Rattle.format.specs.Layout.{header_layout, section_layout, aux_layout, symbol_layout, relocation_layout}
use Rattle.file_header.specs.Header.{section_start}
use Rattle.header.specs.declared.Summary.{Summary}
use Rattle.parts.specs.Sections.{flag_at}
use Rattle.module.specs.declared.Module.{Module}
use Rattle.loader_symbol.specs.Symbol as symbol
use Rattle.relocation.specs.Relocation as relocation
use Rattle.loadable.specs.declared.Loadable.{Loadable}
use Rattle.history.specs.declared.Followed.{Followed}
use Rattle.history.specs.declared.Followed.TheVariants as followed
use Rattle.history.specs.Images.{Images}
use Rattle.plan.specs.Relocatable.{followed_at}
use Rattle.frame.specs.Change.{put_in, each_from}
use Rattle.written.specs.Written.{flag_follows, anchor_follows, entry_follows, moves, put_address, put_header, put_section, put_aux, put_symbol, put_entry, put_text, put_data, written_by}

-- byte k of what f leaves does not depend on what it was given, or f and g both leave it
abbrev Settled : (List ℕ → List ℕ) → (List ℕ → List ℕ) → ℕ → ℕ → Type 0
Settled f g len k =
    ((xs ys : List ℕ) → length xs ≡ len → length ys ≡ len → get_or (f xs) k 0 ≡ get_or (f ys) k 0)
    ⊎ ((xs : List ℕ) → length xs ≡ len → (get_or (f xs) k 0 ≡ get_or xs k 0) × (get_or (g xs) k 0 ≡ get_or xs k 0))

-- f sets every byte that g sets, in files of len bytes
pub record Covers (len : ℕ) (f g : List ℕ → List ℕ) : Type 0 where
  pub first : (xs : List ℕ) → length xs ≡ len → length (f xs) ≡ len
  pub second : (xs : List ℕ) → length xs ≡ len → length (g xs) ≡ len
  pub each : (k : ℕ) → Settled f g len k

-- then g before f makes no difference
pub covers-again : (len : ℕ) (f g : List ℕ → List ℕ) → Covers len f g → (xs : List ℕ) → length xs ≡ len → f (g xs) ≡ f xs
covers-again len f g c xs l =
    ext_get_or 0 (f (g xs)) (f xs) (c.first (g xs) (c.second xs l) ∙ sym (c.first xs l)) (λ k _. by_place k (c.each k))
  where
    by_place : (k : ℕ) → Settled f g len k → get_or (f (g xs)) k 0 ≡ get_or (f xs) k 0
    by_place k (inl s) = s (g xs) xs (c.second xs l) l
    by_place k (inr s) = (s (g xs) (c.second xs l)).0 ∙ (s xs l).1 ∙ sym (s xs l).0

-- nothing done
pub covers-none : (len : ℕ) → Covers len (λ bs. bs) (λ bs. bs)
covers-none len = record { first = λ xs l. l; second = λ xs l. l; each = λ k. inr (λ xs l. (refl, refl)) }

-- one after the other
pub covers-then : (len : ℕ) (f g f' g' : List ℕ → List ℕ) → Covers len f g → Covers len f' g' → Covers len (λ bs. f (f' bs)) (λ bs. g (g' bs))
covers-then len f g f' g' c d =
    record {
      first = λ xs l. c.first (f' xs) (d.first xs l);
      second = λ xs l. c.second (g' xs) (d.second xs l);
      each = λ k. by_place k (c.each k) (d.each k);
    }
  where
    by_place : (k : ℕ) → Settled f g len k → Settled f' g' len k → Settled (λ bs. f (f' bs)) (λ bs. g (g' bs)) len k
    by_place k (inl s) t = inl (λ xs ys l m. s (f' xs) (f' ys) (d.first xs l) (d.first ys m))
    by_place k (inr s) (inl t) = inl (λ xs ys l m. (s (f' xs) (d.first xs l)).0 ∙ t xs ys l m ∙ sym (s (f' ys) (d.first ys m)).0)
    by_place k (inr s) (inr t) = inr (λ xs l. ((s (f' xs) (d.first xs l)).0 ∙ (t xs l).0, (s (g' xs) (d.second xs l)).1 ∙ (t xs l).1))

-- one byte stored
covers-set : (len i v w : ℕ) → Covers len (λ bs. set bs i v) (λ bs. set bs i w)
covers-set len i v w =
    record {
      first = λ xs l. length-set xs i v ∙ l;
      second = λ xs l. length-set xs i w ∙ l;
      each = λ k. by_place k (ℕ_discrete k i) (dec_lt i len);
    }
  where
    by_place : (k : ℕ) → Dec (k ≡ i) → Dec (i < len) → Settled (λ bs. set bs i v) (λ bs. set bs i w) len k
    by_place k (yes p) (yes b) = inl (λ xs ys l m. rw p (get_or-set_same xs i v 0 (omega arith) ∙ sym (get_or-set_same ys i v 0 (omega arith))))
    by_place k (yes p) (no b) = inr (λ xs l. (rw (set_out xs i v (omega arith)) refl, rw (set_out xs i w (omega arith)) refl))
    by_place k (no p) b = inr (λ xs l. (get_or-set_other xs i k v 0 p, get_or-set_other xs i k w 0 p))

-- bytes stored at one place
pub covers-stored : (len start : ℕ) (vs ws : List ℕ) → length vs ≡ length ws → Covers len (λ bs. sets bs start vs) (λ bs. sets bs start ws)
covers-stored len start [] [] e = covers-none len
covers-stored len start [] (w ∷ ws) e = absurd (omega arith)
covers-stored len start (v ∷ vs) [] e = absurd (omega arith)
covers-stored len start (v ∷ vs) (w ∷ ws) e =
    covers-then len (λ bs. sets bs (suc start) vs) (λ bs. sets bs (suc start) ws) (λ bs. set bs start v) (λ bs. set bs start w) (covers-stored len (suc start) vs ws (omega arith)) (covers-set len start v w)

-- a field put
pub covers-put : (len w off u v : ℕ) → Covers len (λ bs. put_field w off u bs) (λ bs. put_field w off v bs)
unfolding put_field
covers-put len w off u v = covers-stored len off (bytes_of_number w u) (bytes_of_number w v) (length-bytes w u ∙ sym (length-bytes w v))

-- each entry of a table
pub covers-each : (len : ℕ) (f g : ℕ → List ℕ → List ℕ) → ((i : ℕ) → Covers len (f i) (g i)) → (k n : ℕ) → Covers len (λ bs. each_from f k n bs) (λ bs. each_from g k n bs)
unfolding each_from
covers-each len f g c k zero = covers-none len
covers-each len f g c k (suc n) = covers-then len (λ bs. each_from f (suc k) n bs) (λ bs. each_from g (suc k) n bs) (f k) (g k) (covers-each len f g c (suc k) n) (c k)

-- ---- the written file's changes for two plans

module _ (len : ℕ) (new old : Followed → ℕ → ℕ) (file : List ℕ) where
  pub covers-address : (f : Followed) (a : Field) (base : ℕ) → Covers len (λ bs. put_address new file f a base bs) (λ bs. put_address old file f a base bs)
  unfolding put_address
  covers-address f a base = by-test (moves f)
    where
      by-test : (t : Bool) → Covers len (λ bs. cond t (put_in a base (new f (field_in a base file)) bs) bs) (λ bs. cond t (put_in a base (old f (field_in a base file)) bs) bs)
      by-test true = covers-put len (bytes_in a.width) (base + a.offset) (new f (field_in a base file)) (old f (field_in a base file))
      by-test false = covers-none len

  abbrev put : (Followed → ℕ → ℕ) → Followed → Field → ℕ → List ℕ → List ℕ
  put n f a base bs = put_address n file f a base bs

  pub covers-section : (y : Summary) (i : ℕ) → Covers len (λ bs. put_section new file y i bs) (λ bs. put_section old file y i bs)
  unfolding put_section put_header
  covers-section y i =
      let f = flag_follows (flag_at y.sections i) in
      let base = section_start y.format y.opthdr i in
      let L = section_layout y.format in
      covers-then len (put new f L.vaddr base) (put old f L.vaddr base) (put new f L.paddr base) (put old f L.paddr base) (covers-address f L.vaddr base) (covers-address f L.paddr base)

  pub covers-aux : (m : Module) → Covers len (λ bs. put_aux new file m bs) (λ bs. put_aux old file m bs)
  unfolding put_aux
  covers-aux m =
      let A = aux_layout m.format in
      let base = (header_layout m.format).length in
      let fe = anchor_follows m.parts m.entry in
      let ft = anchor_follows m.parts m.toc in
      covers-then len (put new followed.Text A.tstart base) (put old followed.Text A.tstart base) _ _ (covers-address followed.Text A.tstart base)
      (covers-then len (put new followed.Data A.dstart base) (put old followed.Data A.dstart base) _ _ (covers-address followed.Data A.dstart base)
      (covers-then len (put new fe A.entry base) (put old fe A.entry base) (put new ft A.toc base) (put old ft A.toc base) (covers-address fe A.entry base) (covers-address ft A.toc base)))

  pub covers-symbol : (l : Loadable) (k : ℕ) → Covers len (λ bs. put_symbol new file l k bs) (λ bs. put_symbol old file l k bs)
  unfolding put_symbol
  covers-symbol l k = covers-address (followed_at file l k) (symbol_layout l.layout.format).value (symbol.entry_start l.tables k)

  pub covers-entry : (l : Loadable) (i : ℕ) → Covers len (λ bs. put_entry new file l i bs) (λ bs. put_entry old file l i bs)
  unfolding put_entry
  covers-entry l i =
      let f = l.layout.format in
      covers-address (entry_follows l.layout.parts (relocation.entry_in file f l.tables i)) (relocation_layout f).address (relocation.entry_start f l.tables i)

  pub covers-written : (x x' : Images) (y : Summary) (l : Loadable) → length x.text ≡ length x'.text
      → length (take l.layout.parts.«data».size x.dat) ≡ length (take l.layout.parts.«data».size x'.dat)
      → Covers len (λ bs. written_by new x file y l bs) (λ bs. written_by old x' file y l bs)
  unfolding written_by put_text put_data
  covers-written x x' y l et ed =
      let m = l.layout in
      covers-then len (λ bs. each_from (put_entry new file l) 0 l.tables.nreloc bs) (λ bs. each_from (put_entry old file l) 0 l.tables.nreloc bs) _ _
      (covers-each len (put_entry new file l) (put_entry old file l) (covers-entry l) 0 l.tables.nreloc)
      (covers-then len (λ bs. each_from (put_symbol new file l) 0 l.tables.nsyms bs) (λ bs. each_from (put_symbol old file l) 0 l.tables.nsyms bs) _ _
      (covers-each len (put_symbol new file l) (put_symbol old file l) (covers-symbol l) 0 l.tables.nsyms)
      (covers-then len (λ bs. each_from (put_section new file y) 0 y.count bs) (λ bs. each_from (put_section old file y) 0 y.count bs) _ _
      (covers-each len (put_section new file y) (put_section old file y) (covers-section y) 0 y.count)
      (covers-then len (λ bs. put_aux new file m bs) (λ bs. put_aux old file m bs) _ _ (covers-aux m)
      (covers-then len (λ bs. sets bs m.parts.«data».start.0 (take m.parts.«data».size x.dat)) (λ bs. sets bs m.parts.«data».start.0 (take m.parts.«data».size x'.dat)) _ _
      (covers-stored len m.parts.«data».start.0 (take m.parts.«data».size x.dat) (take m.parts.«data».size x'.dat) ed)
      (covers-stored len m.parts.text.start.0 x.text x'.text et)))))
