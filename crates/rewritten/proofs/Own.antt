-- A module written for its own recorded plan is the file itself, byte for byte. The elements of a file are bytes. Assumes nothing else.
use mathlib.Core.Path.{◌≡◌, refl, sym, ◌∙◌, ap, subst}
use mathlib.Core.Bool.{Bool, true, false, cond, ◌||◌}
use mathlib.Core.List.{List, [], ◌∷◌, ◌++◌, append_assoc}
use Prim.Native.Nat.{ℕ, zero, suc, ◌+◌, ◌-◌, ◌*◌, ◌^◌, ◌≤◌, ◌<◌}
use native.Mathlib.Decide.{dec_lt}
use native.Mathlib.Omega.{arith}
use lib.Dec.{eqb}
use lib.ListN.{length, get_or, take, drop, replicate, length-take, get_or-eq_default, take-append-drop}
use lib.Seq.{sets, sets-eq, drop-drop, take_at, get_or-take, get_or-drop}
use Rattle.word.specs.declared.Field.{Field}
use Rattle.word.specs.declared.Width.TheVariants.{Four, Eight}
use Rattle.word.specs.Number.{bytes_in, field, field_in}
use Rattle.word.proofs.Number.{length-field}
use Rattle.word.proofs.Test.{either}
use Rattle.update.specs.Update.{Bytes}
use Rattle.update.proofs.Laws.{field_lt, put-field}
use Rattle.format.specs.declared.Format.{Format}
use Rattle.format.specs.declared.Format.TheVariants.{Xcoff32, Xcoff64}
use Rattle.format.specs.Layout.{header_layout, section_layout, aux_layout, symbol_layout, loader_symbol_length, relocation_layout, address_limit}
use Rattle.format.proofs.Layouts.{FieldInside}
use Rattle.file_header.specs.Header.{section_start}
use Rattle.header.specs.declared.Summary.{Summary}
use Rattle.header.specs.Open.{open_of}
use Rattle.header.proofs.Accepted.{opened_inside}
use Rattle.parts.specs.declared.Parts.{Parts}
use Rattle.parts.specs.Sections.{flag_at}
use Rattle.module.specs.declared.Anchor.{Anchor}
use Rattle.loader_symbol.specs.declared.LoaderEntry.{LoaderEntry}
use Rattle.loader_symbol.specs.Symbol as symbol
use Rattle.relocation.specs.declared.RelocationEntry.{RelocationEntry}
use Rattle.relocation.specs.Relocation as relocation
use Rattle.loadable.specs.declared.Loadable.{Loadable}
use Rattle.loadable.specs.Loadable.{loadable_at}
use Rattle.loadable.specs.Valid.{Valid}
use Rattle.loadable.proofs.Accepted.{loadable-valid}
use Rattle.history.specs.declared.Followed.{Followed}
use Rattle.history.specs.declared.Followed.TheVariants as followed
use Rattle.history.specs.Images.{Images}
use Rattle.history.specs.Plan.{Relocatable, Plan, Anchored, Sound, limit_of, built_images}
use Rattle.history.specs.Plan.Anchored.{none, in_text, in_data}
use Rattle.plan.specs.Relocatable.{followed_of, followed_in, followed_at, raw_text, raw_data, anchored, relocatable_of}
use Rattle.plan.proofs.Symbols.{symbol-at, symbol-in}
use Rattle.plan.proofs.Sound.{relocatable-sound}
use Rattle.frame.specs.Change.{put_in, each_from}
use Rattle.frame.proofs.Open.{section-in-area}
use Rattle.rebase.specs.Rebase.{new_address, recorded_plan}
use Rattle.rebase.proofs.Recorded.{recorded-images, text-still, data-still, import-still}
use Rattle.written.specs.Written.{flag_follows, anchor_by, anchor_follows, entry_follows, moves, put_address, put_header, put_section, put_aux, put_symbol, put_entry, put_text, put_data, written_by, written}
use Rattle.written.proofs.Found.{found-opened, found-format, found-aux}
use Rattle.written.proofs.Built.{part_length}
use Rattle.rewritten.proofs.Theorem.{own-places, relocatable-is}
use Rattle.std.specs.Prelude.{Ok}

-- ---- nothing changes

-- an address put in as it is
put-still : (new : Followed → ℕ → ℕ) (file : List ℕ) (f : Followed) (a : Field) (base : ℕ) → Bytes file → FieldInside a base (length file) → new f (field_in a base file) ≡ field_in a base file
    → put_address new file f a base file ≡ file
unfolding put_address
put-still new file f a base b i e = by-test (moves f)
  where
    by-test : (t : Bool) → cond t (put_in a base (new f (field_in a base file)) file) file ≡ file
    by-test true = ap (λ (v : ℕ). put_in a base v file) e ∙ put-field (bytes_in a.width) (base + a.offset) file b i
    by-test false = refl

each-still : (put : ℕ → List ℕ → List ℕ) (bs : List ℕ) (k n : ℕ) → ((i : ℕ) → i < k + n → put i bs ≡ bs) → each_from put k n bs ≡ bs
unfolding each_from
each-still put bs k zero h = refl
each-still put bs k (suc n) h = ap (each_from put (suc k) n) (h k (omega arith)) ∙ each-still put bs (suc k) n (λ i b. h i (omega arith))

-- a part stored over itself
part-own : (start n : ℕ) (bs : List ℕ) → (0 < n → start + n ≤ length bs) → Dec (0 < n) → sets bs start (take n (drop start bs)) ≡ bs
part-own start n bs h (yes p) =
    let e : length (take n (drop start bs)) ≡ n = length-field n start bs (h p) in
    let r = h p in
    sets-eq (take n (drop start bs)) bs start (omega arith)
    ∙ rw (e, append_assoc (take start bs) (take n (drop start bs)) (drop (start + n) bs), ← drop-drop n start bs, take-append-drop n (drop start bs), take-append-drop start bs)
part-own start zero bs h (no p) = refl
part-own start (suc n) bs h (no p) = absurd (omega arith)

-- ---- bytes

bytes-part : (n start : ℕ) (bs : List ℕ) → Bytes bs → Bytes (take n (drop start bs))
bytes-part n start bs h k = by_place (dec_lt k n)
  where
    by_place : Dec (k < n) → get_or (take n (drop start bs)) k 0 < 256
    by_place (yes a) = rw (get_or-take n (drop start bs) k 0 a, get_or-drop) (h (start + k))
    by_place (no a) = let z : get_or (take n (drop start bs)) k 0 ≡ 0 = get_or-eq_default (take n (drop start bs)) 0 (rw length-take (omega arith)) in omega arith

bytes-zeros : (xs : List ℕ) (n : ℕ) → Bytes xs → Bytes (xs ++ replicate n 0)
bytes-zeros [] zero h k = omega arith
bytes-zeros [] (suc n) h zero = omega arith
bytes-zeros [] (suc n) h (suc k) = bytes-zeros [] n h k
bytes-zeros (x ∷ xs) n h zero = h 0
bytes-zeros (x ∷ xs) n h (suc k) = bytes-zeros xs n (λ i. h (suc i)) k

-- ---- fields of addresses are in the file and below the limit

-- the field a of what starts at base
pub record Small (fm : Format) (a : Field) (base : ℕ) (file : List ℕ) : Type 0 where
  pub inside : FieldInside a base (length file)
  pub below : field_in a base file < address_limit fm

module _ (file : List ℕ) (b : Bytes file) where
  four : (o base : ℕ) → base + o + 4 ≤ length file → field_in (field o Four) base file < 2 ^ 32
  four o base h = field_lt 4 (base + o) file b h

  eight : (o base : ℕ) → base + o + 8 ≤ length file → field_in (field o Eight) base file < 2 ^ 64
  eight o base h = field_lt 8 (base + o) file b h

  section-small : (fm : Format) (base : ℕ) → base + (section_layout fm).length ≤ length file → Small fm (section_layout fm).paddr base file × Small fm (section_layout fm).vaddr base file
  section-small Xcoff32 base h = (record { inside = omega arith; below = four 8 base (omega arith) }, record { inside = omega arith; below = four 12 base (omega arith) })
  section-small Xcoff64 base h = (record { inside = omega arith; below = eight 8 base (omega arith) }, record { inside = omega arith; below = eight 16 base (omega arith) })

  aux-small : (fm : Format) (base : ℕ) → base + (aux_layout fm).length ≤ length file
      → Small fm (aux_layout fm).tstart base file × Small fm (aux_layout fm).dstart base file × Small fm (aux_layout fm).entry base file × Small fm (aux_layout fm).toc base file
  aux-small Xcoff32 base h = (
    record { inside = omega arith; below = four 20 base (omega arith) },
    record { inside = omega arith; below = four 24 base (omega arith) },
    record { inside = omega arith; below = four 16 base (omega arith) },
    record { inside = omega arith; below = four 28 base (omega arith) },
  )
  aux-small Xcoff64 base h = (
    record { inside = omega arith; below = eight 8 base (omega arith) },
    record { inside = omega arith; below = eight 16 base (omega arith) },
    record { inside = omega arith; below = eight 80 base (omega arith) },
    record { inside = omega arith; below = eight 24 base (omega arith) },
  )

  symbol-small : (fm : Format) (base : ℕ) → base + loader_symbol_length ≤ length file → Small fm (symbol_layout fm).value base file
  symbol-small Xcoff32 base h = record { inside = omega arith; below = four 8 base (omega arith) }
  symbol-small Xcoff64 base h = record { inside = omega arith; below = eight 0 base (omega arith) }

  entry-small : (fm : Format) (start i n : ℕ) → i < n → start + n * (relocation_layout fm).length ≤ length file → Small fm (relocation_layout fm).address (start + i * (relocation_layout fm).length) file
  entry-small Xcoff32 start i n h k = record { inside = omega arith; below = four 0 (start + i * 12) (omega arith) }
  entry-small Xcoff64 start i n h k = record { inside = omega arith; below = eight 0 (start + i * 16) (omega arith) }

-- ---- the theorem

module _ (file : List ℕ) (l : Loadable) (e : loadable_at file ≡ Ok l) (b : Bytes file) where
  abbrev M : Relocatable
  M = relocatable_of file l

  abbrev p : Plan
  p = recorded_plan M

  abbrev new : Followed → ℕ → ℕ
  new = new_address M p

  abbrev fm : Format
  fm = l.layout.format

  v : Valid file l
  v = loadable-valid file l e

  limit_is : limit_of M ≡ address_limit fm
  unfolding relocatable_of
  limit_is = refl

  -- what follows text, data or nothing stays
  text-stays : (a : ℕ) → a < address_limit fm → new followed.Text a ≡ a
  text-stays a h = text-still M a (rw limit_is h)

  data-stays : (a : ℕ) → a < address_limit fm → new followed.Data a ≡ a
  data-stays a h = data-still M a (rw limit_is h)

  nothing-stays : (a : ℕ) → new followed.Nothing a ≡ a
  unfolding new_address
  nothing-stays a = refl

  flag-stays : (flag a : ℕ) → a < address_limit fm → new (flag_follows flag) a ≡ a
  unfolding flag_follows
  flag-stays flag a h =
      either (λ f. new f a ≡ a) (eqb flag 0x0020) (λ _. text-stays a h) (λ _. either (λ f. new f a ≡ a) (eqb flag 0x0040 || eqb flag 0x0080) (λ _. data-stays a h) (λ _. nothing-stays a))

  anchor-stays : (q : Parts) (t : Anchor) (a : ℕ) → a < address_limit fm → new (anchor_follows q t) a ≡ a
  unfolding anchor_follows
  anchor-stays q t a h = by-anchor (anchored q t)
    where
      by-anchor : (x : Anchored) → new (anchor_by x) a ≡ a
      by-anchor none = nothing-stays a
      by-anchor (in_text y) = text-stays a h
      by-anchor (in_data y) = data-stays a h

  entry-stays : (q : Parts) (t : RelocationEntry) (a : ℕ) → a < address_limit fm → new (entry_follows q t) a ≡ a
  unfolding entry_follows
  entry-stays q t a h = either (λ f. new f a ≡ a) (eqb t.scnum q.text.number.0) (λ _. text-stays a h) (λ _. data-stays a h)

  -- so does an import's value
  module _ (k : ℕ) (k<n : k < l.tables.nsyms) where
    abbrev entry : LoaderEntry
    entry = symbol.entry_at fm (symbol.entry_start l.tables k) file

    symbols-at : get_or M.symbols k followed.Nothing ≡ followed_of l.layout.parts.text.number k entry
    symbols-at = unfold relocatable_of in symbol-at file l l.tables.nsyms k k<n ∙ (unfold followed_in in refl)

    value_stays : entry.value < address_limit fm → new (followed_of l.layout.parts.text.number k entry) entry.value ≡ entry.value
    unfolding symbol.entry_at followed_of
    value_stays h = by-import (symbol.is_imported entry.smtype) (eqb entry.ifile 0) (eqb entry.scnum l.layout.parts.text.number.0) symbols-at
      where
        by-import : (s t u : Bool) → get_or M.symbols k followed.Nothing ≡ cond s (cond t followed.Nothing (followed.Import k entry.value)) (cond u followed.Text followed.Data)
            → new (cond s (cond t followed.Nothing (followed.Import k entry.value)) (cond u followed.Text followed.Data)) entry.value ≡ entry.value
        by-import true true u q = nothing-stays entry.value
        by-import true false u q = import-still M k k entry.value entry.value q refl
        by-import false t true q = text-stays entry.value h
        by-import false t false q = data-stays entry.value h

  -- ---- each change

  abbrev y : Summary
  y = (open_of file).summary

  section-still : (i : ℕ) → i < y.count → put_section new file y i file ≡ file
  section-still i h = unfold put_section put_header in
      (ap (put_address new file f (section_layout y.format).vaddr base) (one s.0 (stay s.0)) ∙ one s.1 (stay s.1))
    where
      f : Followed
      f = flag_follows (flag_at y.sections i)

      base : ℕ
      base = section_start y.format y.opthdr i

      s : Small y.format (section_layout y.format).paddr base file × Small y.format (section_layout y.format).vaddr base file
      s = section-small file b y.format base (omega (arith, section-in-area y.format y.opthdr y.count i h, (opened_inside file (found-opened file l e)).headers))

      stay : {a : Field} → Small y.format a base file → new f (field_in a base file) ≡ field_in a base file
      stay {a} m = flag-stays (flag_at y.sections i) (field_in a base file) (subst (λ (t : Format). field_in a base file < address_limit t) (sym (found-format file l e)) m.below)

      one : {a : Field} → Small y.format a base file → new f (field_in a base file) ≡ field_in a base file → put_address new file f a base file ≡ file
      one {a} m h = put-still new file f a base b m.inside h

  aux-still : put_aux new file l.layout file ≡ file
  unfolding put_aux
  aux-still =
      let A = aux_layout fm in
      let base = (header_layout fm).length in
      let s = aux-small file b fm base (found-aux file l e) in
      let fe = anchor_follows l.layout.parts l.layout.entry in
      let ft = anchor_follows l.layout.parts l.layout.toc in
      let toc = put-still new file ft A.toc base b s.3.inside (anchor-stays l.layout.parts l.layout.toc (field_in A.toc base file) s.3.below) in
      let entry = put-still new file fe A.entry base b s.2.inside (anchor-stays l.layout.parts l.layout.entry (field_in A.entry base file) s.2.below) in
      let dstart = put-still new file followed.Data A.dstart base b s.1.inside (data-stays (field_in A.dstart base file) s.1.below) in
      let tstart = put-still new file followed.Text A.tstart base b s.0.inside (text-stays (field_in A.tstart base file) s.0.below) in
      ap (λ (bs : List ℕ). put_address new file followed.Text A.tstart base (put_address new file followed.Data A.dstart base (put_address new file fe A.entry base bs))) toc
      ∙ ap (λ (bs : List ℕ). put_address new file followed.Text A.tstart base (put_address new file followed.Data A.dstart base bs)) entry
      ∙ ap (put_address new file followed.Text A.tstart base) dstart ∙ tstart

  follows-stays : (k : ℕ) → k < l.tables.nsyms → Small fm (symbol_layout fm).value (symbol.entry_start l.tables k) file
      → new (followed_at file l k) (field_in (symbol_layout fm).value (symbol.entry_start l.tables k) file) ≡ field_in (symbol_layout fm).value (symbol.entry_start l.tables k) file
  unfolding followed_in symbol.entry_at
  follows-stays k h s = value_stays k h s.below

  symbol-still : (k : ℕ) → k < l.tables.nsyms → put_symbol new file l k file ≡ file
  unfolding put_symbol
  symbol-still k h =
      let base = symbol.entry_start l.tables k in
      let s = symbol-small file b fm base (symbol-in file l k v h).0 in
      put-still new file (followed_at file l k) (symbol_layout fm).value base b s.inside (follows-stays k h s)

  entry-still : (i : ℕ) → i < l.tables.nreloc → put_entry new file l i file ≡ file
  unfolding put_entry
  entry-still i h =
      let t = relocation.entry_in file fm l.tables i in
      let base = relocation.entry_start fm l.tables i in
      let s = entry-small file b fm l.tables.relocations.0 i l.tables.nreloc h v.entries.inside in
      put-still new file (entry_follows l.layout.parts t) (relocation_layout fm).address base b s.inside (entry-stays l.layout.parts t (field_in (relocation_layout fm).address base file) s.below)

  -- ---- the images

  raw-built : built_images M p ≡ M.raw
  raw-built = recorded-images M sound (own-places file l) text-bytes data-bytes
    where
      sound : Sound M
      sound = subst Sound (relocatable-is file l e) (relocatable-sound file)

      text-bytes : Bytes M.raw.text
      text-bytes = unfold relocatable_of raw_text in bytes-part l.layout.parts.text.size l.layout.parts.text.start.0 file b

      data-bytes : Bytes M.raw.dat
      data-bytes = unfold relocatable_of raw_data in
          bytes-zeros (take l.layout.parts.«data».size (drop l.layout.parts.«data».start.0 file)) (l.layout.image - l.layout.parts.«data».size)
          (bytes-part l.layout.parts.«data».size l.layout.parts.«data».start.0 file b)

  text-still-put : put_text M.raw l.layout file ≡ file
  text-still-put = unfold put_text relocatable_of raw_text in
      part-own l.layout.parts.text.start.0 l.layout.parts.text.size file v.sections.text (dec_lt 0 l.layout.parts.text.size)

  data-still-put : put_data M.raw l.layout file ≡ file
  data-still-put =
      let n = l.layout.parts.«data».size in
      let start = l.layout.parts.«data».start.0 in
      unfold put_data relocatable_of raw_data in
      (ap (sets file start) (take_at (take n (drop start file)) (replicate (l.layout.image - n) 0) n (part_length n start file v.sections.«data» (dec_lt 0 n)))
      ∙ part-own start n file v.sections.«data» (dec_lt 0 n))

  -- the module written for its own recorded plan is the file
  pub written-own : written file l (recorded_plan (relocatable_of file l)) ≡ file
  unfolding written written_by
  written-own =
      ap (λ (x : Images). tail (put_aux new file l.layout (put_data x l.layout (put_text x l.layout file)))) raw-built
      ∙ ap (λ (bs : List ℕ). tail (put_aux new file l.layout (put_data M.raw l.layout bs))) text-still-put
      ∙ ap (λ (bs : List ℕ). tail (put_aux new file l.layout bs)) data-still-put
      ∙ ap tail aux-still
      ∙ ap (λ (bs : List ℕ). each_from (put_entry new file l) 0 l.tables.nreloc (each_from (put_symbol new file l) 0 l.tables.nsyms bs)) (each-still (put_section new file y) file 0 y.count (λ i h. section-still i (omega arith)))
      ∙ ap (each_from (put_entry new file l) 0 l.tables.nreloc) (each-still (put_symbol new file l) file 0 l.tables.nsyms (λ k h. symbol-still k (omega arith)))
      ∙ each-still (put_entry new file l) file 0 l.tables.nreloc (λ i h. entry-still i (omega arith))
    where
      tail : List ℕ → List ℕ
      tail bs = each_from (put_entry new file l) 0 l.tables.nreloc (each_from (put_symbol new file l) 0 l.tables.nsyms (each_from (put_section new file y) 0 y.count bs))
