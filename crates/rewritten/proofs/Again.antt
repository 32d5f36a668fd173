-- A module written for one plan and then for another is the one written for the other. Assumes nothing.
use mathlib.Core.Path.{◌≡◌, refl, sym, ◌∙◌, ap}
use mathlib.Core.Bool.{Bool, true, false, cond, ◌||◌}
use mathlib.Core.List.{List}
use Prim.Native.Nat.{ℕ, zero, suc, ◌+◌, ◌<◌}
use native.Mathlib.Omega.{arith}
use lib.Dec.{eqb}
use lib.ListN.{length, take, length-take}
use Rattle.word.specs.declared.Field.{Field}
use Rattle.word.specs.Number.{field_in}
use Rattle.word.proofs.Test.{either}
use Rattle.section_kind.specs.Kind.{flags_of}
use Rattle.format.specs.declared.Format.{Format}
use Rattle.format.specs.Layout.{header_layout, section_layout, aux_layout, symbol_layout, relocation_layout, address_limit}
use Rattle.section.specs.declared.Section.{Section}
use Rattle.section.specs.declared.SectionHeader.{SectionHeader}
use Rattle.section.specs.Section.{section_header_at}
use Rattle.file_header.specs.declared.FileHeader.{FileHeader}
use Rattle.file_header.specs.Header.{header_at, section_start}
use Rattle.file_tables.specs.Tables.{sections_of}
use Rattle.header.specs.declared.Summary.{Summary}
use Rattle.header.specs.declared.Opened.{Opened}
use Rattle.header.specs.Open.{summary_with, summary_as, open_of}
use Rattle.parts.specs.declared.Parts.{Parts}
use Rattle.parts.specs.Sections.{flag_at}
use Rattle.auxiliary.specs.declared.AuxHeader.{AuxHeader}
use Rattle.auxiliary.specs.Auxiliary.{aux_at}
use Rattle.module.specs.declared.Anchor.{Anchor}
use Rattle.loader_symbol.specs.declared.LoaderEntry.{LoaderEntry}
use Rattle.loader_symbol.specs.Symbol as symbol
use Rattle.relocation.specs.declared.RelocationEntry.{RelocationEntry}
use Rattle.relocation.specs.Relocation as relocation
use Rattle.loadable.specs.declared.Loadable.{Loadable}
use Rattle.loadable.specs.Valid.{Valid}
use Rattle.history.specs.declared.Followed.{Followed}
use Rattle.history.specs.declared.Followed.TheVariants as followed
use Rattle.history.specs.Images.{Images}
use Rattle.history.specs.Plan.{Relocatable, Plan, Anchored, Sound, built_images}
use Rattle.history.specs.Plan.Anchored.{none, in_text, in_data}
use Rattle.plan.specs.Relocatable.{followed_at, anchored, relocatable_of}
use Rattle.frame.specs.Change.{put_in, each_from}
use Rattle.rebase.specs.Rebase.{new_address, rebased_symbol, rebased}
use Rattle.rebase.proofs.Rebased.{address-again, built-rebased}
use Rattle.written.specs.Written.{flag_follows, anchor_by, anchor_follows, entry_follows, put_address, put_header, put_section, put_aux, put_symbol, put_entry, put_text, put_data, written_by, written}
use Rattle.written.specs.Moved.{Fresh, moved_header, moved_parts, moved_anchor, moved_module, moved_relocation}
use Rattle.written.proofs.Found.{LoadableFound}
use Rattle.written.proofs.Built.{length-built, length-built-text}
use Rattle.rewritten.proofs.Address.{PlanFits}
use Rattle.rewritten.proofs.Covers.{covers-again, covers-written}
use Rattle.rewritten.proofs.Parts.{with_sections}
use Rattle.rewritten.proofs.Opens.{Ready, W, sections-count, header-moved, section-moved, written-opens}
use Rattle.rewritten.proofs.Loads.{aux-at}
use Rattle.rewritten.proofs.Loaded.{symbol-moved, entry-moved}
use Rattle.rewritten.proofs.Rebases.{followed-kept, relocatable-kept}

-- changes that are the same one by one
each_same : (f g : ℕ → List ℕ → List ℕ) (k n : ℕ) (bs : List ℕ) → ((i : ℕ) → i < k + n → (cs : List ℕ) → f i cs ≡ g i cs) → each_from f k n bs ≡ each_from g k n bs
unfolding each_from
each_same f g k zero bs h = refl
each_same f g k (suc n) bs h = ap (each_from f (suc k) n) (h k (omega arith) bs) ∙ each_same f g (suc k) n (g k bs) (λ i b. h i (omega arith))

-- a section and an anchor follow no import
flag-own : (p : Plan) (flag : ℕ) → flag_follows flag ≡ rebased_symbol p (flag_follows flag)
unfolding flag_follows
flag-own p flag =
    either (λ f. f ≡ rebased_symbol p f) (eqb flag 0x0020) (λ _. refl) (λ _. either (λ f. f ≡ rebased_symbol p f) (eqb flag 0x0040 || eqb flag 0x0080) (λ _. refl) (λ _. refl))

anchor-own : (p : Plan) (q : Parts) (a : Anchor) → anchor_follows q a ≡ rebased_symbol p (anchor_follows q a)
unfolding anchor_follows
anchor-own p q a = by-anchor (anchored q a)
  where
    by-anchor : (x : Anchored) → anchor_by x ≡ rebased_symbol p (anchor_by x)
    by-anchor none = refl
    by-anchor (in_text n) = refl
    by-anchor (in_data n) = refl

entry-own : (p : Plan) (q : Parts) (e : RelocationEntry) → entry_follows q e ≡ rebased_symbol p (entry_follows q e)
unfolding entry_follows
entry-own p q e = either (λ f. f ≡ rebased_symbol p f) (eqb e.scnum q.text.number.0) (λ _. refl) (λ _. refl)

anchor-kept : (new : Followed → ℕ → ℕ) (q : Parts) (a : Anchor) → anchor_follows (moved_parts new q) (moved_anchor new q a) ≡ anchor_follows q a
unfolding anchor_follows anchored
anchor-kept new q a = by-section (eqb a.section.0 0) (eqb a.section.0 q.text.number.0) (new (anchor_follows q a) a.address.0) a.address.0
  where
    by-section : (s t : Bool) (m n : ℕ) → anchor_by (cond s none (cond t (in_text m) (in_data m))) ≡ anchor_by (cond s none (cond t (in_text n) (in_data n)))
    by-section true t m n = refl
    by-section false true m n = refl
    by-section false false m n = refl

entry_kept : (new : Followed → ℕ → ℕ) (f : Followed) (q : Parts) (e : RelocationEntry) → entry_follows (moved_parts new q) (moved_relocation new f e) ≡ entry_follows q e
unfolding entry_follows
entry_kept new f q e = refl

-- one address: put in for p, and then for q
module _ (M : Relocatable) (p q : Plan) (file ws : List ℕ) (a : Field) (base : ℕ) (bs : List ℕ) where
  core : (f : Followed) → field_in a base ws ≡ new_address M p f (field_in a base file)
      → put_address (new_address (rebased M p) q) ws (rebased_symbol p f) a base bs ≡ put_address (new_address M q) file f a base bs
  unfolding put_address
  core followed.Text h = ap (λ (v : ℕ). put_in a base v bs) (ap (new_address (rebased M p) q followed.Text) h ∙ address-again M p q followed.Text (field_in a base file))
  core followed.Data h = ap (λ (v : ℕ). put_in a base v bs) (ap (new_address (rebased M p) q followed.Data) h ∙ address-again M p q followed.Data (field_in a base file))
  core (followed.Import k v) h =
      ap (λ (n : ℕ). put_in a base n bs) (ap (new_address (rebased M p) q (rebased_symbol p (followed.Import k v))) h ∙ address-again M p q (followed.Import k v) (field_in a base file))
  core followed.Nothing h = refl

  put-again : (f f' : Followed) → f' ≡ rebased_symbol p f → field_in a base ws ≡ new_address M p f (field_in a base file)
      → put_address (new_address (rebased M p) q) ws f' a base bs ≡ put_address (new_address M q) file f a base bs
  put-again f f' e h = ap (λ (t : Followed). put_address (new_address (rebased M p) q) ws t a base bs) e ∙ core f h

module _ (file : List ℕ) (f : Format) (l : Loadable) (p q : Plan) (fit : PlanFits (relocatable_of file l) p)
    (g : Ready (new_address (relocatable_of file l) p) (built_images (relocatable_of file l) p) file f l) (lf : LoadableFound file l) (v : Valid file l)
    (fs : (k : ℕ) → k < l.tables.nsyms → Fresh (new_address (relocatable_of file l) p) (address_limit f) (followed_at file l k)) (sound : Sound (relocatable_of file l)) where
  abbrev M : Relocatable
  M = relocatable_of file l

  abbrev new : Followed → ℕ → ℕ
  new = new_address (relocatable_of file l) p

  abbrev after : Followed → ℕ → ℕ
  after = new_address (rebased (relocatable_of file l) p) q

  abbrev x : Images
  x = built_images (relocatable_of file l) p

  abbrev xq : Images
  xq = built_images (relocatable_of file l) q

  abbrev ws : List ℕ
  ws = W new x file f l g

  abbrev l' : Loadable
  l' = record { layout = moved_module new l.layout; tables = l.tables }

  abbrev y : Summary
  y = summary_as f file

  abbrev h : FileHeader
  h = header_at f file

  abbrev y' : Summary
  y' = with_sections y (sections_of ws h h.nscns)

  abbrev F : Format
  F = l.layout.format

  -- ---- each change

  section-again : (i : ℕ) → i < y.count → (bs : List ℕ) → put_section after ws y' i bs ≡ put_section (new_address M q) file y i bs
  unfolding put_section
  section-again i b bs =
      ap (λ (n : ℕ). put_header after ws y.format (flag_follows n) (section_start y.format y.opthdr i) bs) flag ∙ both
    where
      in-header : i < h.nscns
      in-header = rw (sections-count f file) at b

      flag : flag_at (sections_of ws h h.nscns) i ≡ flag_at y.sections i
      flag = ap (λ (s : Section). flags_of s.kind) (section-moved new x file f l g i in-header)

      base : ℕ
      base = section_start f h.opthdr i

      moved : section_header_at f base ws ≡ moved_header new (flag_follows (flag_at y.sections i)) (section_header_at f base file)
      moved = header-moved new x file f l g i in-header

      vaddr : field_in (section_layout f).vaddr base ws ≡ new (flag_follows (flag_at y.sections i)) (field_in (section_layout f).vaddr base file)
      vaddr = unfold section_header_at in ap (λ (t : SectionHeader). t.vaddr.0) moved

      paddr : field_in (section_layout f).paddr base ws ≡ new (flag_follows (flag_at y.sections i)) (field_in (section_layout f).paddr base file)
      paddr = unfold section_header_at in ap (λ (t : SectionHeader). t.paddr.0) moved

      own : flag_follows (flag_at y.sections i) ≡ rebased_symbol p (flag_follows (flag_at y.sections i))
      own = flag-own p (flag_at y.sections i)

      two : put_header after ws f (flag_follows (flag_at y.sections i)) base bs ≡ put_header (new_address M q) file f (flag_follows (flag_at y.sections i)) base bs
      two = unfold put_header in
          (ap (put_address after ws (flag_follows (flag_at y.sections i)) (section_layout f).vaddr base)
          (put-again M p q file ws (section_layout f).paddr base bs (flag_follows (flag_at y.sections i)) (flag_follows (flag_at y.sections i)) own paddr)
          ∙ put-again M p q file ws (section_layout f).vaddr base (put_address (new_address M q) file (flag_follows (flag_at y.sections i)) (section_layout f).paddr base bs) (flag_follows (flag_at y.sections i)) (flag_follows (flag_at y.sections i)) own vaddr)

      both : put_header after ws y.format (flag_follows (flag_at y.sections i)) (section_start y.format y.opthdr i) bs ≡ put_section (new_address M q) file y i bs
      both = unfold put_section summary_as summary_with header_at in two

  abbrev base : ℕ
  base = (header_layout F).length

  abbrev fe : Followed
  fe = anchor_follows l.layout.parts l.layout.entry

  abbrev ft : Followed
  ft = anchor_follows l.layout.parts l.layout.toc

  tstart-at : field_in (aux_layout F).tstart base ws ≡ new followed.Text (field_in (aux_layout F).tstart base file)
  tstart-at = unfold aux_at in ap (λ (t : AuxHeader). t.tstart.0) (aux-at new x file f l g)

  dstart-at : field_in (aux_layout F).dstart base ws ≡ new followed.Data (field_in (aux_layout F).dstart base file)
  dstart-at = unfold aux_at in ap (λ (t : AuxHeader). t.dstart.0) (aux-at new x file f l g)

  entry_at_lem : field_in (aux_layout F).entry base ws ≡ new fe (field_in (aux_layout F).entry base file)
  entry_at_lem = unfold aux_at in ap (λ (t : AuxHeader). t.entry.0) (aux-at new x file f l g)

  toc-at : field_in (aux_layout F).toc base ws ≡ new ft (field_in (aux_layout F).toc base file)
  toc-at = unfold aux_at in ap (λ (t : AuxHeader). t.toc.0) (aux-at new x file f l g)

  aux-again : (bs : List ℕ) → put_aux after ws l'.layout bs ≡ put_aux (new_address M q) file l.layout bs
  unfolding put_aux
  aux-again bs =
      let A = aux_layout F in
      let b3 = put_address (new_address M q) file ft A.toc base bs in
      let b2 = put_address (new_address M q) file fe A.entry base b3 in
      let b1 = put_address (new_address M q) file followed.Data A.dstart base b2 in
      ap (λ (t : Followed). put_address after ws followed.Text A.tstart base (put_address after ws followed.Data A.dstart base (put_address after ws t A.entry base
      (put_address after ws (anchor_follows l'.layout.parts l'.layout.toc) A.toc base bs)))) (anchor-kept new l.layout.parts l.layout.entry)
      ∙ ap (λ (t : Followed). put_address after ws followed.Text A.tstart base (put_address after ws followed.Data A.dstart base (put_address after ws fe A.entry base (put_address after ws t A.toc base bs))))
      (anchor-kept new l.layout.parts l.layout.toc)
      ∙ ap (λ (cs : List ℕ). put_address after ws followed.Text A.tstart base (put_address after ws followed.Data A.dstart base (put_address after ws fe A.entry base cs)))
      (put-again M p q file ws A.toc base bs ft ft (anchor-own p l.layout.parts l.layout.toc) toc-at)
      ∙ ap (λ (cs : List ℕ). put_address after ws followed.Text A.tstart base (put_address after ws followed.Data A.dstart base cs))
      (put-again M p q file ws A.entry base b3 fe fe (anchor-own p l.layout.parts l.layout.entry) entry_at_lem)
      ∙ ap (put_address after ws followed.Text A.tstart base) (put-again M p q file ws A.dstart base b2 followed.Data followed.Data refl dstart-at)
      ∙ put-again M p q file ws A.tstart base b1 followed.Text followed.Text refl tstart-at

  value-at : (k : ℕ) → k < l.tables.nsyms → field_in (symbol_layout F).value (symbol.entry_start l.tables k) ws ≡ new (followed_at file l k) (field_in (symbol_layout F).value (symbol.entry_start l.tables k) file)
  value-at k b = unfold symbol.entry_at in ap (λ (t : LoaderEntry). t.value) (symbol-moved new x file f l g lf v fs k b)

  symbol-again : (k : ℕ) → k < l.tables.nsyms → (bs : List ℕ) → put_symbol after ws l' k bs ≡ put_symbol (new_address M q) file l k bs
  unfolding put_symbol
  symbol-again k b bs =
      put-again M p q file ws (symbol_layout F).value (symbol.entry_start l.tables k) bs (followed_at file l k) (followed_at ws l' k) (followed-kept file f l p fit g lf v fs k b) (value-at k b)

  abbrev entry : ℕ → RelocationEntry
  entry i = relocation.entry_in file F l.tables i

  address-at : (i : ℕ) → i < l.tables.nreloc → field_in (relocation_layout F).address (relocation.entry_start F l.tables i) ws
      ≡ new (entry_follows l.layout.parts (entry i)) (field_in (relocation_layout F).address (relocation.entry_start F l.tables i) file)
  address-at i b = unfold relocation.entry_in relocation.entry_at in ap (λ (t : RelocationEntry). t.address.0) (entry-moved new x file f l g lf v fs i b)

  follows-kept : (i : ℕ) → i < l.tables.nreloc → entry_follows l'.layout.parts (relocation.entry_in ws F l.tables i) ≡ rebased_symbol p (entry_follows l.layout.parts (entry i))
  follows-kept i b =
      ap (entry_follows l'.layout.parts) (entry-moved new x file f l g lf v fs i b)
      ∙ entry_kept new (entry_follows l.layout.parts (entry i)) l.layout.parts (entry i)
      ∙ entry-own p l.layout.parts (entry i)

  entry-again : (i : ℕ) → i < l.tables.nreloc → (bs : List ℕ) → put_entry after ws l' i bs ≡ put_entry (new_address M q) file l i bs
  unfolding put_entry
  entry-again i b bs =
      put-again M p q file ws (relocation_layout F).address (relocation.entry_start F l.tables i) bs (entry_follows l.layout.parts (entry i)) (entry_follows l'.layout.parts (relocation.entry_in ws F l.tables i))
      (follows-kept i b) (address-at i b)

  -- all of them
  all-again : (bs : List ℕ) → written_by after xq ws y' l' bs ≡ written_by (new_address M q) xq file y l bs
  unfolding written_by put_text put_data
  all-again bs =
      let images = put_data xq l.layout (put_text xq l.layout bs) in
      let n = new_address M q in
      each_same (put_entry after ws l') (put_entry n file l) 0 l.tables.nreloc _ (λ i b. entry-again i (omega arith))
      ∙ ap (each_from (put_entry n file l) 0 l.tables.nreloc)
      (each_same (put_symbol after ws l') (put_symbol n file l) 0 l.tables.nsyms _ (λ k b. symbol-again k (omega arith))
      ∙ ap (each_from (put_symbol n file l) 0 l.tables.nsyms)
      (each_same (put_section after ws y') (put_section n file y) 0 y.count _ (λ i b. section-again i (omega arith))
      ∙ ap (each_from (put_section n file y) 0 y.count) (aux-again images)))

  twice : written_by (new_address M q) xq file y l ws ≡ written_by (new_address M q) xq file y l file
  twice =
      unfold written_by in
      covers-again (length file) (λ bs. written_by (new_address M q) xq file y l bs) (λ bs. written_by new x file y l bs)
      (covers-written (length file) (new_address M q) new file xq x y l (length-built-text file l v q ∙ sym (length-built-text file l v p)) same-data) file refl
    where
      same-data : length (take l.layout.parts.«data».size xq.dat) ≡ length (take l.layout.parts.«data».size x.dat)
      same-data = rw (length-take l.layout.parts.«data».size xq.dat, length-take l.layout.parts.«data».size x.dat, length-built file l v q, length-built file l v p) refl

  -- the written file, written for q
  pub again : written ws l' q ≡ written_by (new_address M q) xq file y l file
  again = first ∙ all-again ws ∙ twice
    where
      by-module : (m : Relocatable) (z : Summary) → m ≡ rebased M p → z ≡ y' → written_by (new_address m q) (built_images m q) ws z l' ws ≡ written_by after xq ws y' l' ws
      by-module m z e d =
          ap (λ (t : Relocatable). written_by (new_address t q) (built_images t q) ws z l' ws) e
          ∙ ap (λ (t : Images). written_by after t ws z l' ws) (built-rebased M p sound q)
          ∙ ap (λ (t : Summary). written_by after xq ws t l' ws) d

      first : written ws l' q ≡ written_by after xq ws y' l' ws
      first = unfold written in by-module (relocatable_of ws l') (open_of ws).summary (relocatable-kept file f l p fit g lf v fs) (ap (λ (o : Opened). o.summary) (written-opens new x file f l g))
