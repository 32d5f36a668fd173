-- To builds and moves a written file is the first one with the plan's addresses. Assumes nothing.
use mathlib.Core.Path.{◌≡◌, refl, ◌∙◌, ap, ap₂}
use mathlib.Core.Bool.{Bool, true, false, cond}
use mathlib.Core.List.{List, ◌∷◌, ◌++◌, map}
use Prim.Native.Nat.{ℕ, zero, suc, ◌+◌, ◌-◌, ◌≤◌, ◌<◌}
use native.Mathlib.Omega.{arith}
use lib.ListN.{replicate}
use lib.Dec.{eqb}
use Rattle.format.specs.declared.Format.{Format}
use Rattle.format.specs.Layout.{address_limit}
use Rattle.parts.specs.declared.Parts.{Parts}
use Rattle.module.specs.declared.Anchor.{Anchor}
use Rattle.loader_symbol.specs.Symbol as symbol
use Rattle.loadable.specs.declared.Loadable.{Loadable}
use Rattle.loadable.specs.Valid.{Valid}
use Rattle.history.specs.declared.Followed.{Followed}
use Rattle.history.specs.declared.Followed.TheVariants as followed
use Rattle.history.specs.declared.Relocation.{Relocation}
use Rattle.history.specs.Images.{Images}
use Rattle.history.specs.Plan.{Relocatable, Plan, built_images}
use Rattle.history.specs.Plan.Anchored.{none, in_text, in_data}
use Rattle.written.specs.Written.{anchor_by, anchor_follows}
use Rattle.plan.specs.Relocatable.{followed_of, followed_in, followed_at, symbols_from, relocation_at, relocations_from, raw_text, raw_data, anchored, relocatable_of}
use Rattle.rebase.specs.Rebase.{rebased_symbol, rebased_anchor, rebased}
use Rattle.rebase.specs.Rebase.{new_address}
use Rattle.written.specs.Moved.{Fresh, moved_parts, moved_module, moved_anchor}
use Rattle.header.specs.Open.{summary_as}
use Rattle.rewritten.proofs.Address.{PlanFits, text-new, data-new, import-new}
use Rattle.written.proofs.Found.{LoadableFound}
use Rattle.written.proofs.Built.{built-data}
use Rattle.rewritten.proofs.Read.{text-read, data-read}
use Rattle.rewritten.proofs.Entries.{followed-moved}
use Rattle.rewritten.proofs.Opens.{Ready, W}
use Rattle.rewritten.proofs.Loaded.{symbol-moved, entry-moved, place_kept}

-- ---- what builds and moves see

-- an anchor of the written file
anchor-rebased : (m : Relocatable) (q : Plan) (p : Parts) (a : Anchor)
    → anchored (moved_parts (new_address m q) p) (moved_anchor (new_address m q) p a) ≡ rebased_anchor m q (anchored p a)
unfolding anchor_follows anchored rebased_anchor
anchor-rebased m q p a = by-section (eqb a.section.0 0) (eqb a.section.0 p.text.number.0)
  where
    by-section : (s t : Bool)
        → cond s none (cond t (in_text (new_address m q (anchor_by (cond s none (cond t (in_text a.address.0) (in_data a.address.0)))) a.address.0))
        (in_data (new_address m q (anchor_by (cond s none (cond t (in_text a.address.0) (in_data a.address.0)))) a.address.0)))
        ≡ rebased_anchor m q (cond s none (cond t (in_text a.address.0) (in_data a.address.0)))
    by-section true t = refl
    by-section false true = refl
    by-section false false = refl

text_of : (file : List ℕ) (l : Loadable) → l.layout.parts.text.address.0 ≡ (relocatable_of file l).text_address
unfolding relocatable_of
text_of file l = refl

data_of : (file : List ℕ) (l : Loadable) → l.layout.parts.«data».address.0 ≡ (relocatable_of file l).data_address
unfolding relocatable_of
data_of file l = refl

module _ (file : List ℕ) (f : Format) (l : Loadable) (q : Plan) (fit : PlanFits (relocatable_of file l) q)
    (g : Ready (new_address (relocatable_of file l) q) (built_images (relocatable_of file l) q) file f l) (lf : LoadableFound file l) (v : Valid file l)
    (fs : (k : ℕ) → k < l.tables.nsyms → Fresh (new_address (relocatable_of file l) q) (address_limit f) (followed_at file l k)) where
  abbrev M : Relocatable
  M = relocatable_of file l

  abbrev new : Followed → ℕ → ℕ
  new = new_address (relocatable_of file l) q

  abbrev x : Images
  x = built_images (relocatable_of file l) q

  abbrev ws : List ℕ
  ws = W new x file f l g

  abbrev l' : Loadable
  l' = record { layout = moved_module new l.layout; tables = l.tables }

  -- each loader symbol
  pub followed-kept : (k : ℕ) → k < l.tables.nsyms → followed_at ws l' k ≡ rebased_symbol q (followed_at file l k)
  unfolding followed_in
  followed-kept k b =
      let text = l.layout.parts.text.number in
      let e = symbol.entry_at l.layout.format (symbol.entry_start l.tables k) file in
      ap (followed_of text k) (symbol-moved new x file f l g lf v fs k b)
      ∙ followed-moved new q (λ j u. import-new M q fit j u u) text k e

  symbols-kept : (k n : ℕ) → k + n ≤ l.tables.nsyms → symbols_from ws l' k n ≡ map (rebased_symbol q) (symbols_from file l k n)
  unfolding symbols_from
  symbols-kept k zero h = refl
  symbols-kept k (suc n) h = ap₂ (λ (a : Followed) (r : List Followed). a ∷ r) (followed-kept k (omega arith)) (symbols-kept (suc k) n (omega arith))

  -- each relocation entry
  relocation-kept : (i : ℕ) → i < l.tables.nreloc → relocation_at ws l' i ≡ relocation_at file l i
  unfolding relocation_at
  relocation-kept i b = rw (place_kept new x file f l g lf v fs i b, entry-moved new x file f l g lf v fs i b) refl

  relocations-kept : (i n : ℕ) → i + n ≤ l.tables.nreloc → relocations_from ws l' i n ≡ relocations_from file l i n
  unfolding relocations_from
  relocations-kept i zero h = refl
  relocations-kept i (suc n) h = ap₂ (λ (a : Relocation) (r : List Relocation). a ∷ r) (relocation-kept i (omega arith)) (relocations-kept (suc i) n (omega arith))

  -- the raw images are the built ones
  text-kept : raw_text ws l'.layout ≡ x.text
  unfolding raw_text
  text-kept = text-read new x file (summary_as f file) l g.apart g.loader_apart g.within g.format g.long g.text_length g.data_length v.sections.text

  data-kept : raw_data ws l'.layout ≡ x.dat
  unfolding raw_data
  data-kept =
      ap (λ (r : List ℕ). r ++ replicate (l.layout.image - l.layout.parts.«data».size) 0)
      (data-read new x file (summary_as f file) l g.apart g.loader_apart g.within g.format g.long g.text_length g.data_length v.sections.«data»)
      ∙ built-data file l v q

  text-address : new followed.Text l.layout.parts.text.address.0 ≡ q.text
  text-address = ap (new_address M q followed.Text) (text_of file l) ∙ text-new M q fit

  data-address : new followed.Data l.layout.parts.«data».address.0 ≡ q.dat
  data-address = ap (new_address M q followed.Data) (data_of file l) ∙ data-new M q fit

  pub relocatable-kept : relocatable_of ws l' ≡ rebased M q
  unfolding relocatable_of rebased
  relocatable-kept =
      rw (
        text-kept,
        data-kept,
        symbols-kept 0 l.tables.nsyms (omega arith),
        relocations-kept 0 l.tables.nreloc (omega arith),
        anchor-rebased M q l.layout.parts l.layout.entry,
        anchor-rebased M q l.layout.parts l.layout.toc,
        text-address,
        data-address,
      ) refl
