-- A written file is a module, with the new addresses. Assumes nothing.
use mathlib.Core.Path.{◌≡◌, refl, sym, ◌∙◌, ap, subst}
use mathlib.Core.Bool.{not}
use mathlib.Core.List.{List}
use Prim.Native.Nat.{ℕ, ◌+◌, ◌≤◌, ◌<◌}
use native.Mathlib.Decide.{ℕ_discrete}
use native.Mathlib.Omega.{arith}
use lib.ListN.{length, get_or}
use lib.Dec.{ltb}
use Rattle.format.specs.declared.Format.{Format}
use Rattle.format.specs.Layout.{header_layout, aux_layout, address_limit}
use Rattle.refusal.specs.Order.{refuse_if}
use Rattle.refusal.proofs.Order.{accepted-first, accepted-rest, accepted-test}
use Rattle.file_header.specs.declared.FileHeader.{FileHeader}
use Rattle.file_header.specs.Header.{header_at, section_start}
use Rattle.file_tables.specs.Tables.{sections_of, blank_section}
use Rattle.header.specs.declared.Summary.{Summary}
use Rattle.header.specs.Open.{summary_with}
use Rattle.file_header.proofs.Checked.{header-complete}
use Rattle.auxiliary.specs.declared.AuxHeader.{AuxHeader}
use Rattle.auxiliary.specs.Auxiliary.{aux_at}
use Rattle.parts.specs.declared.Parts.{Parts}
use Rattle.parts.specs.Sections.{tallies_of, one_each, parts_of, thread_check}
use Rattle.module.specs.declared.Module.{Module}
use Rattle.module.specs.Module.{image_length, parts_check, aux_of, module_check, module_with, module_at}
use Rattle.module.proofs.Extent.{parts-image}
use Rattle.loadable.specs.declared.Loadable.{Loadable}
use Rattle.history.specs.declared.Followed.{Followed}
use Rattle.history.specs.declared.Followed.TheVariants as followed
use Rattle.history.specs.Images.{Images}
use Rattle.written.specs.Written.{anchor_follows}
use Rattle.written.specs.Written.{put_aux}
use Rattle.written.specs.Moved.{Fresh, moved_section, moved_aux, moved_parts, moved_module}
use Rattle.frame.proofs.Readers.{aux-same}
use Rattle.header.specs.Open.{summary_as}
use Rattle.rewritten.proofs.Fields.{aux_put, aux-put}
use Rattle.rewritten.proofs.Parts.{with_sections, tallies-moved, thread-moved, parts-moved, image-moved, check-moved}
use Rattle.written.proofs.Found.{module-at}
use Rattle.rewritten.proofs.Read.{w2, w3, length2, aux-read, aux-before}
use Rattle.rewritten.proofs.Opens.{Ready, W, format-of, sections-count, section-moved, written-opens}
use Rattle.std.specs.Prelude.{Ok}

-- a module with new addresses, in terms of its parts
module-is : (new : Followed → ℕ → ℕ) (F : Format) (p : Parts) (a : AuxHeader) (fe ft : Followed) → fe ≡ anchor_follows (module_with F p a).parts (module_with F p a).entry → ft ≡ anchor_follows (module_with F p a).parts (module_with F p a).toc
    → image_length (moved_parts new p) ≡ image_length p → module_with F (moved_parts new p) (moved_aux new fe ft a) ≡ moved_module new (module_with F p a)
unfolding module_with
module-is new F p a fe ft ee et ei = rw (ee, et, ei) refl

-- the checks before the parts
pub module-parts : (file : List ℕ) (y : Summary) → module_check file y ≡ Ok tt → parts_check (parts_of y) (aux_of file y) ≡ Ok tt
unfolding module_check
module-parts file y e =
    accepted-rest (thread_check y) _ (accepted-rest (refuse_if (not (one_each (tallies_of y))) _) _ (accepted-rest (refuse_if (ltb y.opthdr (aux_layout y.format).length) _) _ e))

-- a summary and a file that differ in nothing that these checks read
module-again : (file ys : List ℕ) (y z : Summary) → module_check file y ≡ Ok tt → z.opthdr ≡ y.opthdr → z.format ≡ y.format → tallies_of z ≡ tallies_of y → thread_check z ≡ thread_check y
    → parts_check (parts_of z) (aux_of ys z) ≡ Ok tt → module_check ys z ≡ Ok tt
unfolding module_check
module-again file ys y z e o f t h p =
    let r = accepted-rest (refuse_if (ltb y.opthdr (aux_layout y.format).length) _) _ e in
    let a = accepted-test (ltb y.opthdr (aux_layout y.format).length) _ (accepted-first (refuse_if (ltb y.opthdr (aux_layout y.format).length) _) _ e) in
    let b = accepted-test (not (one_each (tallies_of y))) _ (accepted-first (refuse_if (not (one_each (tallies_of y))) _) _ r) in
    let c = accepted-first (thread_check y) _ (accepted-rest (refuse_if (not (one_each (tallies_of y))) _) _ r) in
    rw (p, h, c, t, b, ap (λ (g : Format). ltb z.opthdr (aux_layout g).length) f, ap (λ (n : ℕ). ltb n (aux_layout y.format).length) o, a) refl

module _ (new : Followed → ℕ → ℕ) (x : Images) (file : List ℕ) (f : Format) (l : Loadable) (g : Ready new x file f l) where
  abbrev y : Summary
  y = summary_as f file

  abbrev h : FileHeader
  h = header_at f file

  abbrev z : Summary
  z = with_sections y (sections_of (W new x file f l g) h h.nscns)

  abbrev F : Format
  F = l.layout.format

  abbrev fe : Followed
  fe = anchor_follows l.layout.parts l.layout.entry

  abbrev ft : Followed
  ft = anchor_follows l.layout.parts l.layout.toc

  pub same_format : F ≡ f
  same_format = g.format ∙ format-of f file

  fits : (t : Followed) → Fresh new (address_limit f) t → Fresh new (address_limit F) t
  fits t k = subst (λ (k : Format). Fresh new (address_limit k) t) (sym same_format) k

  -- ---- the auxiliary header

  aux-room : (header_layout F).length + (aux_layout F).length ≤ length (w2 new x file y l)
  aux-room =
      subst (λ (n : ℕ). (header_layout F).length + (aux_layout F).length ≤ n) (sym (length2 new x file y l g.apart g.loader_apart g.within g.format g.long g.text_length g.data_length))
      (subst (λ (t : Format). (header_layout t).length + (aux_layout t).length ≤ length file) (sym g.format) (area-room y g.long inside))
    where
      area-room : (y : Summary) → (aux_layout y.format).length ≤ y.opthdr → section_start y.format y.opthdr y.count ≤ length file → (header_layout y.format).length + (aux_layout y.format).length ≤ length file
      area-room y a b = unfold section_start in omega arith

      inside : section_start (summary_as f file).format (summary_as f file).opthdr (summary_as f file).count ≤ length file
      inside = unfold summary_as summary_with header_at in (header-complete f file g.reads.header).inside

  put_is : w3 new x file y l ≡ aux_put new file F fe ft (header_layout F).length (w2 new x file y l)
  unfolding put_aux
  put_is = refl

  pub aux-at : aux_at F (header_layout F).length (W new x file f l g) ≡ moved_aux new fe ft (aux_at F (header_layout F).length file)
  aux-at =
      let base = (header_layout F).length in
      let before = aux-before new x file y l g.apart g.loader_apart g.within g.format g.long g.text_length g.data_length in
      aux-same F base (aux-read new x file y l g.apart g.loader_apart g.within g.format g.long g.text_length g.data_length)
      ∙ ap (aux_at F base) put_is
      ∙ aux-put new file F fe ft base (w2 new x file y l) aux-room (fits followed.Text g.text) (fits followed.Data g.dat) (fits fe g.entry) (fits ft g.toc) before
      ∙ ap (moved_aux new fe ft) (sym (aux-same F base before))

  aux-moved : aux_of (W new x file f l g) z ≡ moved_aux new fe ft (aux_of file y)
  unfolding aux_of
  aux-moved = subst (λ (t : Format). aux_at t (header_layout t).length (W new x file f l g) ≡ moved_aux new fe ft (aux_at t (header_layout t).length file)) g.format aux-at

  -- ---- the module

  moved-sections : (i : ℕ) → i < y.count → get_or z.sections i blank_section ≡ moved_section new (get_or y.sections i blank_section)
  moved-sections i b = section-moved new x file f l g i (rw (sections-count f file) at b)

  parts_are : parts_of z ≡ moved_parts new (parts_of y)
  parts_are = parts-moved new y z.sections moved-sections g.still g.ones

  parts-good : parts_check (parts_of y) (aux_of file y) ≡ Ok tt
  parts-good = module-parts file y g.check

  parts-pass : parts_check (parts_of z) (aux_of (W new x file f l g) z) ≡ Ok tt
  parts-pass = rw (parts_are, aux-moved) (check-moved new (address_limit f) (parts_of y) g.moves (aux_of file y) fe ft parts-good)

  module-pass : module_check (W new x file f l g) z ≡ Ok tt
  module-pass =
      module-again file (W new x file f l g) y z g.check refl refl (tallies-moved new y z.sections moved-sections g.still) (thread-moved new y z.sections moved-sections g.still) parts-pass

  image-kept : image_length (moved_parts new (parts_of y)) ≡ image_length (parts_of y)
  image-kept = image-moved new (address_limit f) (parts_of y) g.moves (parts-image (parts_of y) (aux_of file y) parts-good).0 (ℕ_discrete (parts_of y).bss.size 0)

  -- a written file is the module with the new addresses
  pub written-module : module_at (W new x file f l g) ≡ Ok (moved_module new l.layout)
  written-module =
      module-at (W new x file f l g) z (written-opens new x file f l g) module-pass
      ∙ ap Ok (ap (λ (p : Parts). module_with y.format p (aux_of (W new x file f l g) z)) parts_are ∙ ap (module_with y.format (moved_parts new (parts_of y))) aux-moved
      ∙ module-is new y.format (parts_of y) (aux_of file y) fe ft (ap (λ (m : Module). anchor_follows m.parts m.entry) (sym g.is)) (ap (λ (m : Module). anchor_follows m.parts m.toc) (sym g.is)) image-kept
      ∙ ap (moved_module new) g.is)
