-- Request 8: a module written back for a plan. No premise about the file but that the call is accepted.
use mathlib.Core.Path.{◌≡◌, refl, sym, ◌∙◌, ap, subst}
use mathlib.Core.Bool.{true, false, not}
use mathlib.Core.List.{List}
use Prim.Native.Nat.{ℕ, ◌+◌, ◌≤◌, ◌<◌}
use native.Mathlib.Omega.{arith}
use lib.ListN.{length, get_or, take, get_or-eq_default}
use native.Mathlib.Decide.{dec_lt}
use lib.Seq.{length-take-le}
use lib.Dec.{ltb}
use borrow.Author.Tests.{ltb-false, not-false}
use Rattle.format.specs.declared.Format.{Format}
use Rattle.format.specs.Layout.{aux_layout, address_limit}
use Rattle.refusal.specs.Order.{refuse_if}
use Rattle.refusal.proofs.Order.{accepted-first, accepted-rest, accepted-test}
use Rattle.header.specs.declared.Summary.{Summary}
use Rattle.header.specs.declared.Opened.{Opened}
use Rattle.header.specs.Open.{open_of}
use Rattle.parts.specs.declared.Parts.{Parts}
use Rattle.parts.specs.Sections.{tallies_of, one_each, parts_of}
use Rattle.module.specs.declared.Anchor.{Anchor}
use Rattle.module.specs.declared.Module.{Module}
use Rattle.module.specs.Module.{bss_below, image_length, aux_of, module_check, module_with}
use Rattle.module.proofs.Extent.{parts-image}
use Rattle.loadable.specs.declared.Loadable.{Loadable}
use Rattle.loadable.specs.Loadable.{loadable_at}
use Rattle.loadable.specs.Valid.{Valid}
use Rattle.loadable.proofs.Accepted.{loadable-valid}
use Rattle.history.specs.declared.Followed.{Followed}
use Rattle.history.specs.declared.Followed.TheVariants as followed
use Rattle.history.specs.Images.{Images}
use Rattle.history.specs.Plan.{Relocatable, Plan, Anchored, Sound, limit_of, SamePlan, plan_check, address_check, import_check, built_images}
use Rattle.history.specs.Plan.Anchored.{none, in_text, in_data}
use Rattle.history.specs.Call.{Call, run, answer_of}
use Rattle.written.specs.Written.{anchor_by, anchor_follows}
use Rattle.plan.specs.Relocatable.{followed_at, anchored, symbols_from, relocatable_of, relocatable_by, relocatable_at}
use Rattle.plan.proofs.Raw.{length-raw-text, length-raw-data}
use Rattle.plan.proofs.Symbols.{length_symbols, symbol-at, own-place-at}
use Rattle.plan.proofs.Symbols as symbols
use Rattle.plan.proofs.Sound.{relocatable-sound}
use Rattle.rebase.specs.Rebase.{rebased, recorded_plan, OwnPlace, OwnPlaces}
use Rattle.rebase.proofs.Rebased.{run-rebased, answer-rebased}
use Rattle.rebase.proofs.Recorded.{recorded-rebased}
use Rattle.written.specs.Written.{written, written_by}
use Rattle.written.specs.Shared.{is_shared}
use Rattle.rebase.specs.Rebase.{new_address}
use Rattle.written.specs.Moved.{Fresh, moved_module}
use Rattle.header.specs.Open.{summary_as}
use Rattle.frame.proofs.Open.{Reads, opened-reads, reads-opened}
use Rattle.rewritten.proofs.Parts.{ones, Moves}
use Rattle.rewritten.proofs.Address.{PlanFits, plan-fits, fresh, moves}
use Rattle.written.proofs.Found.{module-found, LoadableFound, loadable-found, tables-within}
use Rattle.rewritten.proofs.Stages.{clear, loader-clear}
use Rattle.rewritten.proofs.Read.{w6}
use Rattle.rewritten.proofs.Opens.{Ready, W, format-of, length-written}
use Rattle.written.specs.Changed.{Changed}
use Rattle.rewritten.proofs.Outside.{byte-kept}
use Rattle.rewritten.proofs.Loads.{module-parts}
use Rattle.rewritten.proofs.Loaded.{written-loadable}
use Rattle.written.proofs.Built.{length-built, length-built-text}
use Rattle.rewritten.proofs.Rebases.{relocatable-kept}
use Rattle.rewritten.proofs.Again.{again}
use Rattle.std.specs.Prelude.{Ok}

-- ---- what the checks of a module tell

module-one : (file : List ℕ) (y : Summary) → module_check file y ≡ Ok tt → one_each (tallies_of y) ≡ true
unfolding module_check
module-one file y e =
    let r = accepted-rest (refuse_if (ltb y.opthdr (aux_layout y.format).length) _) _ e in
    not-false (one_each (tallies_of y)) (accepted-test (not (one_each (tallies_of y))) _ (accepted-first (refuse_if (not (one_each (tallies_of y))) _) _ r))

module-long : (file : List ℕ) (y : Summary) → module_check file y ≡ Ok tt → (aux_layout y.format).length ≤ y.opthdr
unfolding module_check
module-long file y e =
    ltb-false y.opthdr (aux_layout y.format).length (accepted-test (ltb y.opthdr (aux_layout y.format).length) _ (accepted-first (refuse_if (ltb y.opthdr (aux_layout y.format).length) _) _ e))

with-format : (F : Format) (p : Parts) (a : _) → (module_with F p a).format ≡ F
unfolding module_with
with-format F p a = refl

with-parts : (F : Format) (p : Parts) (a : _) → (module_with F p a).parts ≡ p
unfolding module_with
with-parts F p a = refl

limit-of : (file : List ℕ) (l : Loadable) → limit_of (relocatable_of file l) ≡ address_limit l.layout.format
unfolding relocatable_of
limit-of file l = refl

data-long : (file : List ℕ) (l : Loadable) → Valid file l → (p : Plan) → length (take l.layout.parts.«data».size (built_images (relocatable_of file l) p).dat) ≡ l.layout.parts.«data».size
data-long file l v p = length-take-le l.layout.parts.«data».size (built_images (relocatable_of file l) p).dat (let h = v.sections.holds in omega (arith, length-built file l v p))

-- ---- all that the theorem rests on

module _ (file : List ℕ) (l : Loadable) (p : Plan) (f : Format) (r : Reads f file) (lf : LoadableFound file l) (v : Valid file l)
    (check : module_check file (summary_as f file) ≡ Ok tt) (is : module_with (summary_as f file).format (parts_of (summary_as f file)) (aux_of file (summary_as f file)) ≡ l.layout)
    (fit : PlanFits (relocatable_of file l) p) (apart : is_shared file (summary_as f file) l ≡ false) where
  abbrev y : Summary
  y = summary_as f file

  abbrev M : Relocatable
  M = relocatable_of file l

  format-is : l.layout.format ≡ y.format
  format-is = sym (ap (λ (m : Module). m.format) is) ∙ with-format y.format (parts_of y) (aux_of file y)

  limit_is : limit_of M ≡ address_limit f
  limit_is = limit-of file l ∙ ap address_limit (format-is ∙ format-of f file)

  parts_are : parts_of y ≡ l.layout.parts
  parts_are = sym (with-parts y.format (parts_of y) (aux_of file y)) ∙ ap (λ (m : Module). m.parts) is

  fits : (a : Followed) → Fresh (new_address M p) (limit_of M) a → Fresh (new_address M p) (address_limit f) a
  fits a h = subst (λ (n : ℕ). Fresh (new_address M p) n a) limit_is h

  fresh-text : Fresh (new_address M p) (address_limit f) followed.Text
  fresh-text = fits followed.Text (fresh M p fit 0 followed.Text (unfold address_check in refl))

  fresh-data : Fresh (new_address M p) (address_limit f) followed.Data
  fresh-data = fits followed.Data (fresh M p fit 0 followed.Data (unfold address_check in refl))

  fresh-none : Fresh (new_address M p) (address_limit f) followed.Nothing
  fresh-none = fits followed.Nothing (fresh M p fit 0 followed.Nothing (unfold address_check in refl))

  fresh-anchor : (q : Parts) (a : Anchor) → Fresh (new_address M p) (address_limit f) (anchor_follows q a)
  unfolding anchor_follows
  fresh-anchor q a = by-anchor (anchored q a)
    where
      by-anchor : (t : Anchored) → Fresh (new_address M p) (address_limit f) (anchor_by t)
      by-anchor none = fresh-none
      by-anchor (in_text x) = fresh-text
      by-anchor (in_data x) = fresh-data

  symbols-checked : (k : ℕ) → k < l.tables.nsyms → address_check (limit_of M) p.list (k + 3) (followed_at file l k) ≡ Ok tt
  symbols-checked k b = at_symbol (fit.imports k (rw count b))
    where
      count : length M.symbols ≡ l.tables.nsyms
      count = unfold relocatable_of in length_symbols file l 0 l.tables.nsyms

      at_symbol : import_check M p.list k ≡ Ok tt → address_check (limit_of M) p.list (k + 3) (followed_at file l k) ≡ Ok tt
      at_symbol e = unfold import_check relocatable_of in (rw (symbol-at file l l.tables.nsyms k b) at e)

  pub fresh-symbols : (k : ℕ) → k < l.tables.nsyms → Fresh (new_address M p) (address_limit f) (followed_at file l k)
  fresh-symbols k b = fits (followed_at file l k) (fresh M p fit (k + 3) (followed_at file l k) (symbols-checked k b))

  below : bss_below l.layout.parts ≡ false
  below = subst (λ (q : Parts). bss_below q ≡ false) parts_are (parts-image (parts_of y) (aux_of file y) (module-parts file y check)).0

  moved : Moves (new_address M p) (address_limit f) l.layout.parts
  moved =
      subst (λ (n : ℕ). Moves (new_address M p) n l.layout.parts) limit_is
      (moves M p fit l.layout.parts (unfold relocatable_of in refl) (unfold relocatable_of in refl) (unfold relocatable_of in length-raw-text file l v)
      (data-length ∙ v.sections.image) below)
    where
      data-length : length M.raw.dat ≡ l.layout.image
      data-length = unfold relocatable_of in length-raw-data file l v

  holding : l.layout.parts.«data».size ≤ image_length l.layout.parts
  holding = let h = v.sections.holds in let i = v.sections.image in omega arith

  pub ready : Ready (new_address M p) (built_images M p) file f l
  ready =
      record {
        reads = r;
        apart = clear file y l apart;
        loader_apart = loader-clear file y l apart;
        within = tables-within file l lf;
        format = format-is;
        long = module-long file y check;
        text_length = length-built-text file l v p;
        data_length = data-long file l v p;
        ones = ones y (module-one file y check);
        moves = subst (λ (q : Parts). Moves (new_address M p) (address_limit f) q) (sym parts_are) moved;
        holds = subst (λ (q : Parts). q.«data».size ≤ image_length q) (sym parts_are) holding;
        text = fresh-text;
        dat = fresh-data;
        still = fresh-none;
        is = is;
        check = check;
        entry = fresh-anchor l.layout.parts l.layout.entry;
        toc = fresh-anchor l.layout.parts l.layout.toc;
      }

-- ---- the theorems

-- the call is accepted up to ROOM 0: the module's refusals, the plan's checks, SHARED
pub record Writable (file : List ℕ) (l : Loadable) (p : Plan) : Type 0 where
  pub loads : loadable_at file ≡ Ok l
  pub plan : plan_check (relocatable_at file) p ≡ Ok tt
  pub apart : is_shared file (open_of file).summary l ≡ false

pub relocatable-is : (file : List ℕ) (l : Loadable) → loadable_at file ≡ Ok l → relocatable_at file ≡ relocatable_of file l
unfolding relocatable_at relocatable_by
relocatable-is file l e = rw e refl

-- each import has its own place in the list
pub own-places : (file : List ℕ) (l : Loadable) → OwnPlaces (relocatable_of file l)
unfolding relocatable_of
own-places file l j = by_place (dec_lt j l.tables.nsyms)
  where
    own : (f : Followed) → symbols.OwnPlace j f → OwnPlace j f
    own followed.Text o = o
    own followed.Data o = o
    own (followed.Import k v) o = o
    own followed.Nothing o = o

    by_place : Dec (j < l.tables.nsyms) → OwnPlace j (get_or (symbols_from file l 0 l.tables.nsyms) j followed.Nothing)
    by_place (yes b) = rw (symbol-at file l l.tables.nsyms j b) (own (followed_at file l j) (own-place-at file l j))
    by_place (no b) = rw (get_or-eq_default (symbols_from file l 0 l.tables.nsyms) followed.Nothing {n = j} (let n = length_symbols file l 0 l.tables.nsyms in omega arith)) tt

module _ (file : List ℕ) (l : Loadable) (p : Plan) (c : Writable file l p) where
  abbrev N : Followed → ℕ → ℕ
  N = new_address (relocatable_of file l) p

  abbrev Both : List ℕ → Type 0
  Both ws = (loadable_at ws ≡ Ok (record { layout = moved_module N l.layout; tables = l.tables })) × (relocatable_at ws ≡ rebased (relocatable_of file l) p)

  fitting : PlanFits (relocatable_of file l) p
  fitting = plan-fits (relocatable_of file l) p (rw (relocatable-is file l c.loads) at c.plan)

  written_is : (f : Format) → (open_of file).summary ≡ summary_as f file → written file l p ≡ w6 N (built_images (relocatable_of file l) p) file (summary_as f file) l
  written_is f q = unfold written written_by in ap (λ (y : Summary). w6 N (built_images (relocatable_of file l) p) file y l) q

  both : (f : Format) → Reads f file → Both (written file l p)
  both f r =
      let lf = loadable-found file l c.loads in
      let v = loadable-valid file l c.loads in
      let mf = module-found file l.layout lf.sections in
      let q : (open_of file).summary ≡ summary_as f file = ap (λ (o : Opened). o.summary) (reads-opened f file r) in
      let check = rw q at mf.check in
      let is = rw q at mf.is in
      let apart = rw q at c.apart in
      let g = ready file l p f r lf v check is fitting apart in
      let fs = fresh-symbols file l p f r lf v check is fitting apart in
      let found = written-loadable N (built_images (relocatable_of file l) p) file f l g lf v fs in
      subst (λ (ws : List ℕ). Both ws) (sym (written_is f q))
      (found, relocatable-is (W N (built_images (relocatable_of file l) p) file f l g) (record { layout = moved_module N l.layout; tables = l.tables }) found ∙ relocatable-kept file f l p fitting g lf v fs)

  answered : Both (written file l p)
  answered =
      let lf = loadable-found file l c.loads in
      let o = opened-reads file (module-found file l.layout lf.sections).opened in
      both o.0 o.1

  -- "Opened again": the module with the new addresses, and the same tables
  pub written-opens-again : loadable_at (written file l p) ≡ Ok (record { layout = moved_module (new_address (relocatable_of file l) p) l.layout; tables = l.tables })
  written-opens-again = answered.0

  -- to builds and moves it is the first file with the plan's addresses
  pub written-rebased : relocatable_at (written file l p) ≡ rebased (relocatable_at file) p
  written-rebased = answered.1 ∙ ap (λ (m : Relocatable). rebased m p) (sym (relocatable-is file l c.loads))

  -- "building it for any plan gives what the first file gives": every list of builds and moves
  pub written-runs : (cs : List Call) (x : Images) → run (relocatable_at (written file l p)) cs x ≡ run (relocatable_at file) cs x
  written-runs cs x = ap (λ (m : Relocatable). run m cs x) written-rebased ∙ run-rebased (relocatable_at file) p (relocatable-sound file) cs x

  -- and what each call answers: the verdict, the entry and the TOC address
  pub written-answers : (tl dl : ℕ) (k : Call) → answer_of (relocatable_at (written file l p)) tl dl k ≡ answer_of (relocatable_at file) tl dl k
  written-answers tl dl k =
      ap (λ (m : Relocatable). answer_of m tl dl k) written-rebased
      ∙ answer-rebased (relocatable_at file) p tl dl k

  -- "its recorded addresses are the plan's, ignored list places aside"
  pub written-recorded : SamePlan (relocatable_at file) (recorded_plan (relocatable_at (written file l p))) p
  written-recorded = rw written-rebased (recorded-rebased (relocatable_at file) p (rw (relocatable-is file l c.loads) (own-places file l)))

  -- "The length .."
  pub written-length : length (written file l p) ≡ length file
  written-length = by-format (opened-reads file (module-found file l.layout (loadable-found file l c.loads).sections).opened).0 (opened-reads file (module-found file l.layout (loadable-found file l c.loads).sections).opened).1
    where
      by-format : (f : Format) → Reads f file → length (written file l p) ≡ length file
      by-format f r =
          let lf = loadable-found file l c.loads in
          let v = loadable-valid file l c.loads in
          let mf = module-found file l.layout lf.sections in
          let q : (open_of file).summary ≡ summary_as f file = ap (λ (o : Opened). o.summary) (reads-opened f file r) in
          ap length (written_is f q) ∙ length-written N (built_images (relocatable_of file l) p) file f l (ready file l p f r lf v (rw q at mf.check) (rw q at mf.is) fitting (rw q at c.apart))

  -- ".. and every other byte stay"
  pub written_byte : (k : ℕ) → (Changed file (open_of file).summary l k → ⊥) → get_or (written file l p) k 0 ≡ get_or file k 0
  unfolding written
  written_byte k h =
      let v = loadable-valid file l c.loads in
      byte-kept N (built_images (relocatable_of file l) p) file (open_of file).summary l (length-built-text file l v p) (data-long file l v p) k h

  -- written for p and then for q, it is the file written for q
  pub written-again : (q : Plan) → written (written file l p) (record { layout = moved_module (new_address (relocatable_of file l) p) l.layout; tables = l.tables }) q ≡ written file l q
  written-again q =
      let o = opened-reads file (module-found file l.layout (loadable-found file l c.loads).sections).opened in
      by-format o.0 o.1
    where
      l' : Loadable
      l' = record { layout = moved_module N l.layout; tables = l.tables }

      sound : Sound (relocatable_of file l)
      sound = subst Sound (relocatable-is file l c.loads) (relocatable-sound file)

      for-q : (f : Format) → (open_of file).summary ≡ summary_as f file
          → written_by (new_address (relocatable_of file l) q) (built_images (relocatable_of file l) q) file (summary_as f file) l file ≡ written file l q
      for-q f e = unfold written in
          ap (λ (y : Summary). written_by (new_address (relocatable_of file l) q) (built_images (relocatable_of file l) q) file y l file) (sym e)

      by-format : (f : Format) → Reads f file → written (written file l p) l' q ≡ written file l q
      by-format f r =
          let lf = loadable-found file l c.loads in
          let v = loadable-valid file l c.loads in
          let mf = module-found file l.layout lf.sections in
          let e : (open_of file).summary ≡ summary_as f file = ap (λ (o : Opened). o.summary) (reads-opened f file r) in
          let check = rw e at mf.check in
          let is = rw e at mf.is in
          let apart = rw e at c.apart in
          let g = ready file l p f r lf v check is fitting apart in
          let fs = fresh-symbols file l p f r lf v check is fitting apart in
          ap (λ (ws : List ℕ). written ws l' q) (written_is f e) ∙ again file f l p q fitting g lf v fs sound ∙ for-q f e
