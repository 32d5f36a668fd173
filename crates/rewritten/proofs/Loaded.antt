-- The loader section and the entries of a written file are judged as before. Assumes nothing.
use mathlib.Core.Path.{◌≡◌, refl, sym, ◌∙◌, ap, subst}
use mathlib.Core.List.{List}
use Prim.Native.Nat.{ℕ, ◌+◌, ◌≤◌, ◌<◌}
use native.Mathlib.Decide.{ℕ_discrete}
use native.Mathlib.Omega.{arith}
use lib.ListN.{length}
use lib.Dec.{eqb}
use Rattle.word.proofs.Test.{either}
use Rattle.format.specs.declared.Format.{Format}
use Rattle.format.specs.declared.FileRange.{FileRange}
use Rattle.format.specs.declared.NameField.{NameField}
use Rattle.format.specs.declared.NameField.TheVariants.{Short, Offset}
use Rattle.format.specs.Layout.{loader_symbol_length, relocation_layout, address_limit}
use Rattle.format.specs.Range.{bytes_of}
use Rattle.refusal.proofs.Order.{accepted-rest, first-all}
use Rattle.parts.specs.declared.Parts.{Parts}
use Rattle.parts.specs.Sections.{parts_of}
use Rattle.module.specs.declared.Module.{Module}
use Rattle.module.specs.Module.{image_length, module_with, aux_of}
use Rattle.loader_header.specs.declared.LoaderTables.{LoaderTables}
use Rattle.loader_header.specs.Header.{loader_header_at, tables_of, header_check, places_check}
use Rattle.loader_symbol.specs.declared.LoaderEntry.{LoaderEntry}
use Rattle.loader_symbol.specs.Symbol as symbol
use Rattle.loader.specs.Loader.{tables_in, symbols_check, loader_check}
use Rattle.relocation.specs.declared.RelocationEntry.{RelocationEntry}
use Rattle.relocation.specs.Relocation as relocation
use Rattle.relocation.proofs.Entries.{own_held, entry_whole}
use Rattle.loadable.specs.declared.Loadable.{Loadable}
use Rattle.loader_entries.specs.Entries.{entry_check, entries_check}
use Rattle.loadable.specs.Loadable.{loadable_at}
use Rattle.loadable.specs.Valid.{Valid}
use Rattle.history.specs.declared.Followed.{Followed}
use Rattle.history.specs.Images.{Images}
use Rattle.plan.specs.Relocatable.{followed_at}
use Rattle.frame.specs.Same.{Same}
use Rattle.written.specs.Written.{put_symbol, put_entry, entry_follows}
use Rattle.written.specs.Moved.{Fresh, moved_parts, moved_module, moved_entry, moved_relocation}
use Rattle.frame.proofs.Readers.{loader-header-same, loader-entry-same, relocation-same, string-same}
use Rattle.header.specs.Open.{summary_as}
use Rattle.frame.proofs.Open.{first-same, accept-all}
use Rattle.rewritten.proofs.Fields.{symbol-put, relocation-put}
use Rattle.rewritten.proofs.Parts.{Moves}
use Rattle.rewritten.proofs.Entries.{own-moved, place-moved, meets-same, placed-moved}
use Rattle.written.proofs.Found.{LoadableFound, loadable-at, tables-are}
use Rattle.rewritten.proofs.Read.{w4, w5, length4, length5, loader-read, ids-read, names-read, symbol-read, symbol-before, entry_read, entry-before}
use Rattle.rewritten.proofs.Opens.{Ready, W}
use Rattle.rewritten.proofs.Loads.{same_format, written-module}
use Rattle.std.specs.Prelude.{Ok}

-- whether a name lies anywhere depends on the string table alone
found-same : (r : FileRange) (base i : ℕ) (a : NameField) {xs ys : List ℕ} → Same r.start.0 r.length xs ys → symbol.is_found (symbol.name_in xs r base i a) ≡ symbol.is_found (symbol.name_in ys r base i a)
unfolding symbol.name_in
found-same r base i Short e = refl
found-same r base i (Offset o) e = ap symbol.is_found (string-same r o i e)

parts-of : (f : Format) (p : Parts) (a : _) → (module_with f p a).parts ≡ p
unfolding module_with
parts-of f p a = refl

module _ (new : Followed → ℕ → ℕ) (x : Images) (file : List ℕ) (f : Format) (l : Loadable) (g : Ready new x file f l)
    (lf : LoadableFound file l) (v : Valid file l) (fs : (k : ℕ) → k < l.tables.nsyms → Fresh new (address_limit f) (followed_at file l k)) where
  abbrev ws : List ℕ
  ws = W new x file f l g

  abbrev m : Module
  m = l.layout

  abbrev t : LoaderTables
  t = l.tables

  abbrev F : Format
  F = l.layout.format

  abbrev start : ℕ
  start = l.layout.parts.loader.start.0

  fits : (a : Followed) → Fresh new (address_limit f) a → Fresh new (address_limit F) a
  fits a k = subst (λ (q : Format). Fresh new (address_limit q) a) (sym (same_format new x file f l g)) k

  parts-eq : parts_of (summary_as f file) ≡ m.parts
  parts-eq = sym (parts-of (summary_as f file).format (parts_of (summary_as f file)) (aux_of file (summary_as f file))) ∙ ap (λ (n : Module). n.parts) g.is

  pub moves : Moves new (address_limit f) m.parts
  moves = subst (λ (p : Parts). Moves new (address_limit f) p) parts-eq g.moves

  pub holds : m.parts.«data».size ≤ image_length m.parts
  holds = subst (λ (p : Parts). p.«data».size ≤ image_length p) parts-eq g.holds

  -- ---- the loader section

  loader-header : loader_header_at F start ws ≡ loader_header_at F start file
  loader-header = loader-header-same F start (loader-read new x file (summary_as f file) l g.apart g.loader_apart g.within g.format g.long g.text_length g.data_length)

  ids-kept : bytes_of ws (tables_of F start (loader_header_at F start file)).ids ≡ bytes_of file (tables_of F start (loader_header_at F start file)).ids
  ids-kept =
      subst (λ (t : LoaderTables). bytes_of ws t.ids ≡ bytes_of file t.ids) (sym (tables-are file m ∙ lf.tables))
      (ids-read new x file (summary_as f file) l g.apart g.loader_apart g.within g.format g.long g.text_length g.data_length).bytes

  header-kept : header_check ws F start m.parts.loader.size ≡ header_check file F start m.parts.loader.size
  unfolding header_check places_check
  header-kept = rw (loader-header, ids-kept) refl

  pub tables-kept : tables_in ws (moved_module new m) ≡ t
  tables-kept = again ∙ lf.tables
    where
      again : tables_in ws (moved_module new m) ≡ tables_in file m
      again = unfold tables_in in ap (tables_of F start) loader-header

  -- ---- a loader symbol

  module _ (k : ℕ) (b : k < t.nsyms) where
    abbrev base : ℕ
    base = symbol.entry_start t k

    symbol-room : base + loader_symbol_length ≤ length (w4 new x file (summary_as f file) l)
    symbol-room =
        subst (λ (n : ℕ). base + loader_symbol_length ≤ n) (sym (length4 new x file (summary_as f file) l g.apart g.loader_apart g.within g.format g.long g.text_length g.data_length))
        (omega (arith, v.loader.tables.symbols))

    pub symbol-moved : symbol.entry_at F base ws ≡ moved_entry new (followed_at file l k) (symbol.entry_at F base file)
    unfolding put_symbol
    symbol-moved =
        let before = symbol-before new x file (summary_as f file) l g.apart g.loader_apart g.within g.format g.long g.text_length g.data_length k b in
        loader-entry-same F base (symbol-read new x file (summary_as f file) l g.apart g.loader_apart g.within g.format g.long g.text_length g.data_length k b)
        ∙ symbol-put new file F (followed_at file l k) base (w4 new x file (summary_as f file) l) symbol-room (fits (followed_at file l k) (fs k b)) before
        ∙ ap (moved_entry new (followed_at file l k)) (sym (loader-entry-same F base before))

    entry_kept : (e : LoaderEntry) (a : Followed) → symbol.entry_check ws F (moved_parts new m.parts) t k (moved_entry new a e) ≡ symbol.entry_check file F m.parts t k e
    unfolding symbol.entry_check
    entry_kept e a =
        rw (
          placed-moved new m.parts t.nimpid a e,
          found-same t.strings base (k + 3) e.name (names-read new x file (summary_as f file) l g.apart g.loader_apart g.within g.format g.long g.text_length g.data_length),
        ) refl

    symbol-kept : symbol.symbol_check ws F (moved_parts new m.parts) t k ≡ symbol.symbol_check file F m.parts t k
    unfolding symbol.symbol_check
    symbol-kept = ap (symbol.entry_check ws F (moved_parts new m.parts) t k) symbol-moved ∙ entry_kept (symbol.entry_at F base file) (followed_at file l k)

  symbols-kept : symbols_check ws (moved_module new m) t ≡ symbols_check file m t
  unfolding symbols_check
  symbols-kept = first-same (symbol.symbol_check ws F (moved_parts new m.parts) t) (symbol.symbol_check file F m.parts t) 0 t.nsyms (λ k b. symbol-kept k (omega arith))

  loader-pass : loader_check ws (moved_module new m) ≡ Ok tt
  unfolding loader_check
  loader-pass = rw (header-kept, tables-kept, symbols-kept, sym lf.tables) lf.check

  -- ---- a relocation entry

  module _ (i : ℕ) (b : i < t.nreloc) where
    abbrev ebase : ℕ
    ebase = relocation.entry_start F t i

    abbrev e : RelocationEntry
    e = relocation.entry_in file F t i

    entry-fresh : Fresh new (address_limit f) (entry_follows m.parts e)
    unfolding entry_follows
    entry-fresh = either (λ a. Fresh new (address_limit f) a) (eqb e.scnum m.parts.text.number.0) (λ _. g.text) (λ _. g.dat)

    entry-room : ebase + (relocation_layout F).length ≤ length (w5 new x file (summary_as f file) l)
    entry-room =
        subst (λ (n : ℕ). ebase + (relocation_layout F).length ≤ n) (sym (length5 new x file (summary_as f file) l g.apart g.loader_apart g.within g.format g.long g.text_length g.data_length))
        (entry_whole t.relocations.0 (relocation_layout F).length i t.nreloc (length file) b v.loader.relocations)

    pub entry-moved : relocation.entry_in ws F t i ≡ moved_relocation new (entry_follows m.parts e) e
    unfolding relocation.entry_in put_entry
    entry-moved =
        let before = entry-before new x file (summary_as f file) l g.apart g.loader_apart g.within g.format g.long g.text_length g.data_length i b in
        relocation-same F ebase (entry_read new x file (summary_as f file) l g.apart g.loader_apart g.within g.format g.long g.text_length g.data_length i b)
        ∙ relocation-put new file F (entry_follows m.parts e) ebase (w5 new x file (summary_as f file) l) entry-room (fits (entry_follows m.parts e) entry-fresh) before
        ∙ ap (moved_relocation new (entry_follows m.parts e)) (sym (relocation-same F ebase before))

    own-known : relocation.own_check F m.parts t.nsyms i e ≡ Ok tt
    own-known = unfold relocation.own_at in v.own i b

    own-pass : relocation.own_at ws F (moved_parts new m.parts) t i ≡ Ok tt
    unfolding relocation.own_at
    own-pass = ap (relocation.own_check F (moved_parts new m.parts) t.nsyms i) entry-moved ∙ own-moved new (address_limit f) m.parts moves holds F t.nsyms i e own-known

    -- it names the same field
    pub place_kept : relocation.place_at ws F (moved_parts new m.parts) t i ≡ relocation.place_at file F m.parts t i
    unfolding relocation.place_at
    place_kept =
        ap (relocation.place_of (moved_parts new m.parts)) entry-moved
        ∙ place-moved new (address_limit f) m.parts moves holds e (own_held F m.parts t.nsyms i e own-known) (ℕ_discrete e.scnum m.parts.text.number.0)

  entry-pass : (i : ℕ) → i < t.nreloc → entry_check ws F (moved_parts new m.parts) t i ≡ Ok tt
  unfolding entry_check
  entry-pass i b =
      let apart = meets-same (relocation.place_at ws F (moved_parts new m.parts) t) (relocation.place_at file F m.parts t) i (λ j c. place_kept j (omega arith)) in
      rw (own-pass i b, apart)
      (accepted-rest (relocation.own_at file F m.parts t i) _ (first-all (entry_check file F m.parts t) t.nreloc 0 (unfold entries_check in lf.entries) i (omega arith) (omega arith)))

  entries-pass : entries_check ws F (moved_parts new m.parts) t ≡ Ok tt
  unfolding entries_check
  entries-pass = accept-all (entry_check ws F (moved_parts new m.parts) t) 0 t.nreloc (λ i b. entry-pass i (omega arith))

  -- a written file is a loadable module, with the new addresses
  pub written-loadable : loadable_at ws ≡ Ok (record { layout = moved_module new m; tables = t })
  written-loadable =
      loadable-at ws (record { layout = moved_module new m; tables = t })
      (record { sections = written-module new x file f l g; check = loader-pass; tables = tables-kept; entries = entries-pass })
