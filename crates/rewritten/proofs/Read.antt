-- What each reader finds in a written file: the first file's bytes, or its own change of them. Assumes nothing.
use mathlib.Core.Path.{◌≡◌, refl, sym, ◌∙◌, subst}
use mathlib.Core.Logic.{◌⊎◌, inl, inr}
use mathlib.Core.List.{List, [], ◌∷◌}
use Prim.Native.Nat.{ℕ, ◌+◌, ◌*◌, ◌≤◌, ◌<◌}
use native.Mathlib.Decide.{dec_lt}
use native.Mathlib.Omega.{arith}
use lib.ListN.{length, take, drop, get_or-eq_default}
use lib.Seq.{sets}
use Rattle.format.specs.declared.FileRange.{FileRange}
use Rattle.format.specs.Layout.{header_layout, section_layout, aux_layout, loader_layout, loader_symbol_length, relocation_layout}
use Rattle.format.specs.Range.{range, bytes_of}
use Rattle.update.proofs.Stores.{part-stored}
use Rattle.file_header.specs.Header.{section_start}
use Rattle.header.specs.declared.Summary.{Summary}
use Rattle.module.specs.Inside.{PartInside}
use Rattle.loader_symbol.specs.Symbol as symbol
use Rattle.relocation.specs.Relocation as relocation
use Rattle.loadable.specs.declared.Loadable.{Loadable}
use Rattle.history.specs.declared.Followed.{Followed}
use Rattle.history.specs.Images.{Images}
use Rattle.frame.specs.Same.{Same}
use Rattle.shared_range.specs.Shared.{Holds, Disjoint}
use Rattle.frame.specs.Change.{each_from, Local}
use Rattle.written.specs.Written.{put_section, put_aux, put_symbol, put_entry, put_text, put_data}
use Rattle.written.specs.Shared.{part_range, header_range, strings_size}
use Rattle.frame.proofs.Same.{same_bytes_lem, same-trans, same-sym}
use Rattle.frame.proofs.Change.{stored-local, local-apart, each_local, each-entry}
use Rattle.written.proofs.Found.{Within, TablesWithin}
use Rattle.rewritten.proofs.Stages.{Clear, LoaderClear, symbol_table_range, entry_table_range, flip, sub, whole, section_range, symbol_range, entry_range, entries-alone, entries-within, section-local, symbol-local, entry-local, aux-local}

-- bytes stored are read back; none are anywhere
stored : (start n : ℕ) (vs bs : List ℕ) → length vs ≡ n → (0 < n → start + n ≤ length bs) → Dec (0 < n) → take n (drop start (sets bs start vs)) ≡ vs
stored start n vs bs e h (yes p) = part-stored bs start n vs e (h p)
stored start n [] bs e h (no p) = rw (sym e) refl
stored start n (v ∷ vs) bs e h (no p) = absurd (omega arith)

module _ (new : Followed → ℕ → ℕ) (x : Images) (file : List ℕ) (y : Summary) (l : Loadable) where
  -- the file after each change
  abbrev pub w1 : List ℕ
  w1 = put_text x l.layout file

  abbrev pub w2 : List ℕ
  w2 = put_data x l.layout w1

  abbrev pub w3 : List ℕ
  w3 = put_aux new file l.layout w2

  abbrev pub w4 : List ℕ
  w4 = each_from (put_section new file y) 0 y.count w3

  abbrev pub w5 : List ℕ
  w5 = each_from (put_symbol new file l) 0 l.tables.nsyms w4

  abbrev pub w6 : List ℕ
  w6 = each_from (put_entry new file l) 0 l.tables.nreloc w5

  abbrev aux_range : FileRange
  aux_range = range (header_layout l.layout.format).length (aux_layout l.layout.format).length

  abbrev sections_range : FileRange
  sections_range = range ((header_layout y.format).length + y.opthdr) (y.count * (section_layout y.format).length)

  module _ (c : Clear file y l) (d : LoaderClear l) (w : TablesWithin l) (fm : l.layout.format ≡ y.format) (long : (aux_layout y.format).length ≤ y.opthdr)
      (xt : length x.text ≡ l.layout.parts.text.size) (xd : length (take l.layout.parts.«data».size x.dat) ≡ l.layout.parts.«data».size) where
    -- ---- each change is in its range

    text-local : Local (part_range l.layout.parts.text) (λ bs. put_text x l.layout bs)
    unfolding put_text
    text-local = subst (λ (n : ℕ). Local (range l.layout.parts.text.start.0 n) (λ bs. sets bs l.layout.parts.text.start.0 x.text)) xt (stored-local l.layout.parts.text.start.0 x.text)

    data-local : Local (part_range l.layout.parts.«data») (λ bs. put_data x l.layout bs)
    unfolding put_data
    data-local =
        let v = take l.layout.parts.«data».size x.dat in
        subst (λ (n : ℕ). Local (range l.layout.parts.«data».start.0 n) (λ bs. sets bs l.layout.parts.«data».start.0 v)) xd (stored-local l.layout.parts.«data».start.0 v)

    section-in : (i : ℕ) → i < y.count → Within (section_range y i) sections_range
    unfolding section_start
    section-in i h = entries-within ((header_layout y.format).length + y.opthdr) (section_layout y.format).length y.count i h

    sections-local : Local sections_range (λ bs. each_from (put_section new file y) 0 y.count bs)
    sections-local = each_local (section_range y) (put_section new file y) (section-local new file y) sections_range y.count section-in

    symbol-in : (k : ℕ) → k < l.tables.nsyms → Within (symbol_range l k) (symbol_table_range l)
    symbol-in k h = entries-within l.tables.symbols.0 loader_symbol_length l.tables.nsyms k h

    symbols-local : Local (symbol_table_range l) (λ bs. each_from (put_symbol new file l) 0 l.tables.nsyms bs)
    symbols-local = each_local (symbol_range l) (put_symbol new file l) (symbol-local new file l) (symbol_table_range l) l.tables.nsyms symbol-in

    entry_in_lem : (i : ℕ) → i < l.tables.nreloc → Within (entry_range l i) (entry_table_range l)
    entry_in_lem i h = entries-within l.tables.relocations.0 (relocation_layout l.layout.format).length l.tables.nreloc i h

    entries-local : Local (entry_table_range l) (λ bs. each_from (put_entry new file l) 0 l.tables.nreloc bs)
    entries-local = each_local (entry_range l) (put_entry new file l) (entry-local new file l) (entry_table_range l) l.tables.nreloc entry_in_lem

    -- ---- lengths

    pub length2 : length w2 ≡ length file
    length2 = data-local.keeps w1 ∙ text-local.keeps file

    pub length3 : length w3 ≡ length file
    length3 = (aux-local new file l.layout).keeps w2 ∙ length2

    pub length4 : length w4 ≡ length file
    length4 = sections-local.keeps w3 ∙ length3

    pub length5 : length w5 ≡ length file
    length5 = symbols-local.keeps w4 ∙ length4

    pub length6 : length w6 ≡ length file
    length6 = entries-local.keeps w5 ∙ length5

    -- ---- where the ranges lie

    aux-header : Within aux_range (header_range y)
    unfolding section_start
    aux-header k h = let a = h.low in let b = (rw fm at h).high in record { low = omega arith; high = omega arith }

    sections-header : Within sections_range (header_range y)
    unfolding section_start
    sections-header k h = let a = h.low in let b = h.high in record { low = omega arith; high = omega arith }

    aux-sections : Disjoint aux_range sections_range
    aux-sections = record { none = λ k h g. let a = (rw fm at h).high in let b = g.low in omega arith }

    -- what the changes leave of a range: none of them, or all but its own
    module _ (start n : ℕ) where
      abbrev R : FileRange
      R = range start n

      pub keep1 : Disjoint (part_range l.layout.parts.text) R → Same start n w1 file
      keep1 a = local-apart start n text-local a file

      pub keep2 : Disjoint (part_range l.layout.parts.«data») R → Same start n w2 w1
      keep2 a = local-apart start n data-local a w1

      pub keep3 : Disjoint aux_range R → Same start n w3 w2
      keep3 a = local-apart start n (aux-local new file l.layout) a w2

      pub keep4 : Disjoint sections_range R → Same start n w4 w3
      keep4 a = local-apart start n sections-local a w3

      pub keep5 : Disjoint (symbol_table_range l) R → Same start n w5 w4
      keep5 a = local-apart start n symbols-local a w4

      pub keep6 : Disjoint (entry_table_range l) R → Same start n w6 w5
      keep6 a = local-apart start n entries-local a w5

      -- a range in the header area
      module _ (h : Within R (header_range y)) where
        header12 : Same start n w2 file
        header12 = same-trans (keep2 (flip (sub R (part_range l.layout.parts.«data») h (whole _) c.header-data))) (keep1 (flip (sub R (part_range l.layout.parts.text) h (whole _) c.header-text)))

        header56 : Same start n w6 w4
        header56 = same-trans (keep6 (flip (sub R (entry_table_range l) h w.relocations c.header-loader))) (keep5 (flip (sub R (symbol_table_range l) h w.symbols c.header-loader)))

      -- a range in the loader section
      module _ (h : Within R (part_range l.layout.parts.loader)) where
        loader14 : Same start n w4 file
        loader14 =
            same-trans (keep4 (sub sections_range R sections-header h c.header-loader)) (same-trans (keep3 (sub aux_range R aux-header h c.header-loader))
            (same-trans (keep2 (sub (part_range l.layout.parts.«data») R (whole _) h c.data-loader)) (keep1 (sub (part_range l.layout.parts.text) R (whole _) h c.text-loader))))

        -- apart from its symbols and entries
        pub loader-still : Disjoint (symbol_table_range l) R → Disjoint (entry_table_range l) R → Same start n w6 file
        loader-still a b = same-trans (keep6 b) (same-trans (keep5 a) loader14)

    -- ---- what is read

    -- the file header
    header-first : Within (range 0 (header_layout y.format).length) (header_range y)
    unfolding section_start
    header-first k h = let a = h.high in record { low = omega arith; high = omega arith }

    pub header_read : Same 0 (header_layout y.format).length w6 file
    header_read =
        let n = (header_layout y.format).length in
        same-trans (header56 0 n header-first)
        (same-trans (keep4 0 n (record { none = λ k g h. let a = g.low in let b = h.high in omega arith }))
        (same-trans (keep3 0 n (record { none = λ k g h. let a = (rw fm at g).low in let b = h.high in omega arith })) (header12 0 n header-first)))

    -- a section header
    module _ (i : ℕ) (b : i < y.count) where
      abbrev s : ℕ
      s = section_start y.format y.opthdr i

      abbrev n : ℕ
      n = (section_layout y.format).length

      in-header : Within (section_range y i) (header_range y)
      in-header k h = sections-header k (section-in i b k h)

      alone : (i j x : ℕ) → Holds (section_range y i) x → Holds (section_range y j) x → i ≡ j
      unfolding section_start
      alone = entries-alone ((header_layout y.format).length + y.opthdr) (section_layout y.format).length

      pub section-read : Same s n w6 (put_section new file y i w3)
      section-read = same-trans (header56 s n in-header) (each-entry (section_range y) (put_section new file y) (section-local new file y) alone y.count w3 i b)

      pub section-before : Same s n file w3
      section-before = same-sym (same-trans (keep3 s n (sub aux_range (section_range y i) (whole _) (section-in i b) aux-sections)) (header12 s n in-header))

    -- the auxiliary header
    pub aux-read : Same (header_layout l.layout.format).length (aux_layout l.layout.format).length w6 w3
    aux-read =
        let s = (header_layout l.layout.format).length in
        let n = (aux_layout l.layout.format).length in
        same-trans (header56 s n aux-header) (keep4 s n (flip aux-sections))

    pub aux-before : Same (header_layout l.layout.format).length (aux_layout l.layout.format).length file w2
    aux-before = same-sym (header12 (header_layout l.layout.format).length (aux_layout l.layout.format).length aux-header)

    -- the loader header, the ids and the strings
    pub loader-read : Same l.layout.parts.loader.start.0 (loader_layout l.layout.format).length w6 file
    loader-read = loader-still l.layout.parts.loader.start.0 (loader_layout l.layout.format).length w.header (flip d.header-symbols) (flip d.header-entries)

    pub ids-read : Same l.tables.ids.start.0 l.tables.ids.length w6 file
    ids-read = loader-still l.tables.ids.start.0 l.tables.ids.length w.ids d.symbols-ids d.entries-ids

    pub names-read : Same l.tables.strings.start.0 l.tables.strings.length w6 file
    names-read = loader-still l.tables.strings.start.0 l.tables.strings.length w.strings d.symbols-strings d.entries-strings

    -- a loader symbol
    module _ (k : ℕ) (b : k < l.tables.nsyms) where
      pub symbol-read : Same (symbol.entry_start l.tables k) loader_symbol_length w6 (put_symbol new file l k w4)
      symbol-read =
          same-trans (keep6 (symbol.entry_start l.tables k) loader_symbol_length (flip (sub (symbol_range l k) (entry_table_range l) (symbol-in k b) (whole _) d.symbols-entries)))
          (each-entry (symbol_range l) (put_symbol new file l) (symbol-local new file l) (entries-alone l.tables.symbols.0 loader_symbol_length) l.tables.nsyms w4 k b)

      pub symbol-before : Same (symbol.entry_start l.tables k) loader_symbol_length file w4
      symbol-before = same-sym (loader14 (symbol.entry_start l.tables k) loader_symbol_length (λ j h. w.symbols j (symbol-in k b j h)))

    -- a relocation entry
    module _ (i : ℕ) (b : i < l.tables.nreloc) where
      abbrev es : ℕ
      es = relocation.entry_start l.layout.format l.tables i

      abbrev en : ℕ
      en = (relocation_layout l.layout.format).length

      pub entry_read : Same es en w6 (put_entry new file l i w5)
      entry_read = each-entry (entry_range l) (put_entry new file l) (entry-local new file l) (entries-alone l.tables.relocations.0 (relocation_layout l.layout.format).length) l.tables.nreloc w5 i b

      pub entry-before : Same es en file w5
      entry-before =
          same-sym (same-trans (keep5 es en (sub (symbol_table_range l) (entry_range l i) (whole _) (entry_in_lem i b) d.symbols-entries))
          (loader14 es en (λ j h. w.relocations j (entry_in_lem i b j h))))

    -- the string table's four length bytes, or nothing where the file ends
    pub strings-read : (y.symbols.strings.start.0 ≡ length file) ⊎ (4 ≤ strings_size (length file) y) → Same y.symbols.strings.start.0 4 w6 file
    strings-read (inl e) =
        same_bytes_lem y.symbols.strings.start.0 4 w6 file length6
        (λ k a b. get_or-eq_default w6 0 (let q = length6 in omega arith) ∙ sym (get_or-eq_default file 0 (omega arith)))
    strings-read (inr h) =
        let start = y.symbols.strings.start.0 in
        let inside : Within (range start 4) (range start (strings_size (length file) y)) = λ k g. let a = g.low in let b = g.high in record { low = a; high = omega arith } in
        same-trans (keep6 start 4 (sub (entry_table_range l) (range start 4) w.relocations inside c.loader-strings))
        (same-trans (keep5 start 4 (sub (symbol_table_range l) (range start 4) w.symbols inside c.loader-strings))
        (same-trans (keep4 start 4 (sub sections_range (range start 4) sections-header inside c.header-strings))
        (same-trans (keep3 start 4 (sub aux_range (range start 4) aux-header inside c.header-strings))
        (same-trans (keep2 start 4 (sub (part_range l.layout.parts.«data») (range start 4) (whole _) inside c.data-strings))
        (keep1 start 4 (sub (part_range l.layout.parts.text) (range start 4) (whole _) inside c.text-strings))))))

    -- the raw text and the raw data
    pub text-read : PartInside (length file) l.layout.parts.text → bytes_of w6 (part_range l.layout.parts.text) ≡ x.text
    text-read h =
        let r = part_range l.layout.parts.text in
        let s = l.layout.parts.text.start.0 in
        let n = l.layout.parts.text.size in
        (same-trans (keep6 s n (flip (sub r (entry_table_range l) (whole _) w.relocations c.text-loader)))
        (same-trans (keep5 s n (flip (sub r (symbol_table_range l) (whole _) w.symbols c.text-loader)))
        (same-trans (keep4 s n (sub sections_range r sections-header (whole _) c.header-text))
        (same-trans (keep3 s n (sub aux_range r aux-header (whole _) c.header-text)) (keep2 s n (flip c.text-data)))))).bytes
        ∙ (unfold put_text in stored s n x.text file xt h (dec_lt 0 n))

    pub data-read : PartInside (length file) l.layout.parts.«data» → bytes_of w6 (part_range l.layout.parts.«data») ≡ take l.layout.parts.«data».size x.dat
    data-read h =
        let r = part_range l.layout.parts.«data» in
        let s = l.layout.parts.«data».start.0 in
        let n = l.layout.parts.«data».size in
        (same-trans (keep6 s n (flip (sub r (entry_table_range l) (whole _) w.relocations c.data-loader)))
        (same-trans (keep5 s n (flip (sub r (symbol_table_range l) (whole _) w.symbols c.data-loader)))
        (same-trans (keep4 s n (sub sections_range r sections-header (whole _) c.header-data))
        (keep3 s n (sub aux_range r aux-header (whole _) c.header-data))))).bytes
        ∙ (unfold put_data in stored s n (take n x.dat) w1 xd (rw (text-local.keeps file) h) (dec_lt 0 n))
