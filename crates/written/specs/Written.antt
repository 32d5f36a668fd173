-- A module written back into its file for a plan. Each address that the file records follows text, data, an import or nothing; each that follows something is put in anew.
use Rattle.std.specs.Prelude.{Bool, true, false, cond, ◌||◌, List, ℕ, eqb, take}
use Rattle.std.proofs.lemmas.List.Edits.{sets}
use Rattle.word.specs.declared.Field.{Field}
use Rattle.word.specs.Number.{field_in}
use Rattle.section_kind.specs.declared.SectionKind.TheVariants as kind
use Rattle.section_kind.specs.Kind.{flags_of}
use Rattle.format.specs.declared.Format.{Format}
use Rattle.format.specs.Layout.{header_layout, section_layout, aux_layout, symbol_layout, relocation_layout}
use Rattle.file_header.specs.Header.{section_start}
use Rattle.header.specs.declared.Summary.{Summary}
use Rattle.header.specs.Open.{open_of}
use Rattle.parts.specs.declared.Parts.{Parts}
use Rattle.parts.specs.Sections.{flag_at}
use Rattle.module.specs.declared.Anchor.{Anchor}
use Rattle.module.specs.declared.Module.{Module}
use Rattle.loader_symbol.specs.Symbol as symbol
use Rattle.relocation.specs.declared.RelocationEntry.{RelocationEntry}
use Rattle.relocation.specs.Relocation as relocation
use Rattle.loadable.specs.declared.Loadable.{Loadable}
use Rattle.history.specs.declared.Followed.{Followed}
use Rattle.history.specs.declared.Followed.TheVariants as followed
use Rattle.history.specs.Images.{Images}
use Rattle.history.specs.Plan.{Plan, Anchored, built_images}
use Rattle.history.specs.Plan.Anchored.{none, in_text, in_data}
use Rattle.plan.specs.Relocatable.{followed_at, anchored, relocatable_of}
use Rattle.frame.specs.Change.{put_in, each_from}
use Rattle.rebase.specs.Rebase.{new_address}

-- ---- what each recorded address follows

-- of a section, by its kind's flag: bss moves with data
unfoldable pub flag_follows : ℕ → Followed
flag_follows flag =
    cond (eqb flag (flags_of kind.Text)) followed.Text
    (cond (eqb flag (flags_of kind.Data) || eqb flag (flags_of kind.Bss)) followed.Data
    followed.Nothing)

-- of the entry point or the TOC anchor
abbrev pub anchor_by : Anchored → Followed
anchor_by none = followed.Nothing
anchor_by (in_text a) = followed.Text
anchor_by (in_data a) = followed.Data

unfoldable pub anchor_follows : Parts → Anchor → Followed
anchor_follows p a = anchor_by (anchored p a)

-- of a relocation entry, whose field is in text or in data
unfoldable pub entry_follows : Parts → RelocationEntry → Followed
entry_follows p e = cond (eqb e.scnum p.text.number.0) followed.Text followed.Data

-- ---- an address put in

abbrev pub moves : Followed → Bool
moves followed.Text = true
moves followed.Data = true
moves (followed.Import k v) = true
moves followed.Nothing = false

-- the address at the place a of what starts at base, as `new` makes it of the file's; one that follows nothing stays
unfoldable pub put_address : (Followed → ℕ → ℕ) → List ℕ → Followed → Field → ℕ → List ℕ → List ℕ
put_address new file f a base bs = cond (moves f) (put_in a base (new f (field_in a base file)) bs) bs

-- ---- the changes

-- both addresses of a section header at base
unfoldable pub put_header : (Followed → ℕ → ℕ) → List ℕ → Format → Followed → ℕ → List ℕ → List ℕ
put_header new file fm f base bs = put_address new file f (section_layout fm).vaddr base (put_address new file f (section_layout fm).paddr base bs)

-- of section i + 1
unfoldable pub put_section : (Followed → ℕ → ℕ) → List ℕ → Summary → ℕ → List ℕ → List ℕ
put_section new file y i bs = put_header new file y.format (flag_follows (flag_at y.sections i)) (section_start y.format y.opthdr i) bs

-- the auxiliary header's starts of text and data, the entry point and the TOC anchor
unfoldable pub put_aux : (Followed → ℕ → ℕ) → List ℕ → Module → List ℕ → List ℕ
put_aux new file m bs =
    let a = aux_layout m.format in
    let base = (header_layout m.format).length in
    put_address new file followed.Text a.tstart base
    (put_address new file followed.Data a.dstart base
    (put_address new file (anchor_follows m.parts m.entry) a.entry base
    (put_address new file (anchor_follows m.parts m.toc) a.toc base bs)))

-- the value of the loader symbol with place k
unfoldable pub put_symbol : (Followed → ℕ → ℕ) → List ℕ → Loadable → ℕ → List ℕ → List ℕ
put_symbol new file l k bs = put_address new file (followed_at file l k) (symbol_layout l.layout.format).value (symbol.entry_start l.tables k) bs

-- the address of relocation entry i
unfoldable pub put_entry : (Followed → ℕ → ℕ) → List ℕ → Loadable → ℕ → List ℕ → List ℕ
put_entry new file l i bs =
    let f = l.layout.format in
    put_address new file (entry_follows l.layout.parts (relocation.entry_in file f l.tables i)) (relocation_layout f).address (relocation.entry_start f l.tables i) bs

-- the raw text and the raw data; the image's zeros behind the data are not in the file
unfoldable pub put_text : Images → Module → List ℕ → List ℕ
put_text x m bs = sets bs m.parts.text.start.0 x.text

unfoldable pub put_data : Images → Module → List ℕ → List ℕ
put_data x m bs = sets bs m.parts.«data».start.0 (take m.parts.«data».size x.dat)

-- ---- the file

-- all changes in the file with the summary y
unfoldable pub written_by : (Followed → ℕ → ℕ) → Images → List ℕ → Summary → Loadable → List ℕ → List ℕ
written_by new x file y l bs =
    each_from (put_entry new file l) 0 l.tables.nreloc
    (each_from (put_symbol new file l) 0 l.tables.nsyms
    (each_from (put_section new file y) 0 y.count
    (put_aux new file l.layout
    (put_data x l.layout
    (put_text x l.layout bs)))))

-- the module l in the file, written for the plan
unfoldable pub written : List ℕ → Loadable → Plan → List ℕ
written file l p = written_by (new_address (relocatable_of file l) p) (built_images (relocatable_of file l) p) file (open_of file).summary l file
