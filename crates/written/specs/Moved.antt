-- The records of a written file, from those of the first one.
use Rattle.std.specs.Prelude.{◌≡◌, ℕ, ◌<◌}
use Rattle.section.specs.declared.SectionHeader.{SectionHeader}
use Rattle.section.specs.declared.Section.{Section}
use Rattle.section_kind.specs.Kind.{flags_of}
use Rattle.auxiliary.specs.declared.AuxHeader.{AuxHeader}
use Rattle.parts.specs.declared.Part.{Part}
use Rattle.parts.specs.declared.Parts.{Parts}
use Rattle.module.specs.declared.Anchor.{Anchor}
use Rattle.module.specs.declared.Module.{Module}
use Rattle.loader_symbol.specs.declared.LoaderEntry.{LoaderEntry}
use Rattle.relocation.specs.declared.RelocationEntry.{RelocationEntry}
use Rattle.history.specs.declared.Followed.{Followed}
use Rattle.history.specs.declared.Followed.TheVariants as followed
use Rattle.written.specs.Written.{flag_follows, anchor_follows}

-- a new address fits where one is put in; else it is the old one
abbrev pub Fresh : (Followed → ℕ → ℕ) → ℕ → Followed → Type 0
Fresh new n followed.Text = (x : ℕ) → new followed.Text x < n
Fresh new n followed.Data = (x : ℕ) → new followed.Data x < n
Fresh new n (followed.Import k v) = (x : ℕ) → new (followed.Import k v) x < n
Fresh new n followed.Nothing = (x : ℕ) → new followed.Nothing x ≡ x

abbrev pub moved_header : (Followed → ℕ → ℕ) → Followed → SectionHeader → SectionHeader
moved_header new f h = record { paddr = record { 0 = new f h.paddr.0 }; vaddr = record { 0 = new f h.vaddr.0 }; size = h.size; scnptr = h.scnptr; relptr = h.relptr; lnnoptr = h.lnnoptr; nreloc = h.nreloc; nlnno = h.nlnno; flags = h.flags }

abbrev pub moved_section : (Followed → ℕ → ℕ) → Section → Section
moved_section new s =
    record {
      kind = s.kind;
      paddr = record { 0 = new (flag_follows (flags_of s.kind)) s.paddr.0 };
      vaddr = record { 0 = new (flag_follows (flags_of s.kind)) s.vaddr.0 };
      size = s.size;
      scnptr = s.scnptr;
      relptr = s.relptr;
      lnnoptr = s.lnnoptr;
      nreloc = s.nreloc;
      nlnno = s.nlnno;
      raw = s.raw;
    }

abbrev pub moved_aux : (Followed → ℕ → ℕ) → Followed → Followed → AuxHeader → AuxHeader
moved_aux new fe ft a =
    record {
      tsize = a.tsize;
      dsize = a.dsize;
      bsize = a.bsize;
      entry = record { 0 = new fe a.entry.0 };
      tstart = record { 0 = new followed.Text a.tstart.0 };
      dstart = record { 0 = new followed.Data a.dstart.0 };
      toc = record { 0 = new ft a.toc.0 };
      snentry = a.snentry;
      sntext = a.sntext;
      sndata = a.sndata;
      sntoc = a.sntoc;
      snloader = a.snloader;
      snbss = a.snbss;
    }

abbrev pub moved_part : (Followed → ℕ → ℕ) → Followed → Part → Part
moved_part new f p = record { number = p.number; address = record { 0 = new f p.address.0 }; size = p.size; start = p.start; raw = p.raw }

abbrev pub moved_parts : (Followed → ℕ → ℕ) → Parts → Parts
moved_parts new p =
    record { text = moved_part new followed.Text p.text; «data» = moved_part new followed.Data p.«data»; bss = moved_part new followed.Data p.bss; loader = p.loader }

abbrev pub moved_anchor : (Followed → ℕ → ℕ) → Parts → Anchor → Anchor
moved_anchor new p a = record { section = a.section; address = record { 0 = new (anchor_follows p a) a.address.0 } }

-- a module with the new addresses
abbrev pub moved_module : (Followed → ℕ → ℕ) → Module → Module
moved_module new m =
    record { format = m.format; parts = moved_parts new m.parts; image = m.image; entry = moved_anchor new m.parts m.entry; toc = moved_anchor new m.parts m.toc }

abbrev pub moved_entry : (Followed → ℕ → ℕ) → Followed → LoaderEntry → LoaderEntry
moved_entry new f e =
    record { name = e.name; value = new f e.value; scnum = e.scnum; smtype = e.smtype; smclas = e.smclas; ifile = e.ifile; parm = e.parm }

abbrev pub moved_relocation : (Followed → ℕ → ℕ) → Followed → RelocationEntry → RelocationEntry
moved_relocation new f e = record { address = record { 0 = new f e.address.0 }; symbol = e.symbol; rtype = e.rtype; scnum = e.scnum }
