-- The auxiliary header, which follows the file header.
use Rattle.std.specs.Prelude.{ℕ, Bool, ◌&&◌, List, eqb}
use Rattle.word.specs.Number.{field_in}
use Rattle.format.specs.declared.Format.{Format}
use Rattle.format.specs.Layout.{aux_layout, aux_numbers}
use Rattle.auxiliary.specs.declared.AuxHeader.{AuxHeader}
use Rattle.parts.specs.declared.Parts.{Parts}

-- the numbers of the auxiliary header at base
unfoldable pub aux_at : Format → ℕ → List ℕ → AuxHeader
aux_at f base file =
    record {
      tsize = field_in (aux_layout f).tsize base file;
      dsize = field_in (aux_layout f).dsize base file;
      bsize = field_in (aux_layout f).bsize base file;
      entry = record { 0 = field_in (aux_layout f).entry base file };
      tstart = record { 0 = field_in (aux_layout f).tstart base file };
      dstart = record { 0 = field_in (aux_layout f).dstart base file };
      toc = record { 0 = field_in (aux_layout f).toc base file };
      snentry = record { 0 = field_in aux_numbers.snentry base file };
      sntext = record { 0 = field_in aux_numbers.sntext base file };
      sndata = record { 0 = field_in aux_numbers.sndata base file };
      sntoc = record { 0 = field_in aux_numbers.sntoc base file };
      snloader = record { 0 = field_in aux_numbers.snloader base file };
      snbss = record { 0 = field_in aux_numbers.snbss base file };
    }

-- MODULE 2, where not: its section numbers are those of the headers
unfoldable pub numbers_agree : Parts → AuxHeader → Bool
numbers_agree p a =
    eqb a.sntext.0 p.text.number.0 && eqb a.sndata.0 p.«data».number.0
    && eqb a.snbss.0 p.bss.number.0 && eqb a.snloader.0 p.loader.number.0

-- MODULE 2, where not: its sizes, and the starts of text and data, are those of the headers
unfoldable pub sizes_agree : Parts → AuxHeader → Bool
sizes_agree p a =
    (eqb a.tsize p.text.size && eqb a.tstart.0 p.text.address.0)
    && (eqb a.dsize p.«data».size && eqb a.dstart.0 p.«data».address.0)
    && eqb a.bsize p.bss.size
