-- Which files are modules: MODULE 0, 1, THREAD, MODULE 2 to 4, ADDRESS of bss, LIMIT 4.
use Rattle.std.specs.Prelude.{ℕ, ◌+◌, ◌-◌, Bool, not, cond, ◌&&◌, ◌||◌, List, eqb, ltb, Err, Ok, Result}
use Rattle.format.specs.declared.Format.{Format}
use Rattle.format.specs.declared.SectionNumber.{SectionNumber}
use Rattle.format.specs.Layout.{header_layout, aux_layout}
use Rattle.format.specs.Limit.{data_image_limit}
use Rattle.refusal.specs.declared.Refusal.TheVariants as refusal
use Rattle.refusal.specs.declared.ModuleItem.TheVariants.{ShortAuxHeader, SectionSet, AuxHeaderDiffers, NoRawData, EntryOrToc}
use Rattle.refusal.specs.declared.AddressItem.TheVariants.{BssBelowData}
use Rattle.refusal.specs.declared.LimitItem.TheVariants.{DataImage}
use Rattle.refusal.specs.Order.{◌or_else◌, refuse_if, by_verdict}
use Rattle.header.specs.declared.Summary.{Summary}
use Rattle.header.specs.Open.{open_of}
use Rattle.auxiliary.specs.declared.AuxHeader.{AuxHeader}
use Rattle.parts.specs.declared.Part.{Part}
use Rattle.parts.specs.declared.Parts.{Parts}
use Rattle.module.specs.declared.Module.{Module}
use Rattle.parts.specs.Sections.{tallies_of, one_each, parts_of, thread_check}
use Rattle.auxiliary.specs.Auxiliary.{aux_at, numbers_agree, sizes_agree}
use Rattle.refusal.specs.declared.Refusal.{Refusal}
use Rattle.refusal.specs.Verdict.{Verdict}

-- MODULE 3: a size but no raw data
unfoldable pub lacks_data : Part → Bool
lacks_data p = not (eqb p.size 0) && not p.raw

-- MODULE 4, where not: an entry or TOC section number is 0, text or data
unfoldable pub is_anchor : Parts → SectionNumber → Bool
is_anchor p n = eqb n.0 0 || eqb n.0 p.text.number.0 || eqb n.0 p.«data».number.0

-- ADDRESS: a bss that is not empty starts below the end of data
unfoldable pub bss_below : Parts → Bool
bss_below p = not (eqb p.bss.size 0) && ltb p.bss.address.0 (p.«data».address.0 + p.«data».size)

-- the data image: the data bytes, zeros up to bss, then bss zeros; an empty bss adds nothing and its address is not compared
unfoldable pub image_length : Parts → ℕ
image_length p = cond (eqb p.bss.size 0) p.«data».size (p.bss.address.0 - p.«data».address.0 + p.bss.size)

-- MODULE 2, 3, 4, ADDRESS of bss, LIMIT 4: the sections p with the auxiliary header a
unfoldable pub parts_check : Parts → AuxHeader → Verdict
parts_check p a =
    refuse_if (not (numbers_agree p a && sizes_agree p a)) (refusal.Module AuxHeaderDiffers)
    or_else refuse_if (lacks_data p.text || lacks_data p.«data» || lacks_data p.loader) (refusal.Module NoRawData)
    or_else refuse_if (not (is_anchor p a.snentry && is_anchor p a.sntoc)) (refusal.Module EntryOrToc)
    or_else refuse_if (bss_below p) (refusal.Address (BssBelowData p.bss.number))
    or_else refuse_if (ltb data_image_limit (image_length p)) (refusal.Limit DataImage)

-- the auxiliary header follows the file header
unfoldable pub aux_of : List ℕ → Summary → AuxHeader
aux_of file y = aux_at y.format (header_layout y.format).length file

-- MODULE 0, 1, THREAD, then the sections
unfoldable pub module_check : List ℕ → Summary → Verdict
module_check file y =
    refuse_if (ltb y.opthdr (aux_layout y.format).length) (refusal.Module ShortAuxHeader)
    or_else refuse_if (not (one_each (tallies_of y))) (refusal.Module SectionSet)
    or_else thread_check y
    or_else parts_check (parts_of y) (aux_of file y)

unfoldable pub module_with : Format → Parts → AuxHeader → Module
module_with f p a =
    record {
      format = f;
      parts = p;
      image = image_length p;
      entry = record { section = a.snentry; address = a.entry };
      toc = record { section = a.sntoc; address = a.toc };
    }

unfoldable pub module_in : List ℕ → Summary → Result Module Refusal
module_in file y = by_verdict (module_check file y) (Ok (module_with y.format (parts_of y) (aux_of file y))) Err

-- opening's refusals come first
unfoldable pub module_at : List ℕ → Result Module Refusal
module_at file = by_verdict (open_of file).verdict (module_in file (open_of file).summary) Err
