use lib.ListN.{length}
use Rattle.format.proofs.Layouts.{section-inside}
use Rattle.section.specs.Section.{section_header_at}
use Rattle.section.proofs.read_section_header.Goals as goal

pub read_field-requires : goal.read_field-requires
read_field-requires c = (section-inside c.args.f c.args.base (length c.args.file.now) c.section_layout-l.ensures c.requires).paddr

pub read_field-requires-2 : goal.read_field-requires-2
read_field-requires-2 c = (section-inside c.args.f c.args.base (length c.args.file.now) c.section_layout-l.ensures c.requires).vaddr

pub read_field-requires-3 : goal.read_field-requires-3
read_field-requires-3 c = (section-inside c.args.f c.args.base (length c.args.file.now) c.section_layout-l.ensures c.requires).size

pub read_field-requires-4 : goal.read_field-requires-4
read_field-requires-4 c = (section-inside c.args.f c.args.base (length c.args.file.now) c.section_layout-l.ensures c.requires).scnptr

pub read_field-requires-5 : goal.read_field-requires-5
read_field-requires-5 c = (section-inside c.args.f c.args.base (length c.args.file.now) c.section_layout-l.ensures c.requires).relptr

pub read_field-requires-6 : goal.read_field-requires-6
read_field-requires-6 c = (section-inside c.args.f c.args.base (length c.args.file.now) c.section_layout-l.ensures c.requires).lnnoptr

pub read_field-requires-7 : goal.read_field-requires-7
read_field-requires-7 c = (section-inside c.args.f c.args.base (length c.args.file.now) c.section_layout-l.ensures c.requires).nreloc

pub read_field-requires-8 : goal.read_field-requires-8
read_field-requires-8 c = (section-inside c.args.f c.args.base (length c.args.file.now) c.section_layout-l.ensures c.requires).nlnno

pub read_field-requires-9 : goal.read_field-requires-9
read_field-requires-9 c = (section-inside c.args.f c.args.base (length c.args.file.now) c.section_layout-l.ensures c.requires).flags

pub returns : goal.returns
unfolding section_header_at
returns c = rw (← c.section_layout-l.ensures, c.read_field.ensures.value, c.read_field-2.ensures.value, c.read_field-3.ensures.value, c.read_field-4.ensures.value, c.read_field-5.ensures.value, c.read_field-6.ensures.value, c.read_field-7.ensures.value, c.read_field-8.ensures.value, c.read_field-9.ensures.value)
