use lib.ListN.{length}
use Rattle.file_header.proofs.Fields.{header-bounded}
use Rattle.format.proofs.Layouts.{header-inside}
use Rattle.file_header.specs.Header.{header_at}
use Rattle.file_header.proofs.read_header.Goals as goal

pub read_field-requires : goal.read_field-requires
read_field-requires c = (header-inside c.args.f (length c.args.file.now) c.header_layout-l.ensures c.requires).nscns

pub read_field-requires-2 : goal.read_field-requires-2
read_field-requires-2 c = (header-inside c.args.f (length c.args.file.now) c.header_layout-l.ensures c.requires).symptr

pub read_field-requires-3 : goal.read_field-requires-3
read_field-requires-3 c = (header-inside c.args.f (length c.args.file.now) c.header_layout-l.ensures c.requires).nsyms

pub read_field-requires-4 : goal.read_field-requires-4
read_field-requires-4 c = (header-inside c.args.f (length c.args.file.now) c.header_layout-l.ensures c.requires).opthdr

pub read_field-requires-5 : goal.read_field-requires-5
read_field-requires-5 c = (header-inside c.args.f (length c.args.file.now) c.header_layout-l.ensures c.requires).flags

pub returns-clause-value : goal.returns-clause-value
unfolding header_at
returns-clause-value c = rw (← c.header_layout-l.ensures, c.read_field.ensures.value, c.read_field-2.ensures.value, c.read_field-3.ensures.value, c.read_field-4.ensures.value, c.read_field-5.ensures.value)

pub returns-clause-bound : goal.returns-clause-bound
unfolding header_at
returns-clause-bound c = header-bounded c.args.f c.header_layout-l.ensures _ c.read_field.ensures.bound c.read_field-4.ensures.bound c.read_field-3.ensures.bound
