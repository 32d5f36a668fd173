use lib.ListN.{length}
use native.Mathlib.Omega.{arith}
use Rattle.loader_header.proofs.Records.{header_is}
use Rattle.loader_header.proofs.Places.{header-long, loader-inside}
use Rattle.loader_header.proofs.read_header.Goals as goal

pub read_field-requires : goal.read_field-requires
read_field-requires c = rw c.at.ensures (omega (arith, c.requires, header-long c.args.f))

pub read_field-requires-2 : goal.read_field-requires-2
read_field-requires-2 c = rw c.at-2.ensures (omega (arith, c.requires, header-long c.args.f))

pub read_field-requires-3 : goal.read_field-requires-3
read_field-requires-3 c = rw c.at-3.ensures (omega (arith, c.requires, header-long c.args.f))

pub read_field-requires-4 : goal.read_field-requires-4
read_field-requires-4 c = rw c.at-4.ensures (omega (arith, c.requires, header-long c.args.f))

pub read_field-requires-5 : goal.read_field-requires-5
read_field-requires-5 c = rw c.at-5.ensures (omega (arith, c.requires, header-long c.args.f))

pub read_field-requires-6 : goal.read_field-requires-6
read_field-requires-6 c = (loader-inside c.args.f c.args.base (length c.args.file.now) c.loader_layout-l.ensures c.requires).impoff

pub read_field-requires-7 : goal.read_field-requires-7
read_field-requires-7 c = (loader-inside c.args.f c.args.base (length c.args.file.now) c.loader_layout-l.ensures c.requires).stlen

pub read_field-requires-8 : goal.read_field-requires-8
read_field-requires-8 c = (loader-inside c.args.f c.args.base (length c.args.file.now) c.loader_layout-l.ensures c.requires).stoff

pub symbols_offset-requires : goal.symbols_offset-requires
symbols_offset-requires c = c.requires

pub relocations_offset-requires : goal.relocations_offset-requires
relocations_offset-requires c = c.requires

pub returns-clause-value : goal.returns-clause-value
returns-clause-value c = header_is c.args.f c.args.base c.args.file.now c.loader_layout-l.ensures (rw c.at.ensures at c.read_field.ensures.value) (rw c.at-2.ensures at c.read_field-2.ensures.value) (rw c.at-3.ensures at c.read_field-3.ensures.value) (rw c.at-4.ensures at c.read_field-4.ensures.value) (rw c.at-5.ensures at c.read_field-5.ensures.value) c.read_field-6.ensures.value c.read_field-7.ensures.value c.read_field-8.ensures.value c.symbols_offset.ensures c.relocations_offset.ensures

pub returns-clause-bound : goal.returns-clause-bound
returns-clause-bound c = record { nsyms = rw c.at-2.ensures at c.read_field-2.ensures.bound; nreloc = rw c.at-3.ensures at c.read_field-3.ensures.bound; istlen = rw c.at-4.ensures at c.read_field-4.ensures.bound; nimpid = rw c.at-5.ensures at c.read_field-5.ensures.bound }
