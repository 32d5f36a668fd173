use lib.ListN.{length}
use Rattle.auxiliary.proofs.AuxRecord.{aux-is}
use Rattle.format.proofs.Layouts.{aux-inside, aux-numbers-inside}
use Rattle.auxiliary.proofs.read_aux.Goals as goal

pub read_field-requires : goal.read_field-requires
read_field-requires c = (aux-inside c.args.f c.args.base (length c.args.file.now) c.aux_layout-l.ensures c.requires).tsize

pub read_field-requires-2 : goal.read_field-requires-2
read_field-requires-2 c = (aux-inside c.args.f c.args.base (length c.args.file.now) c.aux_layout-l.ensures c.requires).dsize

pub read_field-requires-3 : goal.read_field-requires-3
read_field-requires-3 c = (aux-inside c.args.f c.args.base (length c.args.file.now) c.aux_layout-l.ensures c.requires).bsize

pub read_field-requires-4 : goal.read_field-requires-4
read_field-requires-4 c = (aux-inside c.args.f c.args.base (length c.args.file.now) c.aux_layout-l.ensures c.requires).entry

pub read_field-requires-5 : goal.read_field-requires-5
read_field-requires-5 c = (aux-inside c.args.f c.args.base (length c.args.file.now) c.aux_layout-l.ensures c.requires).tstart

pub read_field-requires-6 : goal.read_field-requires-6
read_field-requires-6 c = (aux-inside c.args.f c.args.base (length c.args.file.now) c.aux_layout-l.ensures c.requires).dstart

pub read_field-requires-7 : goal.read_field-requires-7
read_field-requires-7 c = (aux-inside c.args.f c.args.base (length c.args.file.now) c.aux_layout-l.ensures c.requires).toc

pub read_field-requires-8 : goal.read_field-requires-8
read_field-requires-8 c = (aux-numbers-inside c.args.f c.args.base (length c.args.file.now) c.aux_numbers-n.ensures c.requires).snentry

pub read_field-requires-9 : goal.read_field-requires-9
read_field-requires-9 c = (aux-numbers-inside c.args.f c.args.base (length c.args.file.now) c.aux_numbers-n.ensures c.requires).sntext

pub read_field-requires-10 : goal.read_field-requires-10
read_field-requires-10 c = (aux-numbers-inside c.args.f c.args.base (length c.args.file.now) c.aux_numbers-n.ensures c.requires).sndata

pub read_field-requires-11 : goal.read_field-requires-11
read_field-requires-11 c = (aux-numbers-inside c.args.f c.args.base (length c.args.file.now) c.aux_numbers-n.ensures c.requires).sntoc

pub read_field-requires-12 : goal.read_field-requires-12
read_field-requires-12 c = (aux-numbers-inside c.args.f c.args.base (length c.args.file.now) c.aux_numbers-n.ensures c.requires).snloader

pub read_field-requires-13 : goal.read_field-requires-13
read_field-requires-13 c = (aux-numbers-inside c.args.f c.args.base (length c.args.file.now) c.aux_numbers-n.ensures c.requires).snbss

pub returns : goal.returns
returns c = aux-is c.args.f c.args.base c.args.file.now c.aux_layout-l.ensures c.aux_numbers-n.ensures c.read_field.ensures.value c.read_field-2.ensures.value c.read_field-3.ensures.value c.read_field-4.ensures.value c.read_field-5.ensures.value c.read_field-6.ensures.value c.read_field-7.ensures.value c.read_field-8.ensures.value c.read_field-9.ensures.value c.read_field-10.ensures.value c.read_field-11.ensures.value c.read_field-12.ensures.value c.read_field-13.ensures.value
