use mathlib.Core.Path.{refl, ◌∙◌}
use lib.ListN.{length}
use Rattle.file_header.proofs.Fields.{section-whole}
use Rattle.offset.specs.Offset.{loader_in}
use Rattle.offset.proofs.Places.{loader-more}
use Rattle.offset.proofs.loader_start.Goals as goal

pub loop-i-init : goal.loop-i-init
unfolding loader_in
loop-i-init c = refl

pub read_section_header-s-requires : goal.read_section_header-s-requires
read_section_header-s-requires c = let a = c.args in rw c.section_start-base.ensures (section-whole a.h.format a.h.opthdr a.h.nscns c.loop-i.i (length a.file.now) c.loop-i-test.true c.requires.0.inside)

pub loop-i-preserved : goal.loop-i-preserved
loop-i-preserved c = let a = c.args in let l = c.loop-i in c.later-start.ensures ∙ rw l.invariant (loader-more a.file.now a.h l.i (rw c.section_start-base.ensures at c.read_section_header-s.ensures))
