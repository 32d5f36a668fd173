use Rattle.plan.specs.Relocatable.{relocation_at}
use Rattle.relocation.proofs.Entries.{held_at}
use Rattle.relocation.specs.Relocation.{place_at}
use Rattle.plan.proofs.relocation_at.Goals as goal

pub place_of-requires : goal.place_of-requires
place_of-requires c = held_at _ _ _ _ _ (c.requires.0.own _ c.requires.1) c.entry_in-e.ensures

pub returns : goal.returns
unfolding relocation_at place_at
returns c = rw (c.place_of.ensures, c.entry_in-e.ensures)
