use Rattle.format.proofs.aux_numbers.Goals as goal

pub returns : goal.returns
returns c = cc
