use native.Mathlib.Omega.{arith}
use Rattle.word.proofs.read_field.Goals as goal

pub get8-requires : goal.get8-requires
get8-requires c = rw c.in-One.is at c.requires

pub get16-requires : goal.get16-requires
get16-requires c = rw c.in-Two.is at c.requires

pub get32-requires : goal.get32-requires
get32-requires c = rw c.in-Four.is at c.requires

pub get64-requires : goal.get64-requires
get64-requires c = rw c.in-Eight.is at c.requires

pub returns-in-One : goal.returns-in-One
returns-in-One c = rw c.in-One.is record { value = c.get8.ensures; bound = omega arith }

pub returns-in-Two : goal.returns-in-Two
returns-in-Two c = rw c.in-Two.is record { value = c.get16.ensures; bound = omega arith }

pub returns-in-Four : goal.returns-in-Four
returns-in-Four c = rw c.in-Four.is record { value = c.get32.ensures; bound = omega arith }

pub returns-in-Eight : goal.returns-in-Eight
returns-in-Eight c = rw c.in-Eight.is record { value = c.get64.ensures; bound = omega arith }
