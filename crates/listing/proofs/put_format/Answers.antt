-- Each arm writes the word that the definition gives its format.
use native.Mathlib.Omega.{arith}
use Rattle.listing.proofs.put_format.Goals as goal

pub returns-in-Xcoff32 : goal.returns-in-Xcoff32
returns-in-Xcoff32 c = let e = c.put_bytes.ensures in rw c.in-Xcoff32.is record { next = omega arith; text = e.text; short = omega arith }

pub returns-in-Xcoff64 : goal.returns-in-Xcoff64
returns-in-Xcoff64 c = let e = c.put_bytes-in-Xcoff64.ensures in rw c.in-Xcoff64.is record { next = omega arith; text = e.text; short = omega arith }
