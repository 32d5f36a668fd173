-- Each arm writes the digits that the definition gives its format.
use Rattle.text.proofs.Number.{length-hex}
use native.Mathlib.Omega.{arith}
use Rattle.listing.proofs.put_address.Goals as goal

pub returns-in-Xcoff32 : goal.returns-in-Xcoff32
returns-in-Xcoff32 c = let e = c.put_hex.ensures in rw c.in-Xcoff32.is record { next = e.next; text = e.text; short = omega (arith, length-hex 8 c.args.a.0) }

pub returns-in-Xcoff64 : goal.returns-in-Xcoff64
returns-in-Xcoff64 c = let e = c.put_hex-in-Xcoff64.ensures in rw c.in-Xcoff64.is record { next = e.next; text = e.text; short = omega (arith, length-hex 16 c.args.a.0) }
