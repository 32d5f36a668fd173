use mathlib.Core.Path.{refl}
use lib.ListN.{length}
use Rattle.word.proofs.Test.{found, past-not}
use Rattle.format.specs.Layout.{loader_layout}
use Rattle.loader_header.specs.Header.{loader_header_at}
use Rattle.offset.specs.Offset.{loader_starts}
use Rattle.offset.proofs.loader_starts.Goals as goal

pub returns-then-ends_past : goal.returns-then-ends_past
unfolding loader_starts
returns-then-ends_past c = rw (found (rw c.loader_layout-layout.ensures at c.ends_past.ensures) c.if-ends_past.true) refl

pub read_header-h-requires : goal.read_header-h-requires
read_header-h-requires c = let a = c.args in past-not a.l (loader_layout a.f).length (length a.file.now) (found (rw c.loader_layout-layout.ensures at c.ends_past.ensures) c.if-ends_past.false)

pub returns : goal.returns
unfolding loader_starts loader_header_at
returns c = rw (found (rw c.loader_layout-layout.ensures at c.ends_past.ensures) c.if-ends_past.false, c.place.ensures, c.place-2.ensures, c.read_header-h.ensures.value) refl
