-- The auxiliary header's record from its numbers, read one by one. Assumes nothing.
use Prim.Native.Nat.{ℕ}
use mathlib.Core.Path.{◌≡◌, refl}
use mathlib.Core.List.{List}
use Rattle.word.specs.Number.{field_in}
use Rattle.format.specs.declared.Format.{Format}
use Rattle.format.specs.declared.AuxLayout.{AuxLayout}
use Rattle.format.specs.declared.AuxNumbers.{AuxNumbers}
use Rattle.format.specs.Layout.{aux_layout, aux_numbers}
use Rattle.auxiliary.specs.Auxiliary.{aux_at}

pub aux-is : (f : Format) (base : ℕ) (file : List ℕ) {l : AuxLayout} {n : AuxNumbers} {v0 v1 v2 v3 v4 v5 v6 v7 v8 v9 v10 v11 v12 : ℕ} → l ≡ aux_layout f → n ≡ aux_numbers → v0 ≡ field_in l.tsize base file → v1 ≡ field_in l.dsize base file → v2 ≡ field_in l.bsize base file → v3 ≡ field_in l.entry base file → v4 ≡ field_in l.tstart base file → v5 ≡ field_in l.dstart base file → v6 ≡ field_in l.toc base file → v7 ≡ field_in n.snentry base file → v8 ≡ field_in n.sntext base file → v9 ≡ field_in n.sndata base file → v10 ≡ field_in n.sntoc base file → v11 ≡ field_in n.snloader base file → v12 ≡ field_in n.snbss base file → record { tsize = v0; dsize = v1; bsize = v2; entry = record { 0 = v3 }; tstart = record { 0 = v4 }; dstart = record { 0 = v5 }; toc = record { 0 = v6 }; snentry = record { 0 = v7 }; sntext = record { 0 = v8 }; sndata = record { 0 = v9 }; sntoc = record { 0 = v10 }; snloader = record { 0 = v11 }; snbss = record { 0 = v12 } } ≡ aux_at f base file
unfolding aux_at
aux-is f base file el en e0 e1 e2 e3 e4 e5 e6 e7 e8 e9 e10 e11 e12 = rw (e0, e1, e2, e3, e4, e5, e6, e7, e8, e9, e10, e11, e12, el, en) refl
