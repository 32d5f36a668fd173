-- The header from its numbers, read one by one. Assumes nothing.
use Prim.Native.Nat.{ℕ}
use mathlib.Core.Path.{◌≡◌, refl}
use mathlib.Core.List.{List}
use Rattle.word.specs.Number.{field, field_in}
use Rattle.word.specs.declared.Width.TheVariants.{Four}
use Rattle.format.specs.declared.Format.{Format}
use Rattle.format.specs.declared.LoaderLayout.{LoaderLayout}
use Rattle.format.specs.Layout.{loader_layout}
use Rattle.loader_header.specs.Header.{symbols_offset, relocations_offset, loader_header_at}

pub header_is : (f : Format) (base : ℕ) (file : List ℕ) {l : LoaderLayout} {v0 v1 v2 v3 v4 v5 v6 v7 v8 v9 : ℕ} → l ≡ loader_layout f
    → v0 ≡ field_in (field 0 Four) base file → v1 ≡ field_in (field 4 Four) base file → v2 ≡ field_in (field 8 Four) base file → v3 ≡ field_in (field 12 Four) base file → v4 ≡ field_in (field 16 Four) base file
    → v5 ≡ field_in l.impoff base file → v6 ≡ field_in l.stlen base file → v7 ≡ field_in l.stoff base file → v8 ≡ symbols_offset f base file → v9 ≡ relocations_offset f base file
    → record { version = v0; nsyms = v1; nreloc = v2; istlen = v3; nimpid = v4; impoff = v5; stlen = v6; stoff = v7; symoff = v8; rldoff = v9 } ≡ loader_header_at f base file
unfolding loader_header_at
header_is f base file el e0 e1 e2 e3 e4 e5 e6 e7 e8 e9 = rw (e0, e1, e2, e3, e4, e5, e6, e7, e8, e9, el) refl
