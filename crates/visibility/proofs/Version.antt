-- Where a file has auxiliary version 2. Assumes nothing.
use Prim.Native.Nat.{ℕ, ◌+◌, ◌≤◌, ◌<◌}
use mathlib.Core.Path.{◌≡◌, refl}
use mathlib.Core.Bool.{false}
use mathlib.Core.List.{List}
use native.Mathlib.Omega.{arith}
use borrow.Author.Tests.{lt-leb, le-leb}
use lib.Dec.{eqb}
use lib.ListN.{length}
use Rattle.word.specs.declared.Field.{Field}
use Rattle.word.specs.Number.{bytes_in, field_in}
use Rattle.format.specs.declared.HeaderLayout.{HeaderLayout}
use Rattle.format.specs.declared.Format.TheVariants.{Xcoff32, Xcoff64}
use Rattle.format.specs.Layout.{header_layout}
use Rattle.header.specs.declared.Summary.{Summary}
use Rattle.header.specs.Inside.{Inside}
use Rattle.file_header.specs.Header.{section_start}
use Rattle.visibility.specs.Visibility.{version_field, has_version2}

module _ (file : List ℕ) (y : Summary) where
  pub version-64 : y.format ≡ Xcoff64 → false ≡ has_version2 file y
  unfolding has_version2
  version-64 e = rw e refl

  module _ (e : y.format ≡ Xcoff32) where
    pub version-short : y.opthdr < 4 → false ≡ has_version2 file y
    unfolding has_version2
    version-short h = rw (e, lt-leb 4 y.opthdr h) refl

    module _ (h : 4 ≤ y.opthdr) {l : HeaderLayout} {v : Field} (p : l ≡ header_layout y.format) (q : v ≡ version_field) where
      pub version-inside : Inside file y → l.length + v.offset + bytes_in v.width ≤ length file
      unfolding section_start
      version-inside k = let s = rw e at k.headers in rw (p, q, e) (omega (arith, s))

      pub version-read : {n : ℕ} → n ≡ field_in v l.length file → eqb n 2 ≡ has_version2 file y
      unfolding has_version2
      version-read z = rw (z, p, q, e, le-leb 4 y.opthdr h) refl
