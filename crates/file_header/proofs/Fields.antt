-- Laws of the file header and of the place of a section header. Assumes nothing.
use Prim.Native.Nat.{ℕ, suc, ◌+◌, ◌*◌, ◌^◌, ◌≤◌, ◌<◌}
use mathlib.Core.Path.{◌≡◌}
use native.Mathlib.Nat.{mul-le-mul, mul-le-mul_right, suc-mul}
use native.Mathlib.Omega.{arith}
use Rattle.word.specs.Number.{bytes_in}
use Rattle.format.specs.declared.Format.{Format}
use Rattle.format.specs.declared.Format.TheVariants.{Xcoff32, Xcoff64}
use Rattle.format.specs.declared.HeaderLayout.{HeaderLayout}
use Rattle.format.specs.Layout.{header_layout, section_layout}
use Rattle.format.proofs.Layouts.{section-short}
use Rattle.file_header.specs.declared.FileHeader.{FileHeader}
use Rattle.file_header.specs.Header.{section_start, Bounded}

-- numbers that fit their fields make a header that does
fits : (f : Format) (h : FileHeader) → h.nscns < 256 ^ bytes_in (header_layout f).nscns.width → h.opthdr < 256 ^ bytes_in (header_layout f).opthdr.width → h.nsyms < 256 ^ bytes_in (header_layout f).nsyms.width → Bounded h
fits Xcoff32 h a b c = record { nscns = omega arith; opthdr = omega arith; nsyms = omega arith }
fits Xcoff64 h a b c = record { nscns = omega arith; opthdr = omega arith; nsyms = omega arith }

pub header-bounded : (f : Format) {l : HeaderLayout} → l ≡ header_layout f → (h : FileHeader) → h.nscns < 256 ^ bytes_in l.nscns.width → h.opthdr < 256 ^ bytes_in l.opthdr.width → h.nsyms < 256 ^ bytes_in l.nsyms.width → Bounded h
header-bounded f e h a b c = fits f h (rw e at a) (rw e at b) (rw e at c)

-- 32 section headers are at most 2,304 bytes
pub headers-short : (f : Format) (i : ℕ) → i ≤ 32 → i * (section_layout f).length ≤ 2304
headers-short f i h = mul-le-mul h (section-short f)

-- the header of section i + 1 is whole where all of them are
pub section-whole : (f : Format) (opthdr count i n : ℕ) → i < count → section_start f opthdr count ≤ n → section_start f opthdr i + (section_layout f).length ≤ n
unfolding section_start
section-whole f opthdr count i n h k =
    let m : suc i * (section_layout f).length ≤ count * (section_layout f).length = mul-le-mul_right (section_layout f).length h in
    omega (arith, m, suc-mul i (section_layout f).length)
