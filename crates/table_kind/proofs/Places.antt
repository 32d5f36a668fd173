-- Laws of a table's places, once over the kind of table and the format. Assumes nothing.
use Prim.Native.Nat.{ℕ, suc, ◌+◌, ◌*◌, ◌/◌, ◌≤◌, ◌<◌}
use mathlib.Core.Path.{◌≡◌}
use native.Mathlib.Omega.{arith}
use Rattle.format.specs.declared.Format.{Format}
use Rattle.format.specs.declared.Format.TheVariants.{Xcoff32, Xcoff64}
use Rattle.table_kind.specs.declared.TableKind.{TableKind}
use Rattle.table_kind.specs.declared.TableKind.TheVariants.{Relocations, Lines}
use Rattle.table_kind.specs.Kind.{entry_length}

-- what holds of each of the four lengths
pub each-length : (P : ℕ → Type 0) → P 10 → P 14 → P 6 → P 12 → (k : TableKind) (f : Format) → P (entry_length k f)
each-length P a b c d Relocations Xcoff32 = a
each-length P a b c d Relocations Xcoff64 = b
each-length P a b c d Lines Xcoff32 = c
each-length P a b c d Lines Xcoff64 = d

module _ (k : TableKind) (f : Format) where
  abbrev n : ℕ
  n = entry_length k f

  pub some_bytes : 0 < n
  some_bytes = each-length (λ m. 0 < m) (omega arith) (omega arith) (omega arith) (omega arith) k f

  -- the place after entry i is that of the next
  pub next_place : (start i : ℕ) → start + i * n + n ≡ start + suc i * n
  next_place start i = each-length (λ m. start + i * m + m ≡ start + suc i * m) (omega arith) (omega arith) (omega arith) (omega arith) k f

  -- an entry that is left is before the table's end, and whole inside whatever holds the table
  pub before-end : (start i count : ℕ) → i < count → start + i * n < start + count * n
  before-end start i count h = each-length (λ m. start + i * m < start + count * m) (omega arith) (omega arith) (omega arith) (omega arith) k f

  pub entry-within : (start i count len : ℕ) → i < count → start + count * n ≤ len → start + i * n + n ≤ len
  entry-within start i count len h = each-length (λ m. start + count * m ≤ len → start + i * m + m ≤ len) (λ e. omega (arith, h, e)) (λ e. omega (arith, h, e)) (λ e. omega (arith, h, e)) (λ e. omega (arith, h, e)) k f

  pub not-past : (start i count : ℕ) → i ≤ count → start + i * n ≤ start + count * n
  not-past start i count h = each-length (λ m. start + i * m ≤ start + count * m) (omega arith) (omega arith) (omega arith) (omega arith) k f

  -- how many whole entries d bytes hold: compared with a count, it says whether the table ends inside them
  pub ends-past : (d count : ℕ) → d / n < count → d < count * n
  ends-past d count = each-length (λ m. d / m < count → d < count * m) (λ h. omega (arith, h)) (λ h. omega (arith, h)) (λ h. omega (arith, h)) (λ h. omega (arith, h)) k f

  pub ends-inside : (d count : ℕ) → count ≤ d / n → count * n ≤ d
  ends-inside d count = each-length (λ m. count ≤ d / m → count * m ≤ d) (λ h. omega (arith, h)) (λ h. omega (arith, h)) (λ h. omega (arith, h)) (λ h. omega (arith, h)) k f

  -- a table inside the file has no more entries than the file has bytes
  pub count-within : (start count len : ℕ) → start + count * n ≤ len → count ≤ len
  count-within start count len = each-length (λ m. start + count * m ≤ len → count ≤ len) (λ h. omega (arith, h)) (λ h. omega (arith, h)) (λ h. omega (arith, h)) (λ h. omega (arith, h)) k f
