-- The answer for a string name, by its length n. Assumes nothing.
use Prim.Native.Nat.{ℕ, ◌+◌, ◌-◌, ◌≤◌, ◌<◌}
use mathlib.Core.Path.{◌≡◌}
use mathlib.Core.Bool.{true, false}
use mathlib.Core.List.{List}
use lib.ListN.{take, drop}
use borrow.Author.Tests.{lt-ltb, le-ltb, eq-eqb, ne_eqb}
use Rattle.word.specs.Number.{field_at}
use Rattle.word.specs.Test.{past}
use Rattle.word.specs.Zero.{first_zero}
use Rattle.format.specs.declared.FileRange.{FileRange}
use Rattle.format.specs.Range.{range}
use Rattle.refusal.specs.declared.Refusal.TheVariants.{Lsym}
use Rattle.loader_symbol.specs.Symbol.{string_in}
use Rattle.std.specs.Prelude.{Err, Ok}

module _ (file : List ℕ) (strings : FileRange) (o i : ℕ) where
  pub string-low : o < 2 → Err (Lsym i) ≡ string_in file strings o i
  unfolding string_in
  string-low h = rw (lt-ltb o 2 h)

  module _ (h : 2 ≤ o) where
    pub string-far : strings.length < o → Err (Lsym i) ≡ string_in file strings o i
    unfolding string_in
    string-far k = rw (le-ltb o 2 h, lt-ltb strings.length o k)

    module _ (k : o ≤ strings.length) {n : ℕ} (e : n ≡ field_at 2 (strings.start.0 + o - 2) file) where
      pub string-empty : n ≡ 0 → Err (Lsym i) ≡ string_in file strings o i
      unfolding string_in
      string-empty z = rw (le-ltb o 2 h, le-ltb strings.length o k, ← e, eq-eqb n 0 z)

      module _ (z : n ≡ 0 → ⊥) where
        pub string-past : past o n strings.length ≡ true → Err (Lsym i) ≡ string_in file strings o i
        unfolding string_in
        string-past p = rw (le-ltb o 2 h, le-ltb strings.length o k, ← e, ne_eqb n 0 z, p)

        pub string-closed : past o n strings.length ≡ false → first_zero (take n (drop (strings.start.0 + o) file)) ≡ n - 1 → Ok (range (strings.start.0 + o) (n - 1)) ≡ string_in file strings o i
        unfolding string_in
        string-closed p q = rw (le-ltb o 2 h, le-ltb strings.length o k, ← e, ne_eqb n 0 z, p, eq-eqb (first_zero (take n (drop (strings.start.0 + o) file))) (n - 1) q)

        pub string-open : past o n strings.length ≡ false → (first_zero (take n (drop (strings.start.0 + o) file)) ≡ n - 1 → ⊥) → Err (Lsym i) ≡ string_in file strings o i
        unfolding string_in
        string-open p q = rw (le-ltb o 2 h, le-ltb strings.length o k, ← e, ne_eqb n 0 z, p, ne_eqb (first_zero (take n (drop (strings.start.0 + o) file))) (n - 1) q)
