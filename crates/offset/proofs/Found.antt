-- The starts of a file, by the tests that were made. Assumes nothing.
use Prim.Native.Nat.{ℕ, ◌≤◌, ◌<◌}
use mathlib.Core.Path.{◌≡◌, refl}
use mathlib.Core.Bool.{true}
use mathlib.Core.List.{List}
use borrow.Author.Tests.{lt-ltb, le-ltb, ltb-false}
use lib.Dec.{ltb}
use lib.ListN.{length}
use Rattle.word.specs.Number.{field_in}
use Rattle.word.proofs.Test.{either}
use Rattle.format.specs.declared.Format.{Format}
use Rattle.format.specs.Layout.{magic_field, format_of}
use Rattle.format.specs.Limit.{file_limit}
use Rattle.refusal.specs.Refusal.{is_refused}
use Rattle.refusal.specs.Order.{if_accepted}
use Rattle.file_header.specs.Header.{header_check}
use Rattle.offset.specs.declared.Starts.{Starts}
use Rattle.offset.specs.Offset.{starts_as, starts_by, starts_of}
use Rattle.std.specs.Prelude.{Err, None, Ok, Option, Some}
use Rattle.refusal.specs.Verdict.{Verdict}

module _ (file : List ℕ) where
  pub starts-large : file_limit < length file → None ≡ starts_of file
  unfolding starts_of
  starts-large h = rw (lt-ltb file_limit (length file) h) refl

  module _ (h : length file ≤ file_limit) where
    pub starts-short : length file < 2 → None ≡ starts_of file
    unfolding starts_of
    starts-short k = rw (le-ltb file_limit (length file) h, lt-ltb (length file) 2 k) refl

    module _ (k : 2 ≤ length file) where
      pub starts-unknown : format_of (field_in magic_field 0 file) ≡ None → None ≡ starts_of file
      unfolding starts_of
      starts-unknown e = rw (le-ltb file_limit (length file) h, le-ltb (length file) 2 k, e) refl

      module _ (f : Format) (e : format_of (field_in magic_field 0 file) ≡ Some f) where
        refused : (v : Verdict) (s : Option Starts) → is_refused v ≡ true → None ≡ if_accepted v s None
        refused (Ok tt) s p = cc
        refused (Err x) s p = refl

        pub starts-refused : is_refused (header_check f file) ≡ true → None ≡ starts_of file
        unfolding starts_of
        starts-refused p = rw (le-ltb file_limit (length file) h, le-ltb (length file) 2 k, e) (refused (header_check f file) (Some (starts_as f file)) p)

        pub starts-known : {s : Starts} → header_check f file ≡ Ok tt → s ≡ starts_as f file → Some s ≡ starts_of file
        unfolding starts_of
        starts-known p q = rw (le-ltb file_limit (length file) h, le-ltb (length file) 2 k, e, p, q) refl

-- a file whose starts are known is no longer than the limit
abbrev Small : Option Starts → Type 0
Small None = Unit {0}
Small (Some s) = s.length ≤ file_limit

by-header : (f : Format) (file : List ℕ) → length file ≤ file_limit → (v : Verdict) → Small (if_accepted v (Some (starts_as f file)) None)
unfolding starts_as
by-header f file h (Ok tt) = h
by-header f file h (Err x) = tt

by-magic : (file : List ℕ) → length file ≤ file_limit → (a : Option Format) → Small (starts_by file a)
by-magic file h None = tt
by-magic file h (Some f) = by-header f file h (header_check f file)

starts-small : (file : List ℕ) → Small (starts_of file)
unfolding starts_of
starts-small file =
    either Small (ltb file_limit (length file)) (λ _. tt)
    (λ l. either Small (ltb (length file) 2) (λ _. tt)
    (λ _. by-magic file (ltb-false file_limit (length file) l) (format_of (field_in magic_field 0 file))))

pub known_small : (file : List ℕ) {s : Starts} → starts_of file ≡ Some s → s.length ≤ file_limit
known_small file e = rw e at (starts-small file)
