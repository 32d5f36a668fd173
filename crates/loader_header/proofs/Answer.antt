-- The answer of the header's checks, by those that were made. Assumes nothing.
use Prim.Native.Nat.{ℕ, ◌≤◌}
use mathlib.Core.Path.{◌≡◌, sym, ◌∙◌}
use mathlib.Core.Bool.{true, false}
use mathlib.Core.List.{List}
use borrow.Author.Tests.{le-ltb}
use Rattle.format.specs.declared.Format.{Format}
use Rattle.format.specs.Layout.{loader_layout}
use Rattle.refusal.specs.Refusal.{is_refused}
use Rattle.refusal.proofs.Order.{test-passed, go_on, stop}
use Rattle.loader_header.specs.declared.LoaderHeader.{LoaderHeader}
use Rattle.loader_header.specs.Header.{loader_header_at, numbers_check, places_check, header_check}
use Rattle.refusal.specs.Verdict.{Verdict}

module _ (file : List ℕ) (f : Format) (start size : ℕ) (l : (loader_layout f).length ≤ size) {h : LoaderHeader} (e : h ≡ loader_header_at f start file) where
  pub by-numbers : {v : Verdict} → v ≡ numbers_check h → is_refused v ≡ true → v ≡ header_check file f start size
  unfolding header_check
  by-numbers {v} k r =
      test-passed _ _ (le-ltb size (loader_layout f).length l)
      (let q : v ≡ numbers_check (loader_header_at f start file) = rw e at k in rw (← q) (sym (stop v _ r)))

  pub by-places : {v w : Verdict} → v ≡ numbers_check h → is_refused v ≡ false → w ≡ places_check file f start size h → w ≡ header_check file f start size
  unfolding header_check
  by-places {v} {w} k r p =
      test-passed _ _ (le-ltb size (loader_layout f).length l)
      (let q : v ≡ numbers_check (loader_header_at f start file) = rw e at k in rw (← q) (rw e at p ∙ sym (go_on v _ r)))
