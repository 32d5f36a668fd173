-- Laws of the checks of a plan. Assumes nothing.
use mathlib.Core.Path.{◌≡◌, refl, sym, ◌∙◌, ap}
use mathlib.Core.Bool.{Bool, true, false, not}
use mathlib.Core.List.{List}
use Prim.Native.Nat.{ℕ, ◌+◌, ◌-◌, ◌≤◌, ◌<◌}
use native.Mathlib.Decide.{dec_le}
use native.Mathlib.Omega.{arith}
use lib.Dec.{ltb, leb}
use lib.ListN.{length, get_or}
use borrow.Author.Tests.{lt-ltb, le-ltb, le-leb, lt-leb, eq-eqb, ne_eqb}
use Rattle.format.specs.Layout.{address_limit}
use Rattle.refusal.specs.declared.PlanItem.TheVariants.{TextAddress, DataAddress, ImportAddress}
use Rattle.refusal.specs.declared.RoomItem.TheVariants.{AddressList}
use Rattle.refusal.specs.declared.Refusal.TheVariants as refusal
use Rattle.refusal.specs.Refusal.{is_refused}
use Rattle.refusal.specs.Order.{◌or_else◌, refuse_if, first_of}
use Rattle.refusal.proofs.Order.{accepted-equal, first-stop}
use Rattle.loadable.specs.declared.Loadable.{Loadable}
use Rattle.loadable.specs.Valid.{Valid}
use Rattle.history.specs.declared.Followed.{Followed}
use Rattle.history.specs.declared.Followed.TheVariants as followed
use Rattle.history.specs.Plan.{Plan, fits, list_room, list_check, address_check, import_check, fit_check}
use Rattle.plan.specs.Relocatable.{followed_at, relocatable_of}
use Rattle.plan.proofs.Symbols.{length_symbols, symbol-at, OwnPlace, own-place-at}
use Rattle.plan.proofs.Raw.{length-raw-text, length-raw-data}
use Rattle.std.specs.Prelude.{Err, Ok}
use Rattle.refusal.specs.Verdict.{Verdict}

-- ---- an address and a size below a limit

-- an address at or above the limit does not fit
pub fits_not : (limit a size : ℕ) → limit ≤ a → false ≡ fits limit a size
unfolding fits
fits_not limit a size h = rw (le-ltb a limit h)

-- an address below the limit fits with no bytes
pub fits-empty : (limit a size : ℕ) → a < limit → size ≡ 0 → true ≡ fits limit a size
unfolding fits
fits-empty limit a size h e = rw (lt-ltb a limit h, le-leb (a + size) limit (omega arith))

-- one with bytes fits by the room from it to the last address
pub fits_by : (last a size : ℕ) → a ≤ last → 0 < size → leb (size - 1) (last - a) ≡ fits (last + 1) a size
unfolding fits
fits_by last a size h p = rw (lt-ltb a (last + 1) (omega arith)) (by_end (dec_le (size - 1) (last - a)))
  where
    by_end : Dec (size - 1 ≤ last - a) → leb (size - 1) (last - a) ≡ leb (a + size) (last + 1)
    by_end (yes e) = rw (le-leb (size - 1) (last - a) e, le-leb (a + size) (last + 1) (omega arith)) refl
    by_end (no n) = rw (lt-leb (size - 1) (last - a) (omega arith), lt-leb (a + size) (last + 1) (omega arith)) refl

-- ---- the list

-- a list with an address for each loader symbol is accepted
pub list-whole : (n k : ℕ) → k ≡ n → (Ok tt) ≡ list_room n k
unfolding list_room
list-whole n k e = rw (eq-eqb k n e) refl

-- any other list is refused
pub list-other : (n k : ℕ) → (k ≡ n → ⊥) → Err (refusal.Room AddressList) ≡ list_room n k
unfolding list_room
list-other n k e = rw (ne_eqb k n e) refl

-- a list that is accepted has an address for each
pub list-accepted : (n k : ℕ) → list_room n k ≡ Ok tt → k ≡ n
unfolding list_room
list-accepted n k e = accepted-equal k n (refusal.Room AddressList) e

-- a module's loader symbols are as many as its loader header says
pub list-check : (file : List ℕ) (l : Loadable) (p : Plan) → list_check (relocatable_of file l) p ≡ list_room l.tables.nsyms (length p.list)
unfolding list_check relocatable_of
list-check file l p = ap (λ (n : ℕ). list_room n (length p.list)) (length_symbols file l 0 l.tables.nsyms)

-- ---- imports

module _ (limit : ℕ) (list : List ℕ) (i k : ℕ) where
  -- an address below the limit is accepted
  address_below : (f : Followed) → OwnPlace k f → get_or list k 0 < limit → address_check limit list i f ≡ Ok tt
  unfolding address_check
  address_below followed.Text o h = refl
  address_below followed.Data o h = refl
  address_below (followed.Import j v) o h = rw (o, lt-ltb (get_or list k 0) limit h) refl
  address_below followed.Nothing o h = refl

  -- an import's at or above it is refused
  address_above : (j v : ℕ) → OwnPlace k (followed.Import j v) → limit ≤ get_or list k 0 → is_refused (address_check limit list i (followed.Import j v)) ≡ true
  unfolding address_check
  address_above j v o h = rw (o, le-ltb (get_or list k 0) limit h) refl

  -- a refusal names the symbol's index
  address-named : (f : Followed) → is_refused (address_check limit list i f) ≡ true → Err (refusal.Plan (ImportAddress i)) ≡ address_check limit list i f
  unfolding address_check
  address-named followed.Text e = cc
  address-named followed.Data e = cc
  address-named (followed.Import j v) e = by-test (not (ltb (get_or list j 0) limit)) e
    where
      by-test : (b : Bool) → is_refused (refuse_if b (refusal.Plan (ImportAddress i))) ≡ true → Err (refusal.Plan (ImportAddress i)) ≡ refuse_if b (refusal.Plan (ImportAddress i))
      by-test true q = refl
      by-test false q = cc
  address-named followed.Nothing e = cc

module _ (file : List ℕ) (l : Loadable) (list : List ℕ) (k : ℕ) (h : k < l.tables.nsyms) where
  -- a symbol is judged by its entry in the file
  pub import-file : import_check (relocatable_of file l) list k ≡ address_check (address_limit l.layout.format) list (k + 3) (followed_at file l k)
  unfolding import_check relocatable_of
  import-file = rw (symbol-at file l l.tables.nsyms k h) refl

  -- no symbol is refused whose address in the list is below the limit
  pub import-below : get_or list k 0 < address_limit l.layout.format → false ≡ is_refused (import_check (relocatable_of file l) list k)
  import-below b = rw (import-file, address_below _ list (k + 3) k (followed_at file l k) (own-place-at file l k) b) refl

  -- none is refused that follows something else than its own address
  pub import-other : (f : Followed) → followed_at file l k ≡ f → address_check (address_limit l.layout.format) list (k + 3) f ≡ Ok tt
      → false ≡ is_refused (import_check (relocatable_of file l) list k)
  import-other f e a = rw (import-file, e, a) refl

  -- an import is refused whose address is not below it
  pub import-above : (j v : ℕ) → followed_at file l k ≡ followed.Import j v → address_limit l.layout.format ≤ get_or list k 0
      → true ≡ is_refused (import_check (relocatable_of file l) list k)
  import-above j v e b = rw (import-file, e) (sym (address_above _ list (k + 3) k j v (rw e at (own-place-at file l k)) b))

  -- a refusal names the symbol's index
  import-named : is_refused (import_check (relocatable_of file l) list k) ≡ true → Err (refusal.Plan (ImportAddress (k + 3))) ≡ import_check (relocatable_of file l) list k
  import-named e = rw import-file (address-named _ list (k + 3) k (followed_at file l k) (rw import-file at e))

  -- the loop over the symbols stops at k, the first that is refused
  pub imports-stop : first_of (import_check (relocatable_of file l) list) 0 l.tables.nsyms ≡ first_of (import_check (relocatable_of file l) list) k (l.tables.nsyms - k)
      → is_refused (import_check (relocatable_of file l) list k) ≡ true
      → Err (refusal.Plan (ImportAddress (k + 3))) ≡ first_of (import_check (relocatable_of file l) list) 0 l.tables.nsyms
  imports-stop q e = import-named e ∙ sym (q ∙ first-stop (import_check (relocatable_of file l) list) l.tables.nsyms k h e)

-- ---- the whole check

module _ (file : List ℕ) (l : Loadable) (p : Plan) where
  -- PLAN by the sizes of the sections, up to a limit
  abbrev sizes_check : ℕ → Verdict
  sizes_check limit =
      refuse_if (not (fits limit p.text l.layout.parts.text.size)) (refusal.Plan TextAddress)
      or_else refuse_if (not (fits limit p.dat l.layout.image)) (refusal.Plan DataAddress)
      or_else first_of (import_check (relocatable_of file l) p.list) 0 l.tables.nsyms

  -- it is the plan's check
  sizes-check : Valid file l → fit_check (relocatable_of file l) p ≡ sizes_check (address_limit l.layout.format)
  unfolding fit_check relocatable_of
  sizes-check v =
      rw (length-raw-text file l v, length-raw-data file l v, length_symbols file l 0 l.tables.nsyms) refl

  -- the plan's check, where t tells whether the text image fits, and d whether the data image does
  module _ (v : Valid file l) {limit : ℕ} (e : limit ≡ address_limit l.layout.format) {t : Bool} (et : t ≡ fits limit p.text l.layout.parts.text.size) where
    -- a text image that does not fit is refused
    pub text-refused : not t ≡ true → Err (refusal.Plan TextAddress) ≡ fit_check (relocatable_of file l) p
    text-refused nt = rw (sizes-check v, ← e, ← et, nt) refl

    -- then a data image that does not fit
    pub data-refused : {d : Bool} → not t ≡ false → d ≡ fits limit p.dat l.layout.image → not d ≡ true → Err (refusal.Plan DataAddress) ≡ fit_check (relocatable_of file l) p
    data-refused nt ed nd = rw (sizes-check v, ← e, ← et, nt, ← ed, nd) refl

    -- where both fit, the imports decide
    pub imports-decide : {d : Bool} {z : Verdict} → not t ≡ false → d ≡ fits limit p.dat l.layout.image → not d ≡ false
        → z ≡ first_of (import_check (relocatable_of file l) p.list) 0 l.tables.nsyms → z ≡ fit_check (relocatable_of file l) p
    imports-decide nt ed nd h = rw (sizes-check v, ← e, ← et, nt, ← ed, nd) h
