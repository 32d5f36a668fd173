-- A fill's list. Assumes nothing.
use mathlib.Core.Path.{◌≡◌, refl, sym, ◌∙◌, ap}
use mathlib.Core.Bool.{true, false, not}
use mathlib.Core.List.{List}
use Prim.Native.Nat.{ℕ, zero, suc, ◌+◌, ◌-◌, ◌*◌, ◌/◌, ◌%◌, ◌≤◌, ◌<◌}
use native.Mathlib.Nat.{sub-zero}
use native.Mathlib.Numerals.{add-one}
use native.Mathlib.Omega.{arith}
use borrow.Author.Tests.{eq-eqb, ne_eqb}
use lib.Dec.{eqb}
use lib.ListN.{length, set}
use lib.Seq.{sets}
use Rattle.format.specs.declared.FileOffset.{FileOffset}
use Rattle.format.specs.declared.FileRange.{FileRange}
use Rattle.format.specs.declared.Format.{Format}
use Rattle.refusal.specs.declared.Refusal.{Refusal}
use Rattle.refusal.specs.declared.Refusal.TheVariants as refusal
use Rattle.refusal.specs.declared.RoomItem.TheVariants.{AddressList}
use Rattle.refusal.specs.Refusal.{is_refused}
use Rattle.refusal.specs.Order.{refuse_if, if_accepted}
use Rattle.refusal.proofs.Order.{go_on, stop}
use Rattle.update.proofs.Stores.{sets-whole}
use Rattle.loader_symbol.specs.declared.LoaderEntry.{LoaderEntry}
use Rattle.loader_symbol.specs.Symbol.{entry_at, name_in}
use Rattle.format.specs.Layout.{loader_symbol_length}
use Rattle.format.specs.declared.NameField.{NameField}
use Rattle.refusal.specs.Part.{range_bytes, Within}
use Rattle.lookup.proofs.Symbols.{name-in-file}
use Rattle.loadable.specs.declared.Loadable.{Loadable}
use Rattle.loadable.specs.Loadable.{loadable_at}
use Rattle.loadable.specs.Valid.{Valid}
use Rattle.offset.specs.Report.{report_head}
use Rattle.address_book.specs.Book.{Book}
use Rattle.address_book.specs.Call.{Place, imported, fill, bench_check, call_check, check_of, address_at, filled, written_in, memory_in}
use Rattle.address_fill.specs.Fill.{place_by, place_in, places_from, places_of, places_by, places_at, Inside}
use Rattle.std.specs.Prelude.{Err, Ok, Result}
use Rattle.refusal.specs.Verdict.{Verdict}

-- ---- one place

pub not-imported : (rows : Book) (n : ℕ) (e : LoaderEntry) (name : List ℕ) → (e.smtype / 64 % 2 ≡ 1 → ⊥) → 0 ≡ address_at rows n (place_by e name)
unfolding place_by address_at
not-imported rows n e name h = rw (ne_eqb (e.smtype / 64 % 2) 1 h) refl

pub deferred : (rows : Book) (n : ℕ) (e : LoaderEntry) (name : List ℕ) → e.smtype / 64 % 2 ≡ 1 → e.ifile ≡ 0 → 0 ≡ address_at rows n (place_by e name)
unfolding place_by address_at
deferred rows n e name h i = rw (eq-eqb (e.smtype / 64 % 2) 1 h, eq-eqb e.ifile 0 i) refl

pub by_row : (rows : Book) (n : ℕ) (e : LoaderEntry) (name : List ℕ) → e.smtype / 64 % 2 ≡ 1 → (e.ifile ≡ 0 → ⊥) → address_at rows n (imported e.ifile name e.value) ≡ address_at rows n (place_by e name)
unfolding place_by
by_row rows n e name h i = rw (eq-eqb (e.smtype / 64 % 2) 1 h, ne_eqb e.ifile 0 i) refl

-- the place of a symbol by what is read of it
module _ (rows : Book) (n : ℕ) (file : List ℕ) (f : Format) (symbols : FileOffset) (strings : FileRange) (k : ℕ) {e : LoaderEntry} (q : e ≡ entry_at f (symbols.0 + k * loader_symbol_length) file) where
  pub no-import : (e.smtype / 64 % 2 ≡ 1 → ⊥) → 0 ≡ address_at rows n (place_in file f symbols strings k)
  unfolding place_in
  no-import h = not-imported rows n (entry_at f (symbols.0 + k * loader_symbol_length) file) _ (rw q at h)

  pub no-file : e.smtype / 64 % 2 ≡ 1 → e.ifile ≡ 0 → 0 ≡ address_at rows n (place_in file f symbols strings k)
  unfolding place_in
  no-file h i = deferred rows n (entry_at f (symbols.0 + k * loader_symbol_length) file) _ (rw q at h) (rw q at i)

  pub an-import : {a : Result FileRange Refusal} {part : List ℕ} {r : ℕ} → e.smtype / 64 % 2 ≡ 1 → (e.ifile ≡ 0 → ⊥) → a ≡ name_in file strings (symbols.0 + k * loader_symbol_length) (k + 3) e.name → part ≡ range_bytes file a → r ≡ address_at rows n (imported e.ifile part e.value) → r ≡ address_at rows n (place_in file f symbols strings k)
  unfolding place_in
  an-import h i p w z =
      z
      ∙ rw (w, p, q) (by_row rows n (entry_at f (symbols.0 + k * loader_symbol_length) file) _ (rw q at h) (rw q at i))

pub name-inside : (file : List ℕ) (f : Format) (symbols : FileOffset) (strings : FileRange) (k : ℕ) (n : NameField) {a : Result FileRange Refusal} → Inside file symbols strings (k + 1) → a ≡ name_in file strings (symbols.0 + k * loader_symbol_length) (k + 3) n → Within (length file) a
name-inside file f symbols strings k n h e =
    let t = h.table in
    rw e (name-in-file file strings (symbols.0 + k * loader_symbol_length) (k + 3) n h.names (omega arith))

-- ---- the list

module _ (rows : Book) (n : ℕ) (file : List ℕ) (f : Format) (symbols : FileOffset) (strings : FileRange) where
  pub length-filled : (k m : ℕ) → length (filled rows n (places_from file f symbols strings k m)) ≡ m
  unfolding filled places_from
  length-filled k zero = refl
  length-filled k (suc m) = ap suc (length-filled (suc k) m)

  pub fill_start : (l : List ℕ) → sets l 0 (filled rows n (places_from file f symbols strings 0 (length l - 0))) ≡ filled rows n (places_from file f symbols strings 0 (length l))
  fill_start l = rw (sub-zero (length l)) (sets-whole l (filled rows n (places_from file f symbols strings 0 (length l))) (length-filled 0 (length l)))

  pub fill-next : (l : List ℕ) (k m : ℕ) {v : ℕ} → k < m → v ≡ address_at rows n (place_in file f symbols strings k) → sets (set l k v) (k + 1) (filled rows n (places_from file f symbols strings (k + 1) (m - (k + 1)))) ≡ sets l k (filled rows n (places_from file f symbols strings k (m - k)))
  unfolding filled places_from
  fill-next l k m h e = let left : m - k ≡ suc (m - (k + 1)) = omega arith in rw (left, add-one k, e) refl

  pub fill_end : (l : List ℕ) (k m : ℕ) → m ≤ k → sets l k (filled rows n (places_from file f symbols strings k (m - k))) ≡ l
  unfolding filled places_from
  fill_end l k m h = let left : m - k ≡ 0 = omega arith in rw left refl

-- ---- the answer

length-places : (file : List ℕ) (f : Format) (symbols : FileOffset) (strings : FileRange) (k m : ℕ) → length (places_from file f symbols strings k m) ≡ m
unfolding places_from
length-places file f symbols strings k zero = refl
length-places file f symbols strings k (suc m) = ap suc (length-places file f symbols strings (suc k) m)

count-places : (file : List ℕ) (l : Loadable) → length (places_of file l) ≡ l.tables.nsyms
unfolding places_of
count-places file l = length-places file l.layout.format l.tables.symbols l.tables.strings 0 l.tables.nsyms

places-found : (file : List ℕ) (l : Loadable) → loadable_at file ≡ Ok l → places_of file l ≡ (places_at file).places
unfolding places_at places_by
places-found file l e = rw e refl

-- a refused verdict leaves the list
left : (x y : List ℕ) (v : Verdict) → is_refused v ≡ true → y ≡ if_accepted v x y
left x y (Ok tt) h = let z : ◌≡◌ {A = ℕ} 0 1 = cc in absurd (omega arith)
left x y (Err r) h = refl

module _ (n : ℕ) (file list : List ℕ) (rows : Book) where
  judged-bench : {v : Verdict} → v ≡ bench_check n → is_refused (bench_check n) ≡ true → v ≡ check_of rows (fill n (places_at file) (length list))
  unfolding call_check
  judged-bench e h = e ∙ sym (stop (bench_check n) _ h)

  judged-module : (x : Refusal) → is_refused (bench_check n) ≡ false → loadable_at file ≡ Err x → Err x ≡ check_of rows (fill n (places_at file) (length list))
  unfolding call_check places_at places_by
  judged-module x h e = sym (go_on (bench_check n) _ h ∙ rw e refl)

  judged-list : (l : Loadable) {v : Verdict} → is_refused (bench_check n) ≡ false → loadable_at file ≡ Ok l → v ≡ refuse_if (not (eqb (length list) l.tables.nsyms)) (refusal.Room AddressList) → v ≡ check_of rows (fill n (places_at file) (length list))
  unfolding call_check places_at places_by
  judged-list l h e q = q ∙ sym (go_on (bench_check n) _ h ∙ rw (e, count-places file l) refl)

-- what a fill answers, and what it leaves in the list
abbrev pub Fills : Book → ℕ → List ℕ → List ℕ → Verdict → List ℕ → Type 0
Fills rows n file list v out =
    (v ≡ check_of rows (fill n (places_at file) (length list)))
    × ((report_head file v ≡ report_head file (check_of rows (fill n (places_at file) (length list))))
    × (out ≡ memory_in (length rows) rows (fill n (places_at file) (length list)) list))

module _ (rows : Book) (n : ℕ) (file list : List ℕ) where
  fills : {v : Verdict} {out : List ℕ} → v ≡ check_of rows (fill n (places_at file) (length list)) → out ≡ if_accepted v (filled rows n (places_at file).places) list → Fills rows n file list v out
  unfolding memory_in written_in
  fills e h = (e, (ap (report_head file) e, h ∙ ap (λ (v : Verdict). if_accepted v (filled rows n (places_at file).places) list) e))

  pub no-bench : {v : Verdict} → v ≡ bench_check n → is_refused (bench_check n) ≡ true → Fills rows n file list v list
  no-bench {v} e h = fills (judged-bench n file list rows e h) (left (filled rows n (places_at file).places) list v (ap is_refused e ∙ h))

  pub no-module : (x : Refusal) → is_refused (bench_check n) ≡ false → loadable_at file ≡ Err x → Fills rows n file list (Err x) list
  no-module x h e = fills (judged-module n file list rows x h e) refl

  pub by-module : (l : Loadable) {v : Verdict} {out : List ℕ} → is_refused (bench_check n) ≡ false → loadable_at file ≡ Ok l → v ≡ refuse_if (not (eqb (length list) l.tables.nsyms)) (refusal.Room AddressList) → out ≡ if_accepted v (filled rows n (places_of file l)) list → Fills rows n file list v out
  by-module l {v} h e q w = fills (judged-list n file list rows l h e q) (w ∙ ap (λ (ps : List Place). if_accepted v (filled rows n ps) list) (places-found file l e))

-- the tables of an accepted module
pub inside : (file : List ℕ) (l : Loadable) → Valid file l → Inside file l.tables.symbols l.tables.strings l.tables.nsyms
inside file l h = let t = h.loader.tables in record { small = t.small; table = t.symbols; names = t.strings }

-- the list that a module's places give
pub filled-module : (rows : Book) (n : ℕ) (file : List ℕ) (l : Loadable) (list : List ℕ) {out : List ℕ} → length list ≡ l.tables.nsyms → out ≡ filled rows n (places_from file l.layout.format l.tables.symbols l.tables.strings 0 (length list)) → out ≡ filled rows n (places_of file l)
unfolding places_of
filled-module rows n file l list h e = e ∙ rw h refl
