-- A key that is not refused. Assumes nothing.
use Rattle.std.proofs.Common.{◌≡◌, ℕ, ◌<◌, ◌≤◌, Bool, true, not, ◌||◌, eqb, ltb, length, arith, ltb-false, eqb-true}
use borrow.Author.Tests.{not-false}
use Rattle.word.proofs.Test.{or-second}
use Rattle.refusal.specs.declared.IndexItem.TheVariants.{NoBench}
use Rattle.refusal.specs.declared.Refusal.TheVariants as refusal
use Rattle.refusal.specs.Order.{refuse_if}
use Rattle.refusal.proofs.Order.{accepted-first, accepted-rest, accepted-test}
use Rattle.update.specs.Update.{Bytes}
use Rattle.address_book.specs.Book.{Key}
use Rattle.address_book.specs.Call.{name_limit, bench_check, key_check}
use Rattle.address_book.proofs.Order.{cases}
use Rattle.address_row.proofs.Words.{Good}
use Rattle.std.specs.Prelude.{Ok}

pub bench-good : (b : ℕ) → bench_check b ≡ Ok tt → (0 < b) × (b ≤ 2)
unfolding bench_check
bench-good b v =
    let h : (eqb b 1 || eqb b 2) ≡ true = not-false (eqb b 1 || eqb b 2) (accepted-test (not (eqb b 1 || eqb b 2)) (refusal.Index (NoBench b)) v) in
    cases (eqb b 1)
    (λ t. let e : b ≡ 1 = eqb-true b 1 t in (omega arith, omega arith))
    (λ t. let u : eqb b 2 ≡ true = rw t at h in let e : b ≡ 2 = eqb-true b 2 u in (omega arith, omega arith))

key-bounds : (k : Key) → key_check k ≡ Ok tt → (0 < k.bench) × (k.bench ≤ 2) × (length k.name ≤ 32)
unfolding key_check
key-bounds k v =
    let name : Bool = eqb (length k.name) 0 || ltb name_limit (length k.name) in
    let bench = bench-good k.bench (accepted-first (bench_check k.bench) (refuse_if name refusal.Long) v) in
    let rest = accepted-rest (bench_check k.bench) (refuse_if name refusal.Long) v in
    let long = or-second (eqb (length k.name) 0) (ltb name_limit (length k.name)) (accepted-test name refusal.Long rest) in
    (bench.0, bench.1, ltb-false name_limit (length k.name) long)

pub key_fits : (k : Key) → key_check k ≡ Ok tt → (k.bench ≤ 2) × (length k.name ≤ 32)
key_fits k v = ((key-bounds k v).1, (key-bounds k v).2)

pub good-key : (k : Key) → key_check k ≡ Ok tt → Bytes k.name → Good k
good-key k v b =
    let h = key-bounds k v in
    record { taken = v; owned = h.0; bench = h.1; short = h.2; bytes = b }
