use Rattle.std.proofs.Common.{rules, ℕ, ◌+◌, ◌-◌, ◌<◌, ◌≡◌, get_or, length, arith}
use borrow.Author.Tests.{tests}
use Rattle.word.proofs.Zero.{zero-end-is}
use Rattle.word.proofs.scan_last.Goals as goal

pub returns-in-Some : goal.returns-in-Some
returns-in-Some c =
    let s = c.args.s.now in
    let i = c.in-Some.i in
    let here : get_or s i 0 ≡ 0 = search (rules, tests) in
    let behind : (k : ℕ) → i < k → k < length s → get_or s k 0 ≡ 0 → ⊥ = search (rules, tests) in
    let same : i + 1 - 1 ≡ i = omega arith in
    zero-end-is s _ record { within = search rules; after = λ k a. behind k (omega arith); last = λ _. rw same here }

pub returns-in-None : goal.returns-in-None
returns-in-None c =
    let s = c.args.s.now in
    let none : (k : ℕ) → k < length s → get_or s k 0 ≡ 0 → ⊥ = search (rules, tests) in
    zero-end-is s _ record { within = omega arith; after = λ k a. none k; last = λ h. absurd (omega arith) }
