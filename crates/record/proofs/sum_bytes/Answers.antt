use Rattle.std.proofs.Common.{rules}
use Rattle.std.specs.List.{sum}
use Rattle.std.proofs.lemmas.List.Sums.{sum_by-le}
use Rattle.std.proofs.lemmas.List.Elements.{All-from_get_or}
use Prim.Native.Nat.{◌*◌, ◌≤◌}
use lib.ListN.{length}
use mathlib.Core.Path.{◌≡◌, ◌∙◌, sym}
use native.Mathlib.Omega.{arith}
use Rattle.record.proofs.Stores.{sum-is}
use Rattle.record.proofs.sum_bytes.Goals as goal

pub returns : goal.returns
returns c =
    let b = c.args.b.now in
    let e : c.sum.result ≡ sum b = search rules in
    let k : sum b ≤ length b * 255 = sum_by-le (λ x. x) 255 b (All-from_get_or (λ x. x ≤ 255) b 0 (λ i h. omega (arith, c.type_inv.b i))) in
    (e ∙ sym (sum-is b), omega arith)
