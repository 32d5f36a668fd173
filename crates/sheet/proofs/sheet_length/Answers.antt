use native.Mathlib.Omega.{arith}
use Rattle.sheet.proofs.Answers.{few_bytes}
use Rattle.sheet.proofs.sheet_length.Goals as goal

pub overflow_mul-result : goal.overflow_mul-result
overflow_mul-result c = omega (arith, few_bytes c.args.f)

pub overflow_add-result : goal.overflow_add-result
overflow_add-result c = omega (arith, few_bytes c.args.f)
