-- Serves internal contracts only: the pass over aligned fields. Fields of one width at multiples of it are the same field or share no byte.
use Rattle.std.specs.Prelude.{◌≡◌, Bool, ◌%◌}
use Rattle.relocation.specs.declared.FieldPlace.{FieldPlace}
use Rattle.relocation.specs.Relocation.{bytes_wide}

-- e has the width, and stands at a multiple of it in its section
pub record Aligned (wide : Bool) (e : FieldPlace) : Type 0 where
  pub width : e.wide ≡ wide
  pub place : e.offset % bytes_wide wide ≡ 0
