-- Alarm 18: "a move ends outside the limits". 01: "a G00 target on a limit runs, one beyond gives 18".
use Rattle.std.specs.Prelude.{Bool, ◌||◌, ℤ}
use Rattle.std.specs.Int.Signed.{lt_z}
use Rattle.settings.specs.declared.Span.{Span}
use Rattle.settings.specs.declared.Limits.{Limits}

unfoldable pub outside_span : Span → ℤ → Bool
outside_span s v = lt_z v s.lowest || lt_z s.highest v

unfoldable pub outside : Limits → ℤ → ℤ → Bool
outside l x z = outside_span l.x x || outside_span l.z z
