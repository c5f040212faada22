-- What was asked of a cycle, of the one that it was matched to: every arm of every function cites these.
-- Assumes nothing.
use mathlib.Core.Path.{◌≡◌, sym, ap, ◌∙◌, subst}
use mathlib.Core.Bool.{false}
use lib.ListN.{length}
use Rattle.settings.specs.declared.Limits.{Limits}
use Rattle.axes.specs.Limits.{any_outside}
use Rattle.cycles.specs.declared.Cycle.{Cycle}
use Rattle.cycles.specs.Cycle.{wrong, records}
use Rattle.cycles.specs.Known.{Known}

module _ {c d : Cycle} (is : c ≡ d) where
  pub right : wrong c ≡ false → wrong d ≡ false
  right e = ap wrong (sym is) ∙ e

  pub known : Known c → Known d
  known n = subst Known is n

  pub asks : (l : Limits) → any_outside l (records d) ≡ any_outside l (records c)
  asks l = ap (λ (c : Cycle). any_outside l (records c)) (sym is)

  pub counts : length (records d) ≡ length (records c)
  counts = ap (λ (c : Cycle). length (records c)) (sym is)
