-- Which record of a pass comes next, as a word stands for it: of a turning cycle and of a thread.
use Rattle.std.specs.Prelude.{cond, ℕ, eqb}
use Rattle.axes.specs.declared.Stage.{Stage}
use Rattle.axes.specs.declared.Stage.TheVariants.{In, Cut, Out, Back}

abbrev pub stage_of : ℕ → Stage
stage_of u = cond (eqb u 0) In (cond (eqb u 1) Cut (cond (eqb u 2) Out Back))
