-- `plunges::next_cut` meets its contract.
use mathlib.Core.Path.{◌∙◌}
use Rattle.plunges.proofs.Cursors.{cut_then_back, two_make}
use Rattle.plunges.proofs.next_cut.Statement.{statement}
use Rattle.plunges.proofs.next_cut.Tie as tie

cut_requires : tie.Need-cut-first-requires
cut_requires c κs = (c.requires.0, (cut_then_back c.args.c c.requires.1).0)

draw_back_requires : tie.Need-draw_back-second-requires
draw_back_requires c κs =
    let first = c in
    let s = first in
    (first.cut-first.ensures.0.sound, first.cut-first.ensures.1 ∙ (cut_then_back s.args.c s.requires.1).1)

returns : tie.Need-returns
returns c =
    let second = c in
    let first = second in
    two_make first.cut-first.ensures.0 second.draw_back-second.ensures.0 second.draw_back-second.ensures.1

pub next_cut_spec : {M : Type 1} → statement M
next_cut_spec = tie.close (tie.spec cut_requires draw_back_requires returns)
