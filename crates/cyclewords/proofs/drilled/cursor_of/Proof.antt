-- `cyclewords::drilled::cursor_of` meets its contract.
use borrow.Author.Rules.{rules}
use Rattle.cells.specs.Numbers.{at}
use Rattle.cyclewords.specs.Drilled.{drilling_of}
use Rattle.cyclewords.proofs.drilled.cursor_of.Statement.{statement}
use Rattle.cyclewords.proofs.drilled.cursor_of.Tie as tie

returns : tie.Need-returns
unfolding drilling_of
returns c =
    let stage = c in
    let bore = stage in
    let w = bore.args.w.now in
    λ i.
    record {
      bore = bore.bore_of-bore.ensures i;
      stage = stage.stage_of-stage.ensures i;
      deep = at w 14;
      bite = at w 15;
      left = at w 16;
    }

pub cursor_of_spec : {M : Type 1} → statement M
cursor_of_spec =
    tie.close
    (tie.spec
    (λ c κs. search rules)
    (λ c. search rules)
    (λ c κs. search rules)
    (λ c. search rules)
    (λ c. search rules)
    (λ c. search rules)
    returns)
