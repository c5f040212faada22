-- `threads::go_in_again` meets its contract.
use mathlib.Core.Path.{◌∙◌}
use Prim.Native.Nat.{◌-◌}
use mir.Syntax.{w32}
use mir.Val.{SFits}
use mir.Facts.{to_z-of_z}
use borrow.Author.Rules.{rules}
use Rattle.axes.specs.Goes.{rapid_to}
use Rattle.axes.specs.declared.Stage.TheVariants.{Cut}
use Rattle.threads.proofs.Cursors.{goes_again}
use Rattle.threads.proofs.go_in_again.Statement.{statement}
use Rattle.threads.proofs.go_in_again.Tie as tie

-- asked at the function's entry, where `search` still reaches them
line_held : (s : tie.Start) → SFits w32 s.args.c.line
line_held s = search rules

home_held : (s : tie.Start) → SFits w32 s.args.c.pass.home
home_held s = search rules

returns : tie.Need-returns
returns c =
    let r = c in
    let s = r in
    let k = s.args.c in
    goes_again k s.requires.0 s.requires.1 s.requires.2 s.requires.3
    (r.rapid_to-record.ensures ∙ λ i. rapid_to k.pass.facing (to_z-of_z (line_held s.before.before.before.before.before.before) i) (to_z-of_z (home_held s.before.before.before.before.before.before) i))
    (λ i. record { pass = k.pass; side = k.side; line = to_z-of_z (line_held s.before.before.before.before.before.before) i; depth = k.depth; cuts = k.cuts; empty = k.empty - 1; stage = Cut })

pub go_in_again_spec : {M : Type 1} → statement M
go_in_again_spec = tie.close (tie.spec (λ c κs. search rules) (λ c. search rules) returns)
