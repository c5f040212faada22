-- `taking::quiet::do_quiet` meets its contract.
use mathlib.Core.Path.{sym, subst}
use lib.ListN.{take}
use borrow.Author.Rules.{rules}
use Rattle.ahead.specs.declared.Frame.{Frame}
use Rattle.taking.specs.declared.quiet.Quiet.{Quiet}
use Rattle.taking.specs.Meets.{Begun, Jumped, QuietDone}
use Rattle.taking.proofs.quiet.do_quiet.Statement.{statement}
use Rattle.taking.proofs.quiet.do_quiet.Tie as tie

pass_block_requires : tie.Need-pass_block-requires
pass_block_requires c κs = let s = c in subst (Begun s.args.run.blocks_left) c.in-Bare.is s.requires.1

do_jump_requires : tie.Need-do_jump-requires
do_jump_requires c κs =
    let q = c in
    let s = q in
    (s.requires.0, subst (Begun s.args.run.blocks_left) q.in-Jump.is s.requires.1)

returns : tie.Need-returns-in-Ended
returns c =
    let a = c.args in
    subst (λ (q : Quiet). QuietDone (take a.count a.places.now) a.set a.frame q a.run c.stopped.result) (sym c.in-Ended.is) c.stopped.ensures

returns_2 : tie.Need-returns-in-Bare
returns_2 c =
    let q = c in
    let a = q.args in
    subst (λ (q : Quiet). QuietDone (take a.count a.places.now) a.set a.frame q a.run c.pass_block.result) (sym q.in-Bare.is) c.pass_block.ensures

returns_3 : tie.Need-returns-in-Jump
returns_3 c =
    let o = c in
    let q = o in
    let a = q.args in
    subst (λ (q : Quiet). QuietDone (take a.count a.places.now) a.set a.frame q a.run c.do_jump.result) (sym q.in-Jump.is)
    (subst (λ (f : Frame). Jumped (take a.count a.places.now) a.set f q.in-Jump.to a.run q.in-Jump.after c.do_jump.result) o.onto-there.ensures c.do_jump.ensures)

pub do_quiet_spec : {M : Type 1} → statement M
do_quiet_spec =
    tie.close
    (tie.spec
    (λ c. search rules)
    (λ c κs. search rules)
    (λ c. search rules)
    pass_block_requires
    (λ c. search rules)
    (λ c κs. search rules)
    do_jump_requires
    returns
    returns_2
    returns_3)
