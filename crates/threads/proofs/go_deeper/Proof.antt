-- `threads::go_deeper` meets its contract.
use mathlib.Core.Path.{refl, sym, ap, subst, ◌∙◌}
use Prim.Native.Nat.{◌-◌}
use lib.IntN.{◌+ℤ◌}
use mir.Syntax.{w32}
use mir.Val.{SFits}
use mir.Facts.{to_z-of_z}
use borrow.Author.Rules.{rules, sfits_of}
use Rattle.whole.specs.Signed.{along}
use Rattle.axes.specs.Goes.{rapid_to}
use Rattle.threading.proofs.Lines.{wide_small}
use Rattle.threads.proofs.Cursors.{not_above, small_cut, line_next_fits, goes_deeper}
use Rattle.threads.proofs.go_deeper.Statement.{statement}
use Rattle.threads.proofs.go_deeper.Tie as tie

-- asked at the function's entry, where `search` still reaches them
line_held : (s : tie.Start) → SFits w32 s.args.c.line
line_held s = search rules

home_held : (s : tie.Start) → SFits w32 s.args.c.pass.home
home_held s = search rules

sub_wide_of : tie.Need-overflow_sub-depth
sub_wide_of c = let n = c in let s = n in not_above s.args.c s.requires.0 n.next-handed.ensures

cast_by : tie.Need-overflow_cast-by
cast_by c =
    let n = c in
    let s = n in
    let k = s.args.c in
    let h = small_cut k s.requires.0 n.next-handed.ensures in
    let w = wide_small k.pass.facing (n.next-handed.result.depth - k.depth) in
    search rules

step_requires : tie.Need-step-line-requires
step_requires c κs =
    let w = c in
    let n = w in
    let s = n in
    let k = s.args.c in
    let f = line_held s.before.before.before.before.before in
    subst (SFits w32) (sym (λ i. to_z-of_z f i +ℤ along k.side (w.wide_of-by.ensures i))) (line_next_fits k s.requires.0 n.next-handed.ensures f)

returns : tie.Need-returns
returns c =
    let t = c in
    let w = t in
    let n = w in
    let s = n in
    let k = s.args.c in
    let line = to_z-of_z (sfits_of {w = w32} t.step-line.type_inv) ∙ t.step-line.ensures ∙ (λ i. to_z-of_z (line_held s.before.before.before.before.before.before.before.before) i +ℤ along k.side (w.wide_of-by.ensures i)) in
    goes_deeper k s.requires.0 n.next-handed.ensures s.requires.1 line
    (c.rapid_to-record.ensures ∙ ap (rapid_to k.pass.facing _) (to_z-of_z (home_held s.before.before.before.before.before.before.before.before)))
    refl

pub go_deeper_spec : {M : Type 1} → statement M
go_deeper_spec =
    tie.close
    (tie.spec
    (λ c κs. search rules)
    sub_wide_of
    (λ c κs. search rules)
    cast_by
    step_requires
    (λ c κs. search rules)
    returns)
