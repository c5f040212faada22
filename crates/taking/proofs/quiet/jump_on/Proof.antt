-- `taking::quiet::jump_on` meets its contract.
use mathlib.Core.Path.{refl, ap, ◌∙◌}
use borrow.Author.Rules.{rules}
use borrow.Author.Tests.{lt-ltb, le-ltb}
use Rattle.jumping.specs.Jumping.{jump_in}
use Rattle.jumping.proofs.Texts.{part_is}
use Rattle.taking.specs.Meets.{jump_on}
use Rattle.taking.proofs.Lines.{jump_told}
use Rattle.taking.proofs.quiet.jump_on.Statement.{statement}
use Rattle.taking.proofs.quiet.jump_on.Tie as tie

returns : tie.Need-returns-then-line-gt-LONGEST_LINE
unfolding jump_on
returns c = (rw (lt-ltb _ _ c.if-line-gt-LONGEST_LINE.true), tt)

returns_2 : tie.Need-returns
unfolding jump_on
returns_2 c =
    let e = c in
    let s = e in
    let line = s.args.line.now in
    let told = c.jump_in.ensures ∙ ap jump_in (part_is line s.args.behind) in
    (told ∙ rw (le-ltb _ _ e.if-line-gt-LONGEST_LINE.false) refl, jump_told line s.args.behind s.requires e.if-line-gt-LONGEST_LINE.false c.jump_in.result told)

pub jump_on_spec : {M : Type 1} → statement M
jump_on_spec = tie.close (tie.spec returns (λ c. search rules) (λ c. search rules) (λ c. search rules) (λ c κs. search rules) returns_2)
