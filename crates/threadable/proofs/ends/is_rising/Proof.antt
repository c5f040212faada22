-- `threadable::ends::is_rising` meets its contract.
use mathlib.Core.Path.{refl, sym, ◌∙◌}
use borrow.Author.Rules.{rules}
use borrow.Author.Tests.{leb-true, le-leb}
use Rattle.cuts.proofs.Opened.{rest_none}
use Rattle.threadable.proofs.Endings.{first_rises, first_risen, none_rises}
use Rattle.threadable.proofs.ends.is_rising.Statement.{statement}
use Rattle.threadable.proofs.ends.is_rising.Tie as tie

returns : tie.Need-returns-then-is_over
returns c =
    let o = c in
    let s = o in
    let none = rest_none s.args.depth s.args.c (sym o.is_over.ensures ∙ c.if-is_over.true) in
    (λ _. none_rises s.args.depth s.args.c none, λ _. refl)

next_requires : tie.Need-next-next-requires
next_requires c κs = let o = c in (o.requires, sym o.is_over.ensures ∙ c.if-is_over.false)

returns_2 : tie.Need-returns
returns_2 c =
    let n = c in
    let s = n in
    let x = s.args.depth in
    let y = n.next-next.result.depth in (
      λ t. first_rises x s.args.c s.requires n.next-next.ensures.first (leb-true x y t),
      λ h. le-leb x y (first_risen x s.args.c n.next-next.ensures.first h),
    )

pub is_rising_spec : {M : Type 1} → statement M
is_rising_spec = tie.close (tie.spec (λ c κs. search rules) returns next_requires returns_2)
