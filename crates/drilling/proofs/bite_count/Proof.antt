-- `drilling::bite_count` meets its contract.
use mathlib.Core.Path.{◌≡◌, sym, ap, ◌∙◌, subst}
use mathlib.Core.Bool.{false}
use Prim.Native.Nat.{ℕ}
use native.Mathlib.Omega.{arith}
use lib.ListN.{length}
use Rattle.bites.specs.Bites.{biting, has_zero}
use Rattle.drilling.proofs.Asked.{asked, one_bite, more_bites}
use borrow.Author.Rules.{rules}
use Rattle.drilling.proofs.bite_count.Statement.{statement}
use Rattle.drilling.proofs.bite_count.Tie as tie

stroke_of_requires : tie.Need-stroke_of-stroke-requires
stroke_of_requires c κs = search rules

returns : tie.Need-returns-then-b-eq0
returns c = let b = c.args.b in sym (ap length (one_bite b c.if-b-eq0.true))

bite_count_requires : tie.Need-bite_count-requires
bite_count_requires c κs =
    let s = c in
    let b = s.args.b in
    let a = asked b s.requires in
    let e = c.stroke_of-stroke.ensures in (
      a.part,
      omega (arith, c.if-b-eq0.false),
      omega (arith, e, a.long),
      subst (λ (n : ℕ). has_zero (biting b.less b.least b.first n n) ≡ false) (sym e) (sym (ap has_zero (more_bites b c.if-b-eq0.false)) ∙ a.above),
    )

returns_2 : tie.Need-returns
returns_2 c =
    let b = c.args.b in
    c.bite_count.ensures
    ∙ ap (λ (n : ℕ). length (biting b.less b.least b.first n n)) c.stroke_of-stroke.ensures
    ∙ sym (ap length (more_bites b c.if-b-eq0.false))

pub bite_count_spec : {M : Type 1} → statement M
bite_count_spec = tie.close (tie.spec stroke_of_requires returns bite_count_requires returns_2)
