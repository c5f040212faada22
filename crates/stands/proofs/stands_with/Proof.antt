-- `stands::stands_with` meets its contract.
use mathlib.Core.Path.{◌≡◌, sym, ap, ◌∙◌}
use Rattle.codes.specs.declared.Motion.{Motion}
use Rattle.stands.specs.Stands.{stands_with}
use borrow.Author.Rules.{rules}
use Rattle.stands.proofs.stands_with.Statement.{statement}
use Rattle.stands.proofs.stands_with.Tie as tie

-- a motion that was tested for
by : {m n : Motion} → m ≡ n → stands_with n ≡ stands_with m
by e = ap stands_with (sym e)

returns : tie.Need-returns-in-Rapid
unfolding stands_with
returns c = c.straight_with.ensures ∙ by c.in-Rapid.is

returns_2 : tie.Need-returns-in-Feed
unfolding stands_with
returns_2 c = c.straight_with-in-Feed.ensures ∙ by c.in-Feed.is

returns_3 : tie.Need-returns-in-Clockwise
unfolding stands_with
returns_3 c = c.stands_freely.ensures ∙ by c.in-Clockwise.is

returns_4 : tie.Need-returns-in-Counterclockwise
unfolding stands_with
returns_4 c = c.stands_freely-in-Counterclockwise.ensures ∙ by c.in-Counterclockwise.is

returns_5 : tie.Need-returns-in-Thread
unfolding stands_with
returns_5 c = c.straight_with-in-Thread.ensures ∙ by c.in-Thread.is

returns_6 : tie.Need-returns-in-Dwell
unfolding stands_with
returns_6 c = by c.in-Dwell.is

returns_7 : tie.Need-returns-in-Turning
unfolding stands_with
returns_7 c = c.cuts_with.ensures ∙ by c.in-Turning.is

returns_8 : tie.Need-returns-in-Threading
unfolding stands_with
returns_8 c = c.cuts_with-in-Threading.ensures ∙ by c.in-Threading.is

returns_9 : tie.Need-returns-in-Grooving
unfolding stands_with
returns_9 c = c.cuts_with-in-Grooving.ensures ∙ by c.in-Grooving.is

returns_10 : tie.Need-returns-in-ChipBreaking
unfolding stands_with
returns_10 c = c.drills_with.ensures ∙ by c.in-ChipBreaking.is

returns_11 : tie.Need-returns-in-Redrawing
unfolding stands_with
returns_11 c = c.drills_with-in-Redrawing.ensures ∙ by c.in-Redrawing.is

pub stands_with_spec : {M : Type 1} → statement M
stands_with_spec =
    tie.close
    (tie.spec
    (λ c. search rules)
    (λ c κs. search rules)
    (λ c. search rules)
    (λ c κs. search rules)
    (λ c. search rules)
    (λ c κs. search rules)
    (λ c. search rules)
    (λ c κs. search rules)
    (λ c. search rules)
    (λ c κs. search rules)
    (λ c. search rules)
    (λ c. search rules)
    (λ c κs. search rules)
    (λ c. search rules)
    (λ c κs. search rules)
    (λ c. search rules)
    (λ c κs. search rules)
    (λ c. search rules)
    (λ c κs. search rules)
    (λ c. search rules)
    (λ c κs. search rules)
    returns
    returns_2
    returns_3
    returns_4
    returns_5
    returns_6
    returns_7
    returns_8
    returns_9
    returns_10
    returns_11)
