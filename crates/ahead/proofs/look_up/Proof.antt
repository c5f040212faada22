-- `ahead::look_up` meets its contract.
use mathlib.Core.Path.{◌≡◌, ◌∙◌}
use mathlib.Core.List.{List}
use Prim.Native.Nat.{ℕ}
use Rattle.places.specs.Places.{Row}
use Rattle.places.specs.declared.Found.{Found}
use Rattle.places.specs.declared.Found.TheVariants.{Nowhere}
use Rattle.settings.specs.declared.Settings.{Settings}
use Rattle.requests.specs.declared.Request.{Request}
use borrow.Author.Rules.{rules}
use borrow.Author.Tests.{eq-eqb, ne_eqb}
use Rattle.ahead.specs.Ahead.{looked_by, looked_up_in, LooksUp}
use Rattle.ahead.specs.declared.Frame.{Frame}
use Rattle.ahead.specs.declared.Onward.{Onward}
use Rattle.ahead.proofs.look_up.Statement.{statement}
use Rattle.ahead.proofs.look_up.Tie as tie

-- what no line is sought for is the same however lines are found
seeks_none : (row : List ℕ) (set : Settings) (f : Frame) (n : Request) (r : Onward) → ((program block : ℕ → Found) → r ≡ looked_by program block set f n)
    → (Row row → r ≡ looked_up_in row set f n) × LooksUp set f n r
unfolding looked_up_in
seeks_none row set f n r e = (λ _. e _ _, record { found = Nowhere; looks = e _ _ })

returns : tie.Need-returns-then-n-set
unfolding looked_by
returns c = seeks_none _ _ _ _ _ (λ _ _. rw (c.in-Call.is, c.if-n-set.true))

returns_2 : tie.Need-returns-then-frame-eq-MOST_CALLS
unfolding looked_by
returns_2 c = seeks_none _ _ _ _ _ (λ _ _. rw (c.in-Return.is, eq-eqb _ _ c.if-frame-eq-MOST_CALLS.true))

returns_3 : tie.Need-returns-then-frame-eq-MOST_CALLS-2
unfolding looked_by
returns_3 c = seeks_none _ _ _ _ _ (λ _ _. rw (c.in-End.is, eq-eqb _ _ c.if-frame-eq-MOST_CALLS-2.true))

returns_4 : tie.Need-returns-in-On
unfolding looked_by
returns_4 c = seeks_none _ _ _ _ _ (λ _ _. rw c.in-On.is)

returns_5 : tie.Need-returns-else-n-set
unfolding looked_up_in looked_by
returns_5 c = (
  λ row. c.called_at.ensures ∙ rw (c.find_program-found.ensures row, c.in-Call.is, c.if-n-set.false),
  record { found = c.find_program-found.result; looks = c.called_at.ensures ∙ rw (c.in-Call.is, c.if-n-set.false) },
)

returns_6 : tie.Need-returns-in-Jump
unfolding looked_up_in looked_by
returns_6 c = (
  λ row. c.jumped_to.ensures ∙ rw (c.find_block-found.ensures row, c.in-Jump.is),
  record { found = c.find_block-found.result; looks = c.jumped_to.ensures ∙ rw c.in-Jump.is },
)

returns_7 : tie.Need-returns-else-frame-eq-MOST_CALLS
unfolding looked_by
returns_7 c = seeks_none _ _ _ _ _ (λ _ _. rw (c.in-Return.is, ne_eqb _ _ c.if-frame-eq-MOST_CALLS.false))

returns_8 : tie.Need-returns-else-frame-eq-MOST_CALLS-2
unfolding looked_by
returns_8 c = seeks_none _ _ _ _ _ (λ _ _. rw (c.in-End.is, ne_eqb _ _ c.if-frame-eq-MOST_CALLS-2.false))

pub look_up_spec : {M : Type 1} → statement M
look_up_spec =
    tie.close
    (tie.spec
    (λ c. search rules)
    (λ c. search rules)
    returns
    (λ c κs. search rules)
    (λ c κs. search rules)
    (λ c. search rules)
    (λ c κs. search rules)
    (λ c κs. search rules)
    (λ c. search rules)
    returns_2
    (λ c. search rules)
    returns_3
    returns_4
    returns_5
    returns_6
    returns_7
    returns_8)
