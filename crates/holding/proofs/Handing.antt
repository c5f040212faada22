-- A record that is taken of what is in hand.
-- Assumes nothing.
use mathlib.Core.Path.{◌≡◌, refl, sym, ap, subst, ◌∙◌}
use mathlib.Core.Bool.{true, false}
use mathlib.Core.List.{[], ◌∷◌}
use Rattle.moves.specs.Form.{stamped}
use Rattle.moves.specs.declared.Record.{Record}
use Rattle.moves.specs.declared.Origin.{Origin}
use Rattle.taking.specs.of_stages.Cursor as cursor
use Rattle.taking.specs.of_stages.declared.Cursor.{Cursor}
use Rattle.taking.specs.of_stages.declared.Due.{Due}
use Rattle.taking.proofs.of_handing.Cursors.{rest_none}
use Rattle.taking.specs.declared.Hand.{Hand}
use Rattle.taking.specs.declared.Hand.TheVariants.{Nothing, Block}
use Rattle.taking.specs.Hands.{in_hand, HandSound}
use Rattle.holding.specs.Held.{Some, Held}

-- nothing in hand has no records
pub none_in_hand : in_hand Nothing ≡ []
unfolding in_hand
none_in_hand = refl

-- nothing is left of a block that is over
none_held : (c : Cursor) (o : Origin) → cursor.over c.plan c.due ≡ true → in_hand Nothing ≡ in_hand (Block c o)
unfolding in_hand stamped
none_held c o e = sym (ap (stamped o) (rest_none c.plan c.due e))

pub held_none : (h : Hand) (c : Cursor) (o : Origin) → h ≡ Block c o → cursor.over c.plan c.due ≡ true → (in_hand Nothing ≡ in_hand h) × Held Nothing
held_none h c o is e = (none_held c o e ∙ ap in_hand (sym is), record { sound = tt; some = tt })

pub held_nothing : (h : Hand) → h ≡ Nothing → HandSound h → (in_hand h ≡ in_hand h) × Held h
held_nothing h is s = (refl, record { sound = s; some = subst Some (sym is) tt })

pub held_some : (h : Hand) (c : Cursor) (o : Origin) → h ≡ Block c o → HandSound h → cursor.over c.plan c.due ≡ false → (in_hand (Block c o) ≡ in_hand h) × Held (Block c o)
held_some h c o is s e = (ap in_hand (sym is), record { sound = subst HandSound is s; some = e })

-- the first of them, and the others
module _ (c : Cursor) (o : Origin) (made : Record) (behind : Due) (m : cursor.Makes c.plan c.due made behind) where
  abbrev after : Cursor
  after = record { plan = c.plan; due = behind }

  first : in_hand (Block c o) ≡ record { what = made; origin = o } ∷ in_hand (Block after o)
  unfolding in_hand stamped
  first = ap (stamped o) m.first

  pub taken_last : cursor.over c.plan behind ≡ true → (in_hand (Block c o) ≡ record { what = made; origin = o } ∷ in_hand Nothing) × Held Nothing
  taken_last e = (first ∙ ap (λ l. record { what = made; origin = o } ∷ l) (sym (none_held after o e)), record { sound = tt; some = tt })

  pub taken_more : cursor.over c.plan behind ≡ false → (in_hand (Block c o) ≡ record { what = made; origin = o } ∷ in_hand (Block after o)) × Held (Block after o)
  taken_more e = (first, record { sound = m.sound; some = e })
