-- Whether the key is found is what `is_held` says of what is looked up.
use Rattle.std.proofs.Common.{sym, ap, ◌∙◌}
use Rattle.places.specs.Places.{is_at, is_held}
use Rattle.places.proofs.holds.Goals as goal

pub returns-in-At : goal.returns-in-At
unfolding is_held
returns-in-At c = sym (ap is_at (sym (c.find.ensures c.requires.1) ∙ c.in-At.is))

pub returns-in_default : goal.returns-in_default
unfolding is_held
returns-in_default c = sym (ap is_at (sym (c.find.ensures c.requires.1) ∙ c.in_default.is))
