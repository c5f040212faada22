-- What is known of what is in hand.
use Rattle.std.specs.Prelude.{◌≡◌, false}
use Rattle.taking.specs.of_stages.Cursor as cursor
use Rattle.taking.specs.declared.Hand.{Hand}
use Rattle.taking.specs.declared.Hand.TheVariants.{Nothing, Block}
use Rattle.taking.specs.Hands.{HandSound}

-- a record, where a block is
abbrev pub Some : Hand → Type 0
Some Nothing = Unit {0}
Some (Block c o) = cursor.over c.plan c.due ≡ false

pub record Held (h : Hand) : Type 0 where
  pub sound : HandSound h
  pub some : Some h
