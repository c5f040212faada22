-- What is known of a deed and of the block that gave it. It serves contracts and proofs.
use Rattle.std.specs.Prelude.{◌≡◌, false, ◌<◌, ◌^◌, ℤ, pos, ◌*ℤ◌, ◌≤ℤ◌}
use Rattle.std.specs.Int.{w32}
use Rattle.std.proofs.Common.{SFits}
use Rattle.whole.specs.Position.{table_least, table_greatest}
use Rattle.settings.specs.Known.{SpanIn}
use Rattle.settings.specs.declared.Limits.{Limits}
use Rattle.moves.specs.Form.{Fitting}
use Rattle.block.specs.declared.Block.{Block}
use Rattle.arcs.specs.Arcs.{uneven}
use Rattle.arcs.specs.Known.{InReach, LimitsInReach, Central}
use Rattle.cycles.specs.Cycle as cycle
use Rattle.cycles.specs.Known as cycles
use Rattle.deeds.specs.Deed.{start_spot, centre_words}
use Rattle.deeds.specs.declared.Deed.{Deed}
use Rattle.deeds.specs.declared.Deed.TheVariants.{Nothing, Nowhere, Dwell, Straight, Round, Cycle}
use Rattle.deeds.specs.declared.Round as rounds
use Rattle.scaling.specs.declared.Sending.{Sending}

-- the I and K words of a block that was read, and where the axes stand: all in the table's range
abbrev pub Centred : Block → Sending → Type 0
Centred b s = Central (start_spot s) (centre_words b)

-- a place of a centre: within three times the table's range
abbrev pub InThrice : ℤ → Type 0
InThrice z = ((pos 3 *ℤ table_least) ≤ℤ z) × (z ≤ℤ (pos 3 *ℤ table_greatest))

-- an arc that a block gave: its distances, and those of limits in the table's range, can be multiplied, and its numbers fit their places
pub record Curved (r : rounds.Round) : Type 0 where
  pub reach : InReach r.arc
  pub limits : (l : Limits) → SpanIn l.x → SpanIn l.z → LimitsInReach l r.arc
  pub centre_x : InThrice r.arc.centre.x
  pub centre_z : InThrice r.arc.centre.z
  pub end_x : SFits w32 r.arc.end.x
  pub end_z : SFits w32 r.arc.end.z
  pub f : r.f < 2 ^ 32

-- its lengths are right (19), as its records are written
abbrev pub Right : Deed → Type 0
Right Nothing = Unit {0}
Right Nowhere = Unit {0}
Right (Dwell r) = Unit {0}
Right (Straight m) = Unit {0}
Right (Round r) = uneven r.arc ≡ false
Right (Cycle c) = cycle.wrong c ≡ false

-- what is known of a deed that a block gave: its numbers fit their places
abbrev pub Known : Deed → Type 0
Known Nothing = Unit {0}
Known Nowhere = Unit {0}
Known (Dwell r) = Fitting r
Known (Straight m) = Fitting m.goes
Known (Round r) = Curved r
Known (Cycle c) = cycles.Known c
