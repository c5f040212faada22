-- What is known of a cycle, and where it starts. It serves contracts and proofs.
use Rattle.std.specs.Prelude.{◌<◌, ◌^◌}
use Rattle.std.specs.Int.{w32}
use Rattle.std.proofs.Common.{SFits}
use Rattle.moves.specs.declared.Record.{Record}
use Rattle.axes.specs.Goes.{rapid_to}
use Rattle.threading.specs.Threading as thread
use Rattle.grooving.specs.Grooving as groove
use Rattle.drilling.specs.Drilling as drill
use Rattle.cycles.specs.declared.Cycle.{Cycle}
use Rattle.cycles.specs.declared.Cycle.TheVariants.{Turning, Threading, Grooving, Drilling}

-- what is known of a cycle that a block gave: its numbers fit their places, and its start and target are not too far apart to count its records in 64 bits
abbrev pub Known : Cycle → Type 0
Known (Turning c) = (SFits w32 c.infeed.start × SFits w32 c.infeed.target) × (SFits w32 c.path.start × SFits w32 c.path.target) × (c.f < 2 ^ 32)
Known (Threading t) = (SFits w32 t.infeed.start × SFits w32 t.infeed.target) × (SFits w32 t.path.start × SFits w32 t.path.target) × (t.pitch < 2 ^ 32) × thread.Told t
Known (Grooving g) =
    (SFits w32 g.depth.start × SFits w32 g.depth.target) × (SFits w32 g.width.start × SFits w32 g.width.target) × (g.f < 2 ^ 32) × (g.dwell < 2 ^ 32)
    × (groove.length_of g.depth < 100_000_000)
    × (groove.length_of g.width < 100_000_000)
Known (Drilling b) = SFits w32 b.x × (SFits w32 b.start × SFits w32 b.target) × (b.f < 2 ^ 32) × (b.dwell < 2 ^ 32)

-- the record at the place where the cycle starts: it goes back there in the end
abbrev pub home : Cycle → Record
home (Turning c) = rapid_to c.facing c.infeed.start c.path.start
home (Threading t) = rapid_to t.facing t.infeed.start t.path.start
home (Grooving g) = groove.out_to g g.width.start g.depth.start
home (Drilling b) = drill.out_to b b.start
