-- WHAT A CYCLE OFFERS: three definitions with a clause for each cycle (19, 17, and the records). Alarms 18 and 20 are said of the records alone, and so of no cycle.
use Rattle.std.specs.Prelude.{Bool, List, ℕ}
use Rattle.moves.specs.declared.Record.{Record}
use Rattle.turning.specs.Turning as turn
use Rattle.threading.specs.Threading as thread
use Rattle.grooving.specs.Grooving as groove
use Rattle.drilling.specs.Drilling as drill
use Rattle.cycles.specs.Feeds.{least_of_feed, least_of_pitch}
use Rattle.cycles.specs.declared.Cycle.{Cycle}
use Rattle.cycles.specs.declared.Cycle.TheVariants.{Turning, Threading, Grooving, Drilling}

-- alarm 19: "cycle lengths, directions or tool width"
abbrev pub wrong : Cycle → Bool
wrong (Turning c) = turn.too_short c
wrong (Threading t) = thread.wrong t
wrong (Grooving g) = groove.wrong g
wrong (Drilling b) = drill.wrong b

-- alarm 17: "A move by G01, G84 or G86 needs 1 to 9999, by G33 10 to 9999"; 02, G85: "F the pitch", "pitch in 17", which is that of G33; of G87 and G88: "Both need F as G84 does"
abbrev pub least_feed : Cycle → ℕ
least_feed (Turning c) = least_of_feed
least_feed (Threading t) = least_of_pitch
least_feed (Grooving g) = least_of_feed
least_feed (Drilling b) = least_of_feed

-- the records; alarm 18 asks every one of them, alarm 20 how many they are
abbrev pub records : Cycle → List Record
records (Turning c) = turn.turning c
records (Threading t) = thread.threading t
records (Grooving g) = groove.grooving g
records (Drilling b) = drill.drilling b
