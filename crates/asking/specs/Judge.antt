-- The alarms of a deed: 15 "path word with no motion function", 16 "first traverse not G00", 17 "F missing or out of range", 19 "cycle lengths, directions or tool width", 18 "a move
-- ends outside the limits", 20 "records above 4,000 or above the buffer", in this order. 02, of arcs:
-- "I or K .. under another kept one or none in 15; a zero distance or unequal distances in 19; a quadrant point outside in 18"; "kinds 8 and 9 are as kind 2 with the end point, and a following record, kind 10, carries the centre".
use Rattle.std.specs.Prelude.{Bool, true, false, cond, not, ◌&&◌, ◌||◌, List, [], ◌∷◌, ℕ, ◌+◌, ltb, length}
use Rattle.alarms.specs.Numbers.{no_motion, not_rapid, bad_feed, outside_limits, bad_lengths, no_room}
use Rattle.moves.specs.declared.Record.{Record}
use Rattle.settings.specs.Limits.{outside}
use Rattle.axes.specs.Limits.{any_outside}
use Rattle.settings.specs.declared.Limits.{Limits}
use Rattle.arcs.specs.Arcs.{arc_records, uneven}
use Rattle.straying.specs.Straying.{straying}
use Rattle.cycles.specs.Feeds.{least_of_feed, greatest_feed}
use Rattle.cycles.specs.Cycle as cycle
use Rattle.cycles.specs.declared.Cycle as cycles
use Rattle.deeds.specs.declared.Deed.{Deed}
use Rattle.deeds.specs.declared.Deed.TheVariants.{Nothing, Nowhere, Dwell, Straight, Round, Cycle}
use Rattle.deeds.specs.declared.Round as rounds
use Rattle.deeds.specs.declared.Straight as straights
use Rattle.asking.specs.declared.Asked.{Asked}
use Rattle.asking.specs.declared.Asks.{Asks}

-- ---- what the alarms ask: 15 `nowhere`, 16 `waits`, 17 `least`, 19 `wrong`, 18 `outside`, 20 `count`
-- of a deed that moves nothing: so many records
abbrev pub quiet : ℕ → Asks
quiet n = record { nowhere = false; waits = false; least = 0; wrong = false; outside = false; count = n }

-- "Cycles and G33 are traverses"
abbrev pub of_straight : straights.Straight → Limits → Asks
of_straight m l = record { nowhere = false; waits = not m.rapid; least = m.least; wrong = false; outside = outside l m.goes.x m.goes.z; count = 1 }

-- "G02 and G03 .. need F .. as G01 does"; both of its records are written or none
abbrev pub of_round : rounds.Round → Limits → Asks
of_round r l = record { nowhere = false; waits = true; least = least_of_feed; wrong = uneven r.arc; outside = straying l r.arc; count = 2 }

-- of a cycle: of every one of its records, and nothing more where its lengths are wrong
abbrev pub refused : cycles.Cycle → Asks
refused c = record { nowhere = false; waits = true; least = cycle.least_feed c; wrong = true; outside = false; count = 0 }

abbrev pub of_records : cycles.Cycle → Limits → Asks
of_records c l = record { nowhere = false; waits = true; least = cycle.least_feed c; wrong = false; outside = any_outside l (cycle.records c); count = length (cycle.records c) }

abbrev pub of_cycle : cycles.Cycle → Limits → Asks
of_cycle c l = cond (cycle.wrong c) (refused c) (of_records c l)

unfoldable pub asks_of : Deed → Limits → Asks
asks_of Nothing l = quiet 0
asks_of Nowhere l = record { nowhere = true; waits = false; least = 0; wrong = false; outside = false; count = 0 }
asks_of (Dwell r) l = quiet 1
asks_of (Straight m) l = of_straight m l
asks_of (Round r) l = of_round r l
asks_of (Cycle c) l = of_cycle c l

-- ---- the alarms
-- "A move by G01, G84 or G86 needs 1 to 9999, by G33 10 to 9999"
abbrev pub feed_wrong : ℕ → ℕ → Bool
feed_wrong least f = ltb 0 least && (ltb greatest_feed f || ltb f least)

-- alarm 20, asked for all records of the block at once; a block that writes none never gives it
abbrev pub room_wrong : ℕ → Asked → Bool
room_wrong count a = ltb 0 (count + a.other_count) && ltb a.room_left (count + a.other_count)

-- the alarm, 0 for none: 15, 16, 17, 19, 18, 20
unfoldable pub alarm_of : Asks → Asked → ℕ
alarm_of q a =
    cond q.nowhere no_motion
    (cond (a.rapid_due && q.waits) not_rapid
    (cond (feed_wrong q.least a.f) bad_feed
    (cond q.wrong bad_lengths (cond q.outside outside_limits (cond (room_wrong q.count a) no_room 0)))))

-- ---- the records of a deed
unfoldable pub doing : Deed → List Record
doing Nothing = []
doing Nowhere = []
doing (Dwell r) = r ∷ []
doing (Straight m) = m.goes ∷ []
doing (Round r) = arc_records r.arc r.f r.g95
doing (Cycle c) = cycle.records c
