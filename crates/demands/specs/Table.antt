-- 01, "Pieces that must come out so": P1 to P10 as a single table, the listing that it prints, a facing G84, and which blocks records came from. Cases by tape go through all definitions, with the settings of `listmoves`; places on a tape count from 0.
use Rattle.std.specs.Prelude.{Bool, true, false, ◌&&◌, List, [], ◌∷◌, ◌++◌, ℕ, eqb, ℤ, pos}
use Prim.Native.String.{String}
use Rattle.std.specs.Int.Signed.{le_z}
use Rattle.whole.specs.Signed.{minus}
use Rattle.division.specs.Division.{count, pieces}
use Rattle.moves.specs.Form.{listed}
use Rattle.moves.specs.Kinds.{rapid, feed, miscellaneous, speed}
use Rattle.moves.specs.declared.Record.{Record}
use Rattle.moves.specs.declared.Origin.{Origin}
use Rattle.moves.specs.declared.Listed.{Listed}
use Rattle.letters.specs.Text.{bytes}
use Rattle.addresses.specs.Words.{next_word}
use Rattle.addresses.specs.declared.NextWord.{NextWord}
use Rattle.addresses.specs.declared.NextWord.TheVariants as next
use Rattle.reading.specs.Filling.{most_places}
use Rattle.panel.specs.Listmoves.{listmoves, no_offsets}
use Rattle.interpreter.specs.of_answers.Answers.{number_of, place_of, count_of}
use Rattle.interpreter.specs.Answers.{Result, interpretation}
use Rattle.interpreter.specs.of_runners.Runs.{records_of, listed_of}

-- what comes of a tape, with a table of places of 21,845 entries and a buffer of 64,008 bytes
abbrev pub comes_of : String → Result
comes_of text = interpretation (bytes text) no_offsets listmoves most_places 64_008

-- ---- one question each
pub data Case : Type 0 where
  -- a length, the greatest piece, the pieces
  divides : ℕ → ℕ → List ℕ → Case
  -- a word, and its value
  reads : String → ℤ → Case
  -- a tape, and its alarm: number, place, records written
  alarms : String → ℕ → ℕ → ℕ → Case
  -- a tape, and the records of its complete list
  lists : String → List Record → Case
  -- the same, each with the program and the block that it came from
  names : String → List Listed → Case

-- ---- whether it holds
abbrev same_z : ℤ → ℤ → Bool
same_z a b = le_z a b && le_z b a

abbrev same : List ℕ → List ℕ → Bool
same [] [] = true
same [] (y ∷ ys) = false
same (x ∷ xs) [] = false
same (x ∷ xs) (y ∷ ys) = eqb x y && same xs ys

abbrev same_record : Record → Record → Bool
same_record r s = (eqb r.kind s.kind && eqb r.flags s.flags) && ((same_z r.x s.x && same_z r.z s.z) && eqb r.value s.value)

abbrev same_records : List Record → List Record → Bool
same_records [] [] = true
same_records [] (s ∷ ss) = false
same_records (r ∷ rs) [] = false
same_records (r ∷ rs) (s ∷ ss) = same_record r s && same_records rs ss

abbrev same_origin : Origin → Origin → Bool
same_origin o q = eqb o.program q.program && eqb o.block q.block

abbrev same_listed : List Listed → List Listed → Bool
same_listed [] [] = true
same_listed [] (m ∷ ms) = false
same_listed (l ∷ ls) [] = false
same_listed (l ∷ ls) (m ∷ ms) = (same_record l.what m.what && same_origin l.origin m.origin) && same_listed ls ms

abbrev is_value : NextWord → ℤ → Bool
is_value (next.Word w end) v = same_z w.value v
is_value next.End v = false
is_value next.Fault v = false

abbrev gives_alarm : Result → ℕ → ℕ → ℕ → Bool
gives_alarm x n p k = (eqb (number_of x.answer) n && eqb (place_of x.answer) p) && eqb (count_of x.answer) k

abbrev gives_list : Result → List Record → Bool
gives_list x rs = eqb (number_of x.answer) 0 && same_records (records_of x.steps) rs

abbrev names_blocks : Result → List Listed → Bool
names_blocks x ls = eqb (number_of x.answer) 0 && same_listed (listed_of x.steps) ls

abbrev pub holds : Case → Bool
holds (divides e d row) = same (pieces e (count e d)) row
holds (reads text v) = is_value (next_word (bytes text) 0) v
holds (alarms text n p k) = gives_alarm (comes_of text) n p k
holds (lists text rs) = gives_list (comes_of text) rs
holds (names text ls) = names_blocks (comes_of text) ls

abbrev pub all_hold : List Case → Bool
all_hold [] = true
all_hold (c ∷ cs) = holds c && all_hold cs

-- a record of a block of a program
abbrev from : ℕ → ℕ → Record → Listed
from program block r = listed (record { program = program; block = block }) r

-- ---- the table
-- P6: "plunges at Z -24, -26.5, -29; depth four of 2,667 and two of 2,666 (diameter); 39 records"
abbrev grooves : List Record
grooves =
    feed (pos 39333) (minus 24000) 120 true
    ∷ rapid (pos 40333) (minus 24000)
    ∷ feed (pos 36666) (minus 24000) 120 true
    ∷ rapid (pos 37666) (minus 24000)
    ∷ feed (pos 33999) (minus 24000) 120 true
    ∷ rapid (pos 34999) (minus 24000)
    ∷ feed (pos 31332) (minus 24000) 120 true
    ∷ rapid (pos 32332) (minus 24000)
    ∷ feed (pos 28666) (minus 24000) 120 true
    ∷ rapid (pos 29666) (minus 24000)
    ∷ feed (pos 26000) (minus 24000) 120 true
    ∷ rapid (pos 42000) (minus 24000)
    ∷ rapid (pos 42000) (minus 26500)
    ∷ feed (pos 39333) (minus 26500) 120 true
    ∷ rapid (pos 40333) (minus 26500)
    ∷ feed (pos 36666) (minus 26500) 120 true
    ∷ rapid (pos 37666) (minus 26500)
    ∷ feed (pos 33999) (minus 26500) 120 true
    ∷ rapid (pos 34999) (minus 26500)
    ∷ feed (pos 31332) (minus 26500) 120 true
    ∷ rapid (pos 32332) (minus 26500)
    ∷ feed (pos 28666) (minus 26500) 120 true
    ∷ rapid (pos 29666) (minus 26500)
    ∷ feed (pos 26000) (minus 26500) 120 true
    ∷ rapid (pos 42000) (minus 26500)
    ∷ rapid (pos 42000) (minus 29000)
    ∷ feed (pos 39333) (minus 29000) 120 true
    ∷ rapid (pos 40333) (minus 29000)
    ∷ feed (pos 36666) (minus 29000) 120 true
    ∷ rapid (pos 37666) (minus 29000)
    ∷ feed (pos 33999) (minus 29000) 120 true
    ∷ rapid (pos 34999) (minus 29000)
    ∷ feed (pos 31332) (minus 29000) 120 true
    ∷ rapid (pos 32332) (minus 29000)
    ∷ feed (pos 28666) (minus 29000) 120 true
    ∷ rapid (pos 29666) (minus 29000)
    ∷ feed (pos 26000) (minus 29000) 120 true
    ∷ rapid (pos 42000) (minus 29000)
    ∷ rapid (pos 42000) (minus 24000)
    ∷ []

-- P7: "X 30, 26, 22; Z -0.75, -2.5, -4.25, -6"
abbrev faced : List Record
faced =
    feed (pos 30000) (minus 750) 120 true
    ∷ rapid (pos 30000) (minus 250)
    ∷ feed (pos 30000) (minus 2500) 120 true
    ∷ rapid (pos 30000) (minus 2000)
    ∷ feed (pos 30000) (minus 4250) 120 true
    ∷ rapid (pos 30000) (minus 3750)
    ∷ feed (pos 30000) (minus 6000) 120 true
    ∷ rapid (pos 30000) (pos 1000)
    ∷ rapid (pos 26000) (pos 1000)
    ∷ feed (pos 26000) (minus 750) 120 true
    ∷ rapid (pos 26000) (minus 250)
    ∷ feed (pos 26000) (minus 2500) 120 true
    ∷ rapid (pos 26000) (minus 2000)
    ∷ feed (pos 26000) (minus 4250) 120 true
    ∷ rapid (pos 26000) (minus 3750)
    ∷ feed (pos 26000) (minus 6000) 120 true
    ∷ rapid (pos 26000) (pos 1000)
    ∷ rapid (pos 22000) (pos 1000)
    ∷ feed (pos 22000) (minus 750) 120 true
    ∷ rapid (pos 22000) (minus 250)
    ∷ feed (pos 22000) (minus 2500) 120 true
    ∷ rapid (pos 22000) (minus 2000)
    ∷ feed (pos 22000) (minus 4250) 120 true
    ∷ rapid (pos 22000) (minus 3750)
    ∷ feed (pos 22000) (minus 6000) 120 true
    ∷ rapid (pos 22000) (pos 1000)
    ∷ rapid (pos 30000) (pos 1000)
    ∷ []

abbrev pub table : List Case
table =
    -- P1 to P5
    divides 10000 3000 (2500 ∷ 2500 ∷ 2500 ∷ 2500 ∷ [])
    ∷ divides 10001 3000 (2501 ∷ 2500 ∷ 2500 ∷ 2500 ∷ [])
    ∷ divides 10000 2500 (2500 ∷ 2500 ∷ 2500 ∷ 2500 ∷ [])
    ∷ divides 10001 2500 (2001 ∷ 2000 ∷ 2000 ∷ 2000 ∷ 2000 ∷ [])
    ∷ divides 1 1 (1 ∷ [])
    -- P6 and P7
    ∷ lists "%1\nN10 G00 X42. Z-24.\nN20 G86 X26. Z-32. D3=1500 D5=3000 F120\nN30 M30"
    (rapid (pos 42000) (minus 24000) ∷ grooves ++ (miscellaneous (pos 42000) (minus 24000) 30 ∷ []))
    ∷ lists "%1\nN10 G00 X30. Z1.\nN20 G86 Z-6. X16. D3=2000 D5=3000 F120\nN30 M30"
    (rapid (pos 30000) (pos 1000) ∷ faced ++ (miscellaneous (pos 30000) (pos 1000) 30 ∷ []))
    -- P8
    ∷ reads "X40" (pos 40)
    ∷ reads "X40." (pos 40000)
    -- P9, as 02 has it: from X40.8 to X40., Z2. to Z0
    ∷ alarms "%1\nN10 G00 X40.8 Z2.\nN20 G84 X40. Z0 D0=400 F120\nN30 M30" 19 21 1
    ∷ lists "%1\nN10 G00 X40.8 Z2.\nN20 G84 X40. Z0 D0=399 F120\nN30 M30"
    (rapid (pos 40800) (pos 2000)
    ∷ rapid (pos 40798) (pos 2000)
    ∷ feed (pos 40798) (pos 0) 120 true
    ∷ feed (pos 40800) (pos 0) 120 true
    ∷ rapid (pos 40800) (pos 2000)
    ∷ miscellaneous (pos 40800) (pos 2000) 30
    ∷ [])
    -- P10
    ∷ alarms "%1\nN10 T0101\nN20 G01 X1.\nN30 M30" 16 13 1
    -- the listing that 01 prints, with the pass lines of 02
    ∷ lists "%1\nN10 G00 X40. Z2.\nN20 G84 X30. Z-20. D0=400 D2=100 D3=2500 F120\nN30 M30"
    (rapid (pos 40000) (pos 2000)
    ∷ rapid (pos 35400) (pos 2000)
    ∷ feed (pos 35400) (minus 19900) 120 true
    ∷ feed (pos 40000) (minus 19900) 120 true
    ∷ rapid (pos 40000) (pos 2000)
    ∷ rapid (pos 30800) (pos 2000)
    ∷ feed (pos 30800) (minus 19900) 120 true
    ∷ feed (pos 40000) (minus 19900) 120 true
    ∷ rapid (pos 40000) (pos 2000)
    ∷ miscellaneous (pos 40000) (pos 2000) 30
    ∷ [])
    -- a facing G84 with D0, D2 and D3: 7,000 less 99 in pieces of at most 3,500 is 3,451 and 3,450; the end line is X20. and twice 400 more
    ∷ lists "%1\nN10 G00 X40. Z2.\nN20 G84 Z-5. X20. D0=400 D2=99 D3=3500 F120\nN30 M30"
    (rapid (pos 40000) (pos 2000)
    ∷ rapid (pos 40000) (minus 1451)
    ∷ feed (pos 20800) (minus 1451) 120 true
    ∷ feed (pos 20800) (pos 2000) 120 true
    ∷ rapid (pos 40000) (pos 2000)
    ∷ rapid (pos 40000) (minus 4901)
    ∷ feed (pos 20800) (minus 4901) 120 true
    ∷ feed (pos 20800) (pos 2000) 120 true
    ∷ rapid (pos 40000) (pos 2000)
    ∷ miscellaneous (pos 40000) (pos 2000) 30
    ∷ [])
    -- 02, request 7: the listing with its blocks, as `listmoves` prints it
    ∷ names "%1\nN10 G00 X40. Z2.\nN20 G84 X30. Z-20. D0=400 D2=100 D3=2500 F120\nN30 M30"
    (from 1 10 (rapid (pos 40000) (pos 2000))
    ∷ from 1 20 (rapid (pos 35400) (pos 2000))
    ∷ from 1 20 (feed (pos 35400) (minus 19900) 120 true)
    ∷ from 1 20 (feed (pos 40000) (minus 19900) 120 true)
    ∷ from 1 20 (rapid (pos 40000) (pos 2000))
    ∷ from 1 20 (rapid (pos 30800) (pos 2000))
    ∷ from 1 20 (feed (pos 30800) (minus 19900) 120 true)
    ∷ from 1 20 (feed (pos 40000) (minus 19900) 120 true)
    ∷ from 1 20 (rapid (pos 40000) (pos 2000))
    ∷ from 1 30 (miscellaneous (pos 40000) (pos 2000) 30)
    ∷ [])
    -- "For a move inside a subprogram it is the subprogram's block": two runs of a subprogram, and the main program behind them
    ∷ names "%80\nN15 S5 G00 X1. Z2. M08\nN40 M17\n%1\nN10 G25 L8002\nN20 M00\nN30 M30"
    (from 80 15 (speed (pos 60000) (pos 50000) 5 false)
    ∷ from 80 15 (miscellaneous (pos 60000) (pos 50000) 8)
    ∷ from 80 15 (rapid (pos 1000) (pos 2000))
    ∷ from 80 15 (speed (pos 1000) (pos 2000) 5 false)
    ∷ from 80 15 (miscellaneous (pos 1000) (pos 2000) 8)
    ∷ from 80 15 (rapid (pos 1000) (pos 2000))
    ∷ from 1 20 (miscellaneous (pos 1000) (pos 2000) 0)
    ∷ from 1 30 (miscellaneous (pos 1000) (pos 2000) 30)
    ∷ [])
    ∷ []
