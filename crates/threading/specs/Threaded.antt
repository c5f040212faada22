-- WHAT A THREADING CYCLE PROMISES, said of a row of records alone, whoever made it. Of the cycle only its axes and its words are cited, and nothing of how records are made.
-- Every thread move runs along the whole path at a depth from the crest, and every pass ends where it began. Each depth is at least the one before it; the last cut
-- and the empty cuts stand exactly at D6, and nothing goes deeper. What else its cuts promise is said by their rule (`Promised`).
use Rattle.std.specs.Prelude.{◌≡◌, Bool, cond, List, [], ◌∷◌, ℕ, ◌+◌, ◌-◌, ◌*◌, ℤ, ◌+ℤ◌, length, take, drop, replicate}
use Rattle.whole.specs.Among.{among}
use Rattle.whole.specs.Signed.{along}
use Rattle.moves.specs.declared.Record.{Record}
use Rattle.axes.specs.Axis.{distance, side}
use Rattle.axes.specs.Goes.{inward_of, across_of}
use Rattle.depths.specs.Promised.{Promised}
use Rattle.threading.specs.declared.Thread.{Thread}

-- ---- reading the records
-- 01: "5 tool (T), 6 M (number), 7 speed": of a block's records those besides its motion
abbrev pub is_beside : Record → Bool
is_beside r = among r.kind (5 ∷ 6 ∷ 7 ∷ [])

-- a row without those of them that it begins with, and without those that it ends with
unfoldable pub from_first : List Record → List Record
from_first [] = []
from_first (r ∷ rs) = cond (is_beside r) (from_first rs) (r ∷ rs)

abbrev pub before : Record → List Record → List Record
before r [] = cond (is_beside r) [] (r ∷ [])
before r (s ∷ ss) = r ∷ s ∷ ss

unfoldable pub up_to_last : List Record → List Record
up_to_last [] = []
up_to_last (r ∷ rs) = before r (up_to_last rs)

-- what is left is the block's motion
abbrev pub motion : List Record → List Record
motion rs = up_to_last (from_first rs)

-- 01: "1 rapid (0) .. 3 thread (pitch) .. Other flags are 0": a record of a kind and a value that ends at i on the axis that goes in, and at a on the axis across it
pub record Goes (facing : Bool) (kind value : ℕ) (i a : ℤ) (r : Record) : Type 0 where
  pub is : r.kind ≡ kind
  pub plain : r.flags ≡ 0
  pub worth : r.value ≡ value
  pub inward : inward_of facing r ≡ i
  pub across : across_of facing r ≡ a

abbrev pub RapidTo : Thread → ℤ → ℤ → Record → Type 0
RapidTo t i a r = Goes t.facing 1 0 i a r

abbrev pub ThreadTo : Thread → ℤ → ℤ → Record → Type 0
ThreadTo t i a r = Goes t.facing 3 t.pitch i a r

-- four records are a pass on the line l: "rapid in, thread, rapid out, rapid back". It begins at the start, and ends there
pub record PassOn (t : Thread) (l : ℤ) (to cut out back : Record) : Type 0 where
  pub in_to : RapidTo t l t.path.start to
  pub cut_to : ThreadTo t l t.path.target cut
  pub out_to : RapidTo t t.infeed.start t.path.target out
  pub back_to : RapidTo t t.infeed.start t.path.start back

-- ---- where a depth lies
-- a length per side counts so many times on the infeed axis: X is a diameter
abbrev pub each : Thread → ℕ
each t = cond t.facing 1 2

-- how far per side the thread goes beyond its target: "target is the nominal diameter and not the core"
abbrev pub beyond : Thread → ℕ
beyond t = cond t.nominal t.d6 0

-- the line l lies at the depth x: toward the target, and D6 less x per side short of the bottom
pub record AtDepth (t : Thread) (x : ℕ) (l : ℤ) : Type 0 where
  pub way : ℕ
  pub on : l ≡ t.infeed.start +ℤ along (side t.infeed) way
  pub short : way + each t * t.d6 ≡ distance t.infeed + each t * (x + beyond t)

-- a row of records is passes at these depths, one after the other
pub data PassesAt (t : Thread) : List ℕ → List Record → Type 0 where
  none : PassesAt t [] []
  pass : {x : ℕ} {xs : List ℕ} {l : ℤ} {to cut out back : Record} {rs : List Record} → AtDepth t x l → PassOn t l to cut out back → PassesAt t xs rs
      → PassesAt t (x ∷ xs) (to ∷ cut ∷ out ∷ back ∷ rs)

-- ---- the promise
-- of depths as many as passes, those of the cuts and those of the empty ones behind them
abbrev pub cuts_of : Thread → List ℕ → List ℕ
cuts_of t xs = take (length xs - t.empty) xs

abbrev pub empties_of : Thread → List ℕ → List ℕ
empties_of t xs = drop (length xs - t.empty) xs

-- what a row of records promises of a cycle that is not wrong
pub record Threaded (t : Thread) (rs : List Record) : Type 0 where
  pub depths : List ℕ
  pub passes : PassesAt t depths (motion rs)
  pub cuts : Promised t.rule t.d3 t.d6 (cuts_of t depths)
  pub empties : empties_of t depths ≡ replicate t.empty t.d6
