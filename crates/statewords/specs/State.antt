-- THE STATE OF AN ENGINE, AS WORDS STAND FOR IT: the first words are what is due of the present block, those behind them its plan, the last where the run goes on.
use Rattle.std.specs.Prelude.{◌≡◌, Bool, cond, List, ℕ, ◌+◌, length, take, drop}
use Rattle.moves.specs.declared.Origin.{Origin}
use Rattle.planwords.specs.of_stages.declared.Due.{Due}
use Rattle.planwords.specs.of_stages.declared.Plan.{Plan}
use Rattle.planwords.specs.of_resumable.Kept.{kept, with_deed}
use Rattle.cyclewords.specs.Sizes.{due_words}
use Rattle.handwords.specs.Due.{is_empty, slot_of, due_by}
use Rattle.planwords.specs.Plan.{plan_words, plan_of, origin_of}
use Rattle.runlaid.specs.of_runwords.Taken.{going_words, going_of}
use Rattle.runlaid.specs.of_taking.declared.Hand.{Hand}
use Rattle.runlaid.specs.of_taking.declared.Hand.TheVariants.{Nothing, Block}
use Rattle.runlaid.specs.of_paused.declared.Going.{Going}

abbrev pub state_words : ℕ
state_words = due_words + plan_words + going_words

-- the three parts
abbrev pub due_in : List ℕ → List ℕ
due_in w = take due_words w

abbrev pub plan_in : List ℕ → List ℕ
plan_in w = take plan_words (drop due_words w)

abbrev pub going_in : List ℕ → List ℕ
going_in w = drop (due_words + plan_words) w

-- nothing is in hand
abbrev pub is_empty_in : List ℕ → Bool
is_empty_in w = is_empty (due_in w)

-- a block, by the words of its plan, what is kept of its deed, and what is due
abbrev pub hand_from : List ℕ → Due → Due → Hand
hand_from p slot due = Block (record { plan = plan_of p slot; due = due }) (origin_of p)

-- WHAT IS IN HAND, AND WHERE THE RUN GOES ON
unfoldable pub hand_in : List ℕ → Hand
hand_in w = cond (is_empty_in w) Nothing (hand_from (plan_in w) (slot_of (due_in w)) (due_by (due_in w) (slot_of (due_in w))))

unfoldable pub run_in : List ℕ → Going
run_in w = going_of (going_in w)

-- a block of which what is kept of its deed stands in the place of the deed: the same records are left of it (same-rest of `resumable`)
abbrev pub hand_kept : Plan → Due → Origin → Hand
hand_kept p due o = Block (record { plan = with_deed p (kept p.deed due); due = due }) o

-- ---- what the contracts say
-- another thing in hand: the run stays
pub record PutMeets (w : List ℕ) (h : Hand) (v : List ℕ) : Type 0 where
  pub hand : hand_in v ≡ h
  pub run : run_in v ≡ run_in w
  pub long : length v ≡ state_words
