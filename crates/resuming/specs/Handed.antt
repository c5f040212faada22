-- ONE MOVE AT A TIME: what is handed out, and what is owed of it. 02, request 12: "its answers in turn are exactly the list engine's records and then its end or alarm"; "After an alarm or the end it repeats that answer".
use Rattle.std.specs.Prelude.{◌≡◌, List, [], ◌∷◌, ℕ, zero, suc}
use Rattle.moves.specs.declared.Listed.{Listed}
use Rattle.interpreter.specs.of_answers.declared.Answer.{Answer}
use Rattle.interpreter.specs.of_runners.Runs.{listed_of}
use Rattle.interpreter.specs.Answers.{Result}
use Rattle.resuming.specs.declared.Handed.{Handed}
use Rattle.resuming.specs.declared.Handed.TheVariants.{Move, Over}

-- a record of the list, with the program and the block that it came from
abbrev pub Made : Type 0
Made = Listed

-- records, and the answer behind them
pub record Left : Type 0 where
  pub records : List Made
  pub answer : Answer

unfoldable pub left_of : Result → Left
left_of x = record { records = listed_of x.steps; answer = x.answer }

-- THE PROMISE: the k-th answer, from 0, is record k; where there is none, it is the answer of the run
unfoldable pub handed_of : List Made → Answer → ℕ → Handed
handed_of [] a k = Over a
handed_of (r ∷ rs) a zero = Move r
handed_of (r ∷ rs) a (suc k) = handed_of rs a k

abbrev pub handed : Left → ℕ → Handed
handed x k = handed_of x.records x.answer k

-- one answer: a record off the front, or the answer, and then nothing has changed
unfoldable pub Takes : Left → Handed → Left → Type 0
Takes x (Move r) y = (x.records ≡ r ∷ y.records) × (y.answer ≡ x.answer)
Takes x (Over a) y = (x.records ≡ []) × (x.answer ≡ a) × (y ≡ x)

-- "the list engine's buffer being 64,008 bytes"
abbrev pub roomy : ℕ
roomy = 64_008
