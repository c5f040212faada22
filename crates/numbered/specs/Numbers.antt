-- A record as the numbers that a caller in C gets, and what comes of a reading where so many numbers are lent.
use Rattle.std.specs.Prelude.{cond, List, [], ◌∷◌, ◌++◌, ℕ, ltb, ℤ, pos, length, drop, Option, Some, None, Result, Ok, Err}
use Rattle.whole.specs.Signed.{minus}
use Rattle.moves.specs.declared.Record.{Record}
use Rattle.judging.specs.Refusals.{refusal_number}
use Rattle.judging.specs.declared.Refusal.{Refusal}
use Rattle.moves.specs.declared.Origin.{Origin}
use Rattle.lawful.specs.declared.Version.{Version}

abbrev pub numbers_count : ℕ
numbers_count = 7

-- what program and block are where the list has none, as one of version 1; 0 would be a program and a block
abbrev pub none : ℤ
none = minus 1

-- the numbers of the program and of the block that a record came from
abbrev pub program_of : Option Origin → ℤ
program_of (Some o) = pos o.program
program_of None = none

abbrev pub block_of : Option Origin → ℤ
block_of (Some o) = pos o.block
block_of None = none

-- kind, flags, X, Z, value, program, block
unfoldable pub numbers_of : Record → Option Origin → List ℤ
numbers_of r s = pos r.kind ∷ pos r.flags ∷ r.x ∷ r.z ∷ pos r.value ∷ program_of s ∷ block_of s ∷ []

-- fewer numbers are lent
abbrev pub too_few_numbers : ℕ
too_few_numbers = 6

-- the answer: 0, or the refusal; that too few numbers are lent is asked last
unfoldable pub answer_of : Result (Record × Option Origin) Refusal → ℕ → ℕ
answer_of (Err why) lent = refusal_number why
answer_of (Ok (r, s)) lent = cond (ltb lent numbers_count) too_few_numbers 0

-- the numbers after it: those of the record, and all others as they came; on a refusal all are as they came
unfoldable pub numbers_after : Result (Record × Option Origin) Refusal → List ℤ → List ℤ
numbers_after (Err why) lent = lent
numbers_after (Ok (r, s)) lent = cond (ltb (length lent) numbers_count) lent (numbers_of r s ++ drop numbers_count lent)

-- 0, or why a list is refused
abbrev pub refusal_of : Result (Version × ℕ) Refusal → ℕ
refusal_of (Ok (v, count)) = 0
refusal_of (Err why) = refusal_number why
