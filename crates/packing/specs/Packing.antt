-- AN ANSWER AS ONE NUMBER, as it goes to a caller in C, and what an ask for the next move tells.
use Rattle.std.specs.Prelude.{◌≡◌, ℕ, ◌+◌, ◌*◌, ◌/◌, ◌%◌, ◌<◌}
use Rattle.places.specs.Places.{sixteen_bits}
use Rattle.answers.specs.Answers.{number_of, place_of, count_of}
use Rattle.answers.specs.declared.Answer.{Answer}
use Rattle.packing.specs.declared.Told.{Told}
use Rattle.packing.specs.declared.Told.TheVariants as told

-- an answer as one number. "bits 0-15 the records written, bits 16-31 the place on the tape, bits 32-39 the alarm, 0 where the list is complete": the bits above are 0
pub record Packed (a : Answer) (r : ℕ) : Type 0 where
  pub count : r % 65_536 ≡ count_of a
  pub place : r / 65_536 % 65_536 ≡ place_of a
  pub alarm : r / 4_294_967_296 ≡ number_of a
  pub rest : r < 1_099_511_627_776

-- an answer whose place and count have 16 bits
pub record Fits (a : Answer) : Type 0 where
  pub place : place_of a < 65_536
  pub count : count_of a < 65_536

-- the number itself, of an answer that fits
abbrev pub answer_number : Answer → ℕ
answer_number a = count_of a + sixteen_bits * (place_of a + sixteen_bits * number_of a)

-- what an ask tells, as one number: nothing of a record, bit 40 with an answer, bit 41 where nothing was done
abbrev pub over : ℕ
over = 1_099_511_627_776

abbrev pub refused : ℕ
refused = 2_199_023_255_552

abbrev pub told_number : Told → ℕ
told_number told.Move = 0
told_number (told.Over a) = over + answer_number a
told_number told.Refused = refused

-- the same of what an ask tells: an answer that is told has 16 bits for its place and its count
abbrev pub FitsTold : Told → Type 0
FitsTold told.Move = Unit {0}
FitsTold (told.Over a) = Fits a
FitsTold told.Refused = Unit {0}

-- an answer that is told sets no bit above 40: its alarm has 8 bits, and it is not taken for a refusal
abbrev pub Bounded : Told → Type 0
Bounded told.Move = Unit {0}
Bounded (told.Over a) = answer_number a < over
Bounded told.Refused = Unit {0}
