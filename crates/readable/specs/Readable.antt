-- EVERY LIST THAT A RUN WRITES IS READ BACK. 02, request 6: "Reading what the writer wrote gives its records", of every tape, table, settings, length of the table of places and buffer: where the answer is a list, its bytes are
-- in the written form, so that no reader refuses it, and each k gives that record of the run, with the program and the block that it came from.
use Rattle.std.specs.Prelude.{◌≡◌, List, ℕ, ℤ, length, take}
use Rattle.moves.specs.Form.{record_start}
use Rattle.moves.specs.declared.Listed.{Listed}
use Rattle.readback.specs.Laws.{WrittenForm, ReadsBack}
use Rattle.settings.specs.declared.Settings.{Settings}
use Rattle.demands.specs.of_runners.Runs.{listed_of}
use Rattle.demands.specs.of_answers.declared.Answer.TheVariants.{Complete}
use Rattle.demands.specs.of_interpreter.Answers.{interpretation, answer_of, buffer_of}

-- the list at the front of the buffer after a run, of so many records
abbrev pub list_after : List ℕ → List ℤ → Settings → ℕ → List ℕ → ℕ → List ℕ
list_after tape table set size b count = take (record_start count) (buffer_of tape table set size b)

-- the records of the run, each with the block that it came from
abbrev pub records_run : List ℕ → List ℤ → Settings → ℕ → List ℕ → List Listed
records_run tape table set size b = listed_of (interpretation tape table set size (length b)).steps

abbrev pub ListIsRead : List ℕ → List ℤ → Settings → ℕ → List ℕ → Type 0
ListIsRead tape table set size b =
    (count : ℕ) → answer_of tape table set size (length b) ≡ Complete count
    → WrittenForm (list_after tape table set size b count) (records_run tape table set size b) × ReadsBack (list_after tape table set size b count) (records_run tape table set size b)
