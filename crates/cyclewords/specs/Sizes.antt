-- How many words what is due takes.
use Rattle.std.specs.Prelude.{ℕ}

abbrev pub due_words : ℕ
due_words = 27
