-- Alarm 17. 01: "A move by G01, G84 or G86 needs 1 to 9999, by G33 10 to 9999."
use Rattle.std.specs.Prelude.{ℕ}

abbrev pub least_of_feed : ℕ
least_of_feed = 1

abbrev pub least_of_pitch : ℕ
least_of_pitch = 10

abbrev pub greatest_feed : ℕ
greatest_feed = 9_999
