-- The numbers of the refusals. 02, request 6: "Refusals, in order: mark (or under 8 bytes), version, length (or count above the limit or header's spare byte), any bad record, index (k from 0)."
use Rattle.std.specs.Prelude.{ℕ}
use Rattle.judging.specs.declared.Refusal.{Refusal}
use Rattle.judging.specs.declared.Refusal.TheVariants.{BadMark, BadVersion, BadLength, BadRecord, BadIndex}

abbrev pub refusal_number : Refusal → ℕ
refusal_number BadMark = 1
refusal_number BadVersion = 2
refusal_number BadLength = 3
refusal_number BadRecord = 4
refusal_number BadIndex = 5
