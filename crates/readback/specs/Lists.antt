-- A LIST READ BACK. 02, request 6: "given bytes, either record k or a refusal." Request 7: "the reader takes both, version 1 to 4,000 records and without a block". A list is judged by
-- judging/specs/Judging.antt; fields are taken from their places by moves/specs/Reading.antt.
use Rattle.std.specs.Prelude.{cond, List, ℕ, ◌-◌, ◌/◌, ltb, length, drop, Option, Some, None, Result, Ok, Err}
use Rattle.moves.specs.Form.{header_size}
use Rattle.moves.specs.Reading.{record_in, origin_in}
use Rattle.lawful.specs.Versions.{size_in, start_in}
use Rattle.lawful.specs.declared.Version.{Version}
use Rattle.lawful.specs.declared.Version.TheVariants.{One, Two}
use Rattle.judging.specs.declared.Refusal.{Refusal}
use Rattle.judging.specs.declared.Refusal.TheVariants.{BadIndex}
use Rattle.judging.specs.Judging.{judged, version_named}
use Rattle.moves.specs.declared.Origin.{Origin}
use Rattle.moves.specs.declared.Record.{Record}

-- ---- RECORD K, from 0, or a refusal
-- what stands at the k-th place, whatever the bytes are: what is done, and the block that it came from; a list of version 1 does not tell the block, which is not the same as 0 and 0
abbrev pub source_in : Version → List ℕ → Option Origin
source_in One b = None
source_in Two b = Some (origin_in b)

unfoldable pub found_at : Version → List ℕ → ℕ → Record × Option Origin
found_at v b k = (record_in (drop (start_in v k) b), source_in v (drop (start_in v k) b))

-- "index (k from 0)"
abbrev pub picked_from : List ℕ → ℕ → Result (Version × ℕ) Refusal → Result (Record × Option Origin) Refusal
picked_from b k (Err why) = Err why
picked_from b k (Ok (v, count)) = cond (ltb k count) (Ok (found_at v b k)) (Err BadIndex)

unfoldable pub read_of : List ℕ → ℕ → Result (Record × Option Origin) Refusal
read_of b k = picked_from b k (judged b)

-- ---- A WHOLE LIST IN ONE PASS: it is judged once, and then its records are read one after the other. Of a list that was judged good the two readings are the same (proofs/Accepted.antt)
-- how many records some bytes have room for behind a header
abbrev pub held_by : Version → List ℕ → ℕ
held_by v b = (length b - header_size) / size_in v

unfoldable pub read_as : Version → List ℕ → ℕ → Result (Record × Option Origin) Refusal
read_as v b k = cond (ltb k (held_by v b)) (Ok (found_at v b k)) (Err BadIndex)

unfoldable pub read_judged : List ℕ → ℕ → Result (Record × Option Origin) Refusal
read_judged b k = read_as (version_named b) b k
