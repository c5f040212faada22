-- How bytes are read as records. The reading takes the fields from their places and judges nothing: that bytes are in the form of a list is
-- said by `list_bytes` alone, and that what was written so is read so is a law (proofs/OneReading.antt).
use Rattle.std.specs.Prelude.{List, [], ◌∷◌, ℕ, zero, suc, get_or, take, drop}
use Rattle.octets.specs.Bytes.{value_of, signed_of}
use Rattle.moves.specs.declared.Record.{Record}
use Rattle.moves.specs.declared.Origin.{Origin}
use Rattle.moves.specs.declared.Listed.{Listed}
use Rattle.moves.specs.Form.{header_size, record_size, version_at, count_at, kind_at, flags_at, x_at, z_at, value_at, program_at, block_at, record_start, listed, whats}

-- the number of the n bytes from place i on
abbrev pub number_at : List ℕ → ℕ → ℕ → ℕ
number_at b i n = value_of (take n (drop i b))

-- the record at the front of some bytes
unfoldable pub record_in : List ℕ → Record
record_in b = record { kind = get_or b kind_at 0; flags = get_or b flags_at 0; x = signed_of (number_at b x_at 4); z = signed_of (number_at b z_at 4); value = number_at b value_at 4 }

-- the block that it came from
unfoldable pub origin_in : List ℕ → Origin
origin_in b = record { program = number_at b program_at 2; block = number_at b block_at 2 }

-- both
abbrev pub listed_in : List ℕ → Listed
listed_in b = listed (origin_in b) (record_in b)

-- so many records, from the front of some bytes on
unfoldable pub row_in : ℕ → List ℕ → List Listed
row_in zero b = []
row_in (suc n) b = listed_in b ∷ row_in n (drop record_size b)

-- n records of a buffer, from record k on, each with the block that it came from
abbrev pub row_at : List ℕ → ℕ → ℕ → List Listed
row_at b k n = row_in n (drop (record_start k) b)

-- what is done by them
abbrev pub records_in : List ℕ → ℕ → ℕ → List Record
records_in b k n = whats (row_at b k n)

-- the version and the count that a header gives
abbrev pub version_in : List ℕ → ℕ
version_in b = number_at b version_at 2

abbrev pub count_in : List ℕ → ℕ
count_in b = number_at b count_at 2

-- the list that a buffer holds, where its bytes begin with those of a list
unfoldable pub list_in : List ℕ → List Listed
list_in b = row_in (count_in b) (drop header_size b)
