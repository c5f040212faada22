-- The versions of a list that are read. 02, request 7: "the reader takes both, version 1 to 4,000 records and without a block."
use Rattle.std.specs.Prelude.{ℕ, ◌+◌, ◌*◌}
use Rattle.moves.specs.Form.{header_size, record_size, record_limit, version}
use Rattle.lawful.specs.declared.Version.{Version}
use Rattle.lawful.specs.declared.Version.TheVariants.{One, Two}

-- 01: "16-bit version 1", "16 bytes a record"; alarm 20 of 01: "records above 4,000"
abbrev pub first_version : ℕ
first_version = 1

abbrev pub first_record_size : ℕ
first_record_size = 16

abbrev pub first_record_limit : ℕ
first_record_limit = 4_000

-- the bytes of a record, and how many records there may be
abbrev pub size_in : Version → ℕ
size_in One = first_record_size
size_in Two = record_size

abbrev pub limit_in : Version → ℕ
limit_in One = first_record_limit
limit_in Two = record_limit

-- the number in the header
abbrev pub number_of : Version → ℕ
number_of One = first_version
number_of Two = version

-- the place of the first byte of record k, from 0
abbrev pub start_in : Version → ℕ → ℕ
start_in v k = header_size + size_in v * k
