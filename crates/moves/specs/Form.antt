-- 01, "The list in bytes": "Little-endian. Header 8 bytes: `TMV`, 16-bit version 1, 16-bit count, one zero. Then 16 bytes a record, written into the
-- room after the header: kind; flags; two zeros; X and Z after it as signed 32-bit machine positions; unsigned 32-bit value."
-- 02, request 7: "Each record ends with the 16-bit program number and block number it came from, and version 2 of the list has 20-byte records." "The writer writes version 2 only". "The record
-- limit becomes 3,200".
use Rattle.std.specs.Prelude.{List, [], ◌∷◌, ◌++◌, ℕ, ◌+◌, ◌-◌, ◌*◌, ◌/◌, ◌<◌, ◌≤◌, ◌^◌, min, length}
use Rattle.std.specs.Int.{w32}
use Rattle.std.proofs.Common.{SFits}
use Rattle.octets.specs.Bytes.{little_endian, signed_bytes}
use Rattle.moves.specs.declared.Record.{Record}
use Rattle.moves.specs.declared.Origin.{Origin}
use Rattle.moves.specs.declared.Listed.{Listed}

-- "Header 8 bytes"
abbrev pub header_size : ℕ
header_size = 8

-- "version 2 of the list has 20-byte records"
abbrev pub record_size : ℕ
record_size = 20

-- alarm 20: "records above 4,000 or above the buffer"; 02: "The record limit becomes 3,200"
abbrev pub record_limit : ℕ
record_limit = 3_200

-- "The writer writes version 2 only"
abbrev pub version : ℕ
version = 2

-- "`TMV`"
abbrev pub mark : List ℕ
mark = 84 ∷ 77 ∷ 86 ∷ []

-- where the fields of the header begin: "`TMV`, 16-bit version 1, 16-bit count, one zero"
abbrev pub mark_at : ℕ
mark_at = 0

abbrev pub version_at : ℕ
version_at = 3

abbrev pub count_at : ℕ
count_at = 5

abbrev pub header_zero_at : ℕ
header_zero_at = 7

-- where the fields of a record begin: "kind; flags; two zeros; X and Z after it as signed 32-bit machine positions; unsigned 32-bit value", and behind it "the 16-bit program number and block
-- number it came from"
abbrev pub kind_at : ℕ
kind_at = 0

abbrev pub flags_at : ℕ
flags_at = 1

abbrev pub zeros_at : ℕ
zeros_at = 2

abbrev pub x_at : ℕ
x_at = 4

abbrev pub z_at : ℕ
z_at = 8

abbrev pub value_at : ℕ
value_at = 12

abbrev pub program_at : ℕ
program_at = 16

abbrev pub block_at : ℕ
block_at = 18

-- the place in the buffer of the first byte of record k, from 0
abbrev pub record_start : ℕ → ℕ
record_start k = header_size + record_size * k

-- how many records a buffer of so many bytes may take
unfoldable pub room_of : ℕ → ℕ
room_of bytes = min record_limit ((bytes - header_size) / record_size)

-- "`TMV`, 16-bit version 1, 16-bit count, one zero"
unfoldable pub header_bytes : ℕ → List ℕ
header_bytes n = mark ++ (little_endian 2 version ++ (little_endian 2 n ++ (0 ∷ [])))

-- "kind; flags; two zeros; X and Z after it ..; unsigned 32-bit value": what is done
unfoldable pub what_bytes : Record → List ℕ
what_bytes r = r.kind ∷ r.flags ∷ 0 ∷ 0 ∷ (signed_bytes r.x ++ (signed_bytes r.z ++ little_endian 4 r.value))

-- "the 16-bit program number and block number it came from"
unfoldable pub origin_bytes : Origin → List ℕ
origin_bytes o = little_endian 2 o.program ++ little_endian 2 o.block

-- a record in the list: what is done, and at its end where it came from
unfoldable pub record_bytes : Listed → List ℕ
record_bytes l = what_bytes l.what ++ origin_bytes l.origin

-- the bytes of records in a row
unfoldable pub row_bytes : List Listed → List ℕ
row_bytes [] = []
row_bytes (l ∷ ls) = record_bytes l ++ row_bytes ls

-- a whole list as bytes
unfoldable pub list_bytes : List Listed → List ℕ
list_bytes ls = header_bytes (length ls) ++ row_bytes ls

-- ---- records, and the block that they came from
-- a record that came from a block
abbrev pub listed : Origin → Record → Listed
listed o r = record { what = r; origin = o }

-- all records of a block, as they stand in the list: a block's row of records knows nothing of it, and it is put on where a record is written
unfoldable pub stamped : Origin → List Record → List Listed
stamped o [] = []
stamped o (r ∷ rs) = listed o r ∷ stamped o rs

-- the bytes of a block's records in a row
abbrev pub row_from : Origin → List Record → List ℕ
row_from o rs = row_bytes (stamped o rs)

-- what is done, record after record
unfoldable pub whats : List Listed → List Record
whats [] = []
whats (l ∷ ls) = l.what ∷ whats ls

-- ---- numbers that fit their places

-- a record whose numbers fit their places, as those of every record of the code do by their types
pub record Fitting (r : Record) : Type 0 where
  pub kind : r.kind < 2 ^ 8
  pub flags : r.flags < 2 ^ 8
  pub x : SFits w32 r.x
  pub z : SFits w32 r.z
  pub value : r.value < 2 ^ 32

abbrev pub AllFitting : List Record → Type 0
AllFitting [] = Unit {0}
AllFitting (r ∷ rs) = Fitting r × AllFitting rs

-- the numbers of a program and of a block
pub record FittingOrigin (o : Origin) : Type 0 where
  pub program : o.program < 2 ^ 16
  pub block : o.block < 2 ^ 16

abbrev pub AllListed : List Listed → Type 0
AllListed [] = Unit {0}
AllListed (l ∷ ls) = (Fitting l.what × FittingOrigin l.origin) × AllListed ls

-- a list of such records, not above the limit: what a run may write
pub record LawfulList (ls : List Listed) : Type 0 where
  pub few : length ls ≤ record_limit
  pub each : AllListed ls
