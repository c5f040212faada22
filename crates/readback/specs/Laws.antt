-- WHAT IS OWED OF A READER. 02, request 6: "It accepts exactly lists in the written form .. Reading what the writer wrote gives its records; writing what was read gives the bytes." Request 7: "The
-- writer writes version 2 only, and that writing what was read gives the bytes holds for version 2 alone; the reader takes both".
-- proofs/Laws.antt has the proofs, of every row of records and of all bytes. What the writer writes of a row is `list_bytes` (moves/specs/Form.antt), by the contracts of `put_header` and `put_record`.
use Rattle.std.specs.Prelude.{◌≡◌, List, [], ◌∷◌, ◌++◌, ℕ, zero, suc, ◌<◌, length, get_or, drop, Option, Some, None, Result, Ok, Err}
use Rattle.octets.specs.Bytes.{little_endian}
use Rattle.moves.specs.Form.{header_size, mark, what_bytes, list_bytes}
use Rattle.moves.specs.Reading.{count_in, list_in}
use Rattle.moves.specs.declared.Record.{Record}
use Rattle.moves.specs.declared.Listed.{Listed}
use Rattle.moves.specs.declared.Origin.{Origin}
use Rattle.judging.specs.declared.Refusal.{Refusal}
use Rattle.judging.specs.declared.Refusal.TheVariants.{BadIndex}
use Rattle.lawful.specs.Right.{Lawful, FirstLawful}
use Rattle.lawful.specs.Versions.{first_version, first_record_size}
use Rattle.judging.specs.Judging.{records_every, judged}
use Rattle.readback.specs.Lists.{read_of, read_judged}
use Rattle.lawful.specs.declared.Version.{Version}
use Rattle.lawful.specs.declared.Version.TheVariants.{One, Two}

-- bytes are a list in the written form: what the writer writes of a lawful row of records, each with the block that it came from
pub record WrittenForm (b : List ℕ) (ls : List Listed) : Type 0 where
  pub lawful : Lawful ls
  pub bytes : b ≡ list_bytes ls

-- record k of a row with its block, or that there is none
abbrev pub picked : List Listed → ℕ → Result (Record × Option Origin) Refusal
picked [] k = Err BadIndex
picked (l ∷ ls) zero = Ok (l.what, Some l.origin)
picked (l ∷ ls) (suc k) = picked ls k

-- "Reading what the writer wrote gives its records": a list in the written form is accepted, and each k gives its record with its block, or the refusal of the index
pub record ReadsBack (b : List ℕ) (ls : List Listed) : Type 0 where
  pub accepted : judged b ≡ Ok (Two, length ls)
  pub each : (k : ℕ) → read_of b k ≡ picked ls k

abbrev pub WrittenIsRead : List ℕ → List Listed → Type 0
WrittenIsRead b ls = WrittenForm b ls → ReadsBack b ls

-- "writing what was read gives the bytes holds for version 2 alone": what is accepted as version 2 is in the written form, of the records and blocks that are read off it, and these are what a reader gets
abbrev pub Bytes : List ℕ → Type 0
Bytes b = (i : ℕ) → get_or b i 0 < 256

abbrev pub ReadIsWritten : List ℕ → Type 0
ReadIsWritten b = Bytes b → (n : ℕ) → judged b ≡ Ok (Two, n) → WrittenForm b (list_in b) × ReadsBack b (list_in b) × (length (list_in b) ≡ n)

-- ---- VERSION 1, which is read and no longer written: "version 1 to 4,000 records and without a block". 01: "`TMV`, 16-bit version 1, 16-bit count, one zero. Then 16 bytes a record"
unfoldable pub first_header : ℕ → List ℕ
first_header n = mark ++ (little_endian 2 first_version ++ (little_endian 2 n ++ (0 ∷ [])))

unfoldable pub first_row : List Record → List ℕ
first_row [] = []
first_row (r ∷ rs) = what_bytes r ++ first_row rs

pub record FirstForm (b : List ℕ) (rs : List Record) : Type 0 where
  pub lawful : FirstLawful rs
  pub bytes : b ≡ first_header (length rs) ++ first_row rs

-- record k of a row, of which the block is not told
abbrev pub first_picked : List Record → ℕ → Result (Record × Option Origin) Refusal
first_picked [] k = Err BadIndex
first_picked (r ∷ rs) zero = Ok (r, None)
first_picked (r ∷ rs) (suc k) = first_picked rs k

-- a list in the form of version 1 is accepted, and each k gives its record or the refusal of the index
pub record FirstReadsBack (b : List ℕ) (rs : List Record) : Type 0 where
  pub accepted : judged b ≡ Ok (One, length rs)
  pub each : (k : ℕ) → read_of b k ≡ first_picked rs k

abbrev pub FirstIsRead : List ℕ → List Record → Type 0
FirstIsRead b rs = FirstForm b rs → FirstReadsBack b rs

-- "It accepts exactly lists in the written form": nothing else is accepted as version 1
abbrev pub first_in : List ℕ → List Record
first_in b = records_every first_record_size (count_in b) (drop header_size b)

abbrev pub FirstIsForm : List ℕ → Type 0
FirstIsForm b = Bytes b → (n : ℕ) → judged b ≡ Ok (One, n) → FirstForm b (first_in b) × FirstReadsBack b (first_in b) × (length (first_in b) ≡ n)

-- ---- A WHOLE LIST IN ONE PASS: of a list that was judged good, of either version, each record is read the same without judging it again
abbrev pub OnceJudged : List ℕ → Type 0
OnceJudged b = (v : Version) (n : ℕ) → judged b ≡ Ok (v, n) → (k : ℕ) → read_judged b k ≡ read_of b k
