-- A LIST JUDGED. 02, request 6: "It accepts exactly lists in the written form, with exact length, a count within the record limit, .. zero spare bytes". Request 7: "the reader takes both, version 1
-- to 4,000 records and without a block". Fields are taken from their places by moves/specs/Reading.antt; which records are right is said in lawful/specs/Right.antt, and that exactly the writer's
-- lists are accepted is a law (readback/proofs/Laws.antt).
use Rattle.std.specs.Prelude.{Bool, true, cond, not, ◌&&◌, ◌||◌, List, [], ◌∷◌, ℕ, zero, suc, ◌+◌, ltb, eqb, length, get_or, drop, Result, Ok, Err}
use Rattle.moves.specs.Form.{header_size, version, mark, mark_at, header_zero_at, zeros_at}
use Rattle.moves.specs.declared.Record.{Record}
use Rattle.moves.specs.Reading.{record_in, version_in, count_in}
use Rattle.lawful.specs.Right.{right_row}
use Rattle.lawful.specs.Versions.{first_version, size_in, limit_in, start_in}
use Rattle.lawful.specs.declared.Version.{Version}
use Rattle.lawful.specs.declared.Version.TheVariants.{One, Two}
use Rattle.judging.specs.declared.Refusal.{Refusal}
use Rattle.judging.specs.declared.Refusal.TheVariants.{BadMark, BadVersion, BadLength, BadRecord}

-- ---- the header: "`TMV`, 16-bit version 1, 16-bit count, one zero"
-- whether byte i of the mark is another
abbrev pub mark_differs : List ℕ → ℕ → Bool
mark_differs b i = not (eqb (get_or b (mark_at + i) 0) (get_or mark i 0))

-- "mark (or under 8 bytes)"
unfoldable pub mark_wrong : List ℕ → Bool
mark_wrong b = ltb (length b) header_size || ((mark_differs b 0 || mark_differs b 1) || mark_differs b 2)

-- "length (or count above the limit or header's spare byte)", by the version
unfoldable pub length_wrong : Version → List ℕ → Bool
length_wrong v b = ltb (limit_in v) (count_in b) || (not (eqb (length b) (start_in v (count_in b))) || not (eqb (get_or b header_zero_at 0) 0))

-- ---- the records
-- what is done by so many records, each of so many bytes, from the front of some bytes on
unfoldable pub records_every : ℕ → ℕ → List ℕ → List Record
records_every size zero b = []
records_every size (suc n) b = record_in b ∷ records_every size n (drop size b)

-- "kind; flags; two zeros": the spare bytes of the record at the front
abbrev pub spare_zero : List ℕ → Bool
spare_zero b = eqb (get_or b zeros_at 0) 0 && eqb (get_or b (zeros_at + 1) 0) 0

-- those of so many records, each of so many bytes
unfoldable pub spares_zero : ℕ → ℕ → List ℕ → Bool
spares_zero size zero b = true
spares_zero size (suc n) b = spare_zero b && spares_zero size n (drop size b)

-- "any bad record"; which block a record came from is not asked
unfoldable pub records_wrong : Version → List ℕ → Bool
records_wrong v b = not (spares_zero (size_in v) (count_in b) (drop header_size b) && right_row (records_every (size_in v) (count_in b) (drop header_size b)))

-- ---- THE LIST JUDGED: its version and how many records it has, or the first refusal
unfoldable pub judged_as : Version → List ℕ → Result (Version × ℕ) Refusal
judged_as v b =
    cond (length_wrong v b) (Err BadLength) (cond (records_wrong v b) (Err BadRecord) (Ok (v, count_in b)))

unfoldable pub judged : List ℕ → Result (Version × ℕ) Refusal
judged b =
    cond (mark_wrong b) (Err BadMark)
    (cond (eqb (version_in b) first_version) (judged_as One b)
    (cond (eqb (version_in b) version) (judged_as Two b) (Err BadVersion)))

-- the version that a header names: 1, or else 2
abbrev pub version_named : List ℕ → Version
version_named b = cond (eqb (version_in b) first_version) One Two
