-- WHAT `listmoves` PRINTS, for every tape. 01: "The program `listmoves` reads a tape from standard input, with main 1, lowest subroutine 80, retract 500,
-- start X 60000 Z 50000, limits -200000 to 200000, table zero."
use Rattle.std.specs.Prelude.{List, ℕ, ◌+◌, ◌*◌, length, replicate}
use Rattle.moves.specs.Form.{record_limit, record_start}
use Rattle.reading.specs.Filling.{most_places}
use Rattle.demands.specs.of_interpreter.Answers.{answer_of, buffer_of}
use Rattle.panel.specs.Listmoves.{listmoves, no_offsets}
use Rattle.listing.specs.Listing.{longest_head, longest_record_line, listing_of}

-- the buffer that is lent: the header and as many records as a list may have, 64,008 bytes
unfoldable pub fresh_buffer : List ℕ
fresh_buffer = replicate (record_start record_limit) 0

-- the listing of what the interpreter answers and leaves in that buffer; the table of places that is lent has as many entries as every tape can do with
unfoldable pub printed : List ℕ → List ℕ
printed tape = listing_of (answer_of tape no_offsets listmoves most_places (length fresh_buffer)) (buffer_of tape no_offsets listmoves most_places fresh_buffer)

-- room for every listing
abbrev pub text_size : ℕ
text_size = longest_head + longest_record_line * record_limit
