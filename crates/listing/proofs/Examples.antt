-- 01's listing, line by line and as a whole, computed from the definitions.
-- Assumes nothing.
use mathlib.Core.Path.{◌≡◌, refl}
use mathlib.Core.Bool.{true}
use mathlib.Core.List.{List, [], ◌∷◌, ◌++◌}
use Prim.Native.Nat.{ℕ}
use lib.IntN.{ℤ, pos}
use Rattle.octets.specs.Bytes.{signed_bytes, signed_of}
use Rattle.whole.specs.Signed.{minus}
use Rattle.moves.specs.Form.{header_bytes, what_bytes, origin_bytes, record_bytes, row_bytes, list_bytes, listed, stamped}
use Rattle.moves.specs.Kinds.{rapid, feed, miscellaneous}
use Rattle.moves.specs.Reading.{record_in, origin_in, row_in}
use Rattle.moves.specs.declared.Record.{Record}
use Rattle.moves.specs.declared.Origin.{Origin}
use Rattle.letters.specs.Letters.{lf}
use Rattle.letters.specs.Text.{bytes}
use Rattle.answers.specs.declared.Answer.TheVariants.{Complete}
use Rattle.decimal.specs.Decimal.{digits_up, digits, decimal, signed}
use Rattle.listing.specs.Listing.{head_line, record_line, record_lines, alarm_line, listing_of}

-- a line as it is printed
abbrev printed : List ℕ → List ℕ
printed text = text ++ (lf ∷ [])

-- the block of a program
abbrev at : ℕ → ℕ → Origin
at program block = record { program = program; block = block }

-- ---- the lines
pub head : head_line 10 ≡ printed (bytes "TMV 2 10")
unfolding head_line decimal digits digits_up
head = refl

pub rapid_line : record_line (listed (at 1 10) (rapid (pos 40000) (pos 2000))) ≡ printed (bytes "1 0 40000 2000 0 1 10")
unfolding record_line signed decimal digits digits_up
rapid_line = refl

pub feed_line : record_line (listed (at 6999 9999) (feed (pos 35400) (minus 19900) 120 true)) ≡ printed (bytes "2 1 35400 -19900 120 6999 9999")
unfolding record_line signed decimal digits digits_up
feed_line = refl

pub stop_line : record_line (listed (at 0 0) (miscellaneous (pos 40000) (pos 2000) 30)) ≡ printed (bytes "6 0 40000 2000 30 0 0")
unfolding record_line signed decimal digits digits_up
stop_line = refl

pub alarm_line_lem : alarm_line 18 65535 3999 ≡ printed (bytes "ALARM 18 65535 3999")
unfolding alarm_line decimal digits digits_up
alarm_line_lem = refl

-- ---- the whole listing, from the bytes of the list
abbrev turn : ℤ → List Record
turn x = rapid x (pos 2000) ∷ feed x (minus 19900) 120 true ∷ feed (pos 40000) (minus 19900) 120 true ∷ rapid (pos 40000) (pos 2000) ∷ []

abbrev list : List ℕ
list = list_bytes (stamped (at 1 10) (rapid (pos 40000) (pos 2000) ∷ []) ++ (stamped (at 1 20) (turn (pos 35400) ++ turn (pos 30800)) ++ stamped (at 1 30) (miscellaneous (pos 40000) (pos 2000) 30 ∷ [])))

pub listing : listing_of (Complete 10) list ≡
    printed (bytes "TMV 2 10")
    ++ (printed (bytes "1 0 40000 2000 0 1 10")
    ++ (printed (bytes "1 0 35400 2000 0 1 20")
    ++ (printed (bytes "2 1 35400 -19900 120 1 20")
    ++ (printed (bytes "2 1 40000 -19900 120 1 20")
    ++ (printed (bytes "1 0 40000 2000 0 1 20")
    ++ (printed (bytes "1 0 30800 2000 0 1 20")
    ++ (printed (bytes "2 1 30800 -19900 120 1 20")
    ++ (printed (bytes "2 1 40000 -19900 120 1 20")
    ++ (printed (bytes "1 0 40000 2000 0 1 20")
    ++ printed (bytes "6 0 40000 2000 30 1 30"))))))))))
unfolding list_bytes header_bytes row_bytes record_bytes what_bytes origin_bytes stamped signed_bytes signed_of record_in origin_in row_in listing_of head_line record_lines record_line signed decimal digits digits_up
listing = refl
