-- The lines of a listing, word by word: each has room where the longest line has, and together they are the line.
-- Assumes nothing.
use mathlib.Core.Path.{◌≡◌, refl, sym, ap, subst}
use mathlib.Core.List.{List, [], ◌∷◌, ◌++◌}
use Prim.Native.Nat.{ℕ, ◌+◌, ◌*◌, ◌-◌, ◌^◌, ◌<◌, ◌≤◌}
use native.Mathlib.Omega.{arith}
use borrow.Author.Tests.{le-leb, lt-leb}
use lib.ListN.{length, drop}
use Rattle.octets.specs.Bytes.{laid}
use Rattle.moves.specs.Form.{version, record_start, room_of, Fitting, FittingOrigin}
use Rattle.moves.specs.Reading.{listed_in, row_at}
use Rattle.moves.specs.declared.Listed.{Listed}
use Rattle.letters.specs.Letters.{lf, space}
use Rattle.letters.specs.Text.{bytes}
use Rattle.answers.specs.declared.Answer.{Answer}
use Rattle.answers.specs.declared.Answer.TheVariants.{Complete, Alarm}
use Rattle.decimal.specs.Decimal.{decimal, signed}
use Rattle.decimal.specs.Wrote.{Wrote}
use Rattle.decimal.proofs.Writing.{Going, begin, next, ended, nothing_wrote, wrote_as, behind, two_first, two_second, two}
use Rattle.listing.specs.Listing.{line, head_line, record_line, record_lines, alarm_line, listing_of, longest_head, longest_record_line, longest_alarm, is_made, text_of}
use Rattle.listing.proofs.Lengths.{short_head, short_line, short_alarm}
use Rattle.listing.proofs.Reading.{lines_left, no_lines_left}

-- ---- a word of a line, and the others behind it
module _ (b : List ℕ) (at : ℕ) (w v : List ℕ) (vs : List (List ℕ)) (fits : at + length (line w (v ∷ vs)) ≤ length b) where
  word_room : at + length (w ++ (space ∷ [])) ≤ length b
  word_room = two_first b at (w ++ (space ∷ [])) (line v vs) refl fits

  module _ {m : ℕ} {c : List ℕ} (one : Wrote b at (w ++ (space ∷ [])) m c) where
    word_rest : m + length (line v vs) ≤ length c
    word_rest = two_second b at (w ++ (space ∷ [])) (line v vs) refl fits one

    word_on : {n : ℕ} {e : List ℕ} → Wrote c m (line v vs) n e → Wrote b at (line w (v ∷ vs)) n e
    word_on k = two b at (w ++ (space ∷ [])) (line v vs) refl fits one k

-- ---- the head
module _ (b : List ℕ) (count : ℕ) (small : count < 2 ^ 64) (room : longest_head ≤ length b) where
  head_fits : 0 + length (head_line count) ≤ length b
  head_fits = omega (arith, short_head count small)

  module _ {m : ℕ} {c : List ℕ} (one : Wrote b 0 (bytes "TMV ") m c) where
    head_rest : m + length (line (decimal version) (decimal count ∷ [])) ≤ length c
    unfolding head_line
    head_rest = word_rest b 0 (bytes "TMV") (decimal version) (decimal count ∷ []) head_fits one

    pub version_room : m + length (decimal version ++ (space ∷ [])) ≤ length c
    version_room = word_room c m (decimal version) (decimal count) [] head_rest

    module _ {n : ℕ} {d : List ℕ} (two : Wrote c m (decimal version ++ (space ∷ [])) n d) where
      pub count_room : n + length (decimal count ++ (lf ∷ [])) ≤ length d
      count_room = word_rest c m (decimal version) (decimal count) [] head_rest two

      made : {r : ℕ} {e : List ℕ} → Wrote d n (decimal count ++ (lf ∷ [])) r e → Wrote b 0 (head_line count) r e
      unfolding head_line
      made k = word_on b 0 (bytes "TMV") (decimal version) (decimal count ∷ []) head_fits one (word_on c m (decimal version) (decimal count) [] head_rest two k)

      pub head_made : {r : ℕ} {e : List ℕ} → Wrote d n (decimal count ++ (lf ∷ [])) r e → Wrote b 0 (head_line count) r e × (r ≤ longest_head)
      head_made k = (made k, omega (arith, (made k).place, short_head count small))

-- ---- the line of an alarm
module _ (b : List ℕ) (alarm place count : ℕ) (small : (alarm < 2 ^ 8) × (place < 2 ^ 64) × (count < 2 ^ 64)) (room : longest_alarm ≤ length b) where
  short : length (alarm_line alarm place count) ≤ longest_alarm
  short = short_alarm alarm place count small.0 small.1 small.2

  alarm_fits : 0 + length (alarm_line alarm place count) ≤ length b
  alarm_fits = omega (arith, short)

  module _ {m : ℕ} {c : List ℕ} (one : Wrote b 0 (bytes "ALARM ") m c) where
    alarm_rest : m + length (line (decimal alarm) (decimal place ∷ decimal count ∷ [])) ≤ length c
    unfolding alarm_line
    alarm_rest = word_rest b 0 (bytes "ALARM") (decimal alarm) (decimal place ∷ decimal count ∷ []) alarm_fits one

    pub alarm_room : m + length (decimal alarm ++ (space ∷ [])) ≤ length c
    alarm_room = word_room c m (decimal alarm) (decimal place) (decimal count ∷ []) alarm_rest

    module _ {n : ℕ} {d : List ℕ} (two : Wrote c m (decimal alarm ++ (space ∷ [])) n d) where
      place_rest : n + length (line (decimal place) (decimal count ∷ [])) ≤ length d
      place_rest = word_rest c m (decimal alarm) (decimal place) (decimal count ∷ []) alarm_rest two

      pub place_room : n + length (decimal place ++ (space ∷ [])) ≤ length d
      place_room = word_room d n (decimal place) (decimal count) [] place_rest

      module _ {o : ℕ} {l : List ℕ} (three : Wrote d n (decimal place ++ (space ∷ [])) o l) where
        pub last_room : o + length (decimal count ++ (lf ∷ [])) ≤ length l
        last_room = word_rest d n (decimal place) (decimal count) [] place_rest three

        written : {r : ℕ} {e : List ℕ} → Wrote l o (decimal count ++ (lf ∷ [])) r e → Wrote b 0 (alarm_line alarm place count) r e
        unfolding alarm_line
        written k =
            word_on b 0 (bytes "ALARM") (decimal alarm) (decimal place ∷ decimal count ∷ []) alarm_fits one
            (word_on c m (decimal alarm) (decimal place) (decimal count ∷ []) alarm_rest two (word_on d n (decimal place) (decimal count) [] place_rest three k))

        pub alarm_made : (list : List ℕ) {r : ℕ} {e : List ℕ} → Wrote l o (decimal count ++ (lf ∷ [])) r e
            → Wrote b 0 (text_of (Alarm alarm place count) list (length b)) r e × (r ≤ length b)
        unfolding text_of is_made listing_of
        alarm_made list {r} {e} k = (rw (le-leb longest_alarm (length b) room) (written k), omega (arith, (written k).place, short))

pub no_alarm : (b : List ℕ) (alarm place count : ℕ) (list : List ℕ) → length b < longest_alarm
    → Wrote b 0 (text_of (Alarm alarm place count) list (length b)) 0 b × (0 ≤ length b)
unfolding text_of is_made listing_of
no_alarm b alarm place count list h = (rw (lt-leb longest_alarm (length b) h) (nothing_wrote b 0), omega arith)

-- ---- the line of a record
module _ (l : Listed) where
  abbrev kind_word : List ℕ
  kind_word = decimal l.what.kind

  abbrev flags_word : List ℕ
  flags_word = decimal l.what.flags

  abbrev x_word : List ℕ
  x_word = signed l.what.x

  abbrev z_word : List ℕ
  z_word = signed l.what.z

  abbrev value_word : List ℕ
  value_word = decimal l.what.value

  abbrev program_word : List ℕ
  program_word = decimal l.origin.program

  abbrev block_word : List ℕ
  block_word = decimal l.origin.block

  -- the words behind a word, from the last on
  abbrev after_value : List (List ℕ)
  after_value = program_word ∷ block_word ∷ []

  abbrev after_z : List (List ℕ)
  after_z = value_word ∷ after_value

  abbrev after_x : List (List ℕ)
  after_x = z_word ∷ after_z

module _ (b : List ℕ) (at : ℕ) (l : Listed) (f : Fitting l.what) (g : FittingOrigin l.origin) (room : at + longest_record_line ≤ length b) where
  line_fits : at + length (record_line l) ≤ length b
  line_fits = omega (arith, short_line l f g)

  pub kind_room : at + length (kind_word l ++ (space ∷ [])) ≤ length b
  unfolding record_line
  kind_room = word_room b at (kind_word l) (flags_word l) (x_word l ∷ after_x l) line_fits

  module _ {m1 : ℕ} {c1 : List ℕ} (w1 : Wrote b at (kind_word l ++ (space ∷ [])) m1 c1) where
    rest1 : m1 + length (line (flags_word l) (x_word l ∷ after_x l)) ≤ length c1
    unfolding record_line
    rest1 = word_rest b at (kind_word l) (flags_word l) (x_word l ∷ after_x l) line_fits w1

    pub flags_room : m1 + length (flags_word l ++ (space ∷ [])) ≤ length c1
    flags_room = word_room c1 m1 (flags_word l) (x_word l) (after_x l) rest1

    module _ {m2 : ℕ} {c2 : List ℕ} (w2 : Wrote c1 m1 (flags_word l ++ (space ∷ [])) m2 c2) where
      rest2 : m2 + length (line (x_word l) (after_x l)) ≤ length c2
      rest2 = word_rest c1 m1 (flags_word l) (x_word l) (after_x l) rest1 w2

      pub x_room : m2 + length (x_word l ++ (space ∷ [])) ≤ length c2
      x_room = word_room c2 m2 (x_word l) (z_word l) (after_z l) rest2

      module _ {m3 : ℕ} {c3 : List ℕ} (w3 : Wrote c2 m2 (x_word l ++ (space ∷ [])) m3 c3) where
        rest3 : m3 + length (line (z_word l) (after_z l)) ≤ length c3
        rest3 = word_rest c2 m2 (x_word l) (z_word l) (after_z l) rest2 w3

        pub z_room : m3 + length (z_word l ++ (space ∷ [])) ≤ length c3
        z_room = word_room c3 m3 (z_word l) (value_word l) (after_value l) rest3

        module _ {m4 : ℕ} {c4 : List ℕ} (w4 : Wrote c3 m3 (z_word l ++ (space ∷ [])) m4 c4) where
          rest4 : m4 + length (line (value_word l) (after_value l)) ≤ length c4
          rest4 = word_rest c3 m3 (z_word l) (value_word l) (after_value l) rest3 w4

          pub value_room : m4 + length (value_word l ++ (space ∷ [])) ≤ length c4
          value_room = word_room c4 m4 (value_word l) (program_word l) (block_word l ∷ []) rest4

          module _ {m5 : ℕ} {c5 : List ℕ} (w5 : Wrote c4 m4 (value_word l ++ (space ∷ [])) m5 c5) where
            rest5 : m5 + length (line (program_word l) (block_word l ∷ [])) ≤ length c5
            rest5 = word_rest c4 m4 (value_word l) (program_word l) (block_word l ∷ []) rest4 w5

            pub program_room : m5 + length (program_word l ++ (space ∷ [])) ≤ length c5
            program_room = word_room c5 m5 (program_word l) (block_word l) [] rest5

            module _ {m6 : ℕ} {c6 : List ℕ} (w6 : Wrote c5 m5 (program_word l ++ (space ∷ [])) m6 c6) where
              pub block_room : m6 + length (block_word l ++ (lf ∷ [])) ≤ length c6
              block_room = word_rest c5 m5 (program_word l) (block_word l) [] rest5 w6

              written_line : {n : ℕ} {e : List ℕ} → Wrote c6 m6 (block_word l ++ (lf ∷ [])) n e → Wrote b at (record_line l) n e
              unfolding record_line
              written_line k =
                  word_on b at (kind_word l) (flags_word l) (x_word l ∷ after_x l) line_fits w1
                  (word_on c1 m1 (flags_word l) (x_word l) (after_x l) rest1 w2
                  (word_on c2 m2 (x_word l) (z_word l) (after_z l) rest2 w3
                  (word_on c3 m3 (z_word l) (value_word l) (after_value l) rest3 w4
                  (word_on c4 m4 (value_word l) (program_word l) (block_word l ∷ []) rest4 w5 (word_on c5 m5 (program_word l) (block_word l) [] rest5 w6 k)))))

              pub line_made : {n : ℕ} {e : List ℕ} → Wrote c6 m6 (block_word l ++ (lf ∷ [])) n e → Wrote b at (record_line l) n e × (n ≤ at + longest_record_line)
              line_made k = (written_line k, omega (arith, (written_line k).place, short_line l f g))

-- ---- the lines of the records, one after the other
pub records_begin : (b : List ℕ) (at : ℕ) (list : List ℕ) (count : ℕ) → at ≤ length b
    → Going b at (record_lines (row_at list 0 count)) b at (record_lines (row_at list 0 (count - 0)))
records_begin b at list count h =
    let e : count ≡ count - 0 = omega arith in
    subst (λ (n : ℕ). Going b at (record_lines (row_at list 0 count)) b at (record_lines (row_at list 0 n))) e (begin b at (record_lines (row_at list 0 count)) h)

module _ {b : List ℕ} {at : ℕ} {all c : List ℕ} {m : ℕ} (list : List ℕ) (k count : ℕ) (g : Going b at all c m (record_lines (row_at list k (count - k)))) where
  pub record_next : k < count → m + longest_record_line ≤ length c → {what : Listed} → what ≡ listed_in (drop (record_start k) list)
      → {n : ℕ} {e : List ℕ} → Wrote c m (record_line what) n e → n ≤ m + longest_record_line → Going b at all e n (record_lines (row_at list (k + 1) (count - (k + 1))))
  record_next h room {what} is {n} {e} w short =
      let here : record_line what ≡ record_line (listed_in (drop (record_start k) list)) = ap record_line is in
      let one = wrote_as here w in
      next (record_line (listed_in (drop (record_start k) list))) (rw (lines_left list k count h) at g) (omega (arith, one.place, short, room)) one

  pub records_made : count ≤ k → Wrote b at all m c
  records_made h = ended (rw (no_lines_left list k count h) at g)

-- ---- the listing of a complete list
module _ (b list : List ℕ) (count : ℕ) where
  abbrev Made : ℕ → List ℕ → Type 0
  Made r e = Wrote b 0 (text_of (Complete count) list (length b)) r e × (r ≤ length b)

  pub not_held : room_of (length list) < count → Made 0 b
  unfolding text_of is_made
  not_held h = (rw (lt-leb count (room_of (length list)) h) (nothing_wrote b 0), omega arith)

  module _ (held : count ≤ room_of (length list)) where
    pub no_room : length b < longest_head + longest_record_line * count → Made 0 b
    unfolding text_of is_made
    no_room h = (rw (le-leb count (room_of (length list)) held, lt-leb (longest_head + longest_record_line * count) (length b) h) (nothing_wrote b 0), omega arith)

    module _ (room : longest_head + longest_record_line * count ≤ length b) where
      listing_is : text_of (Complete count) list (length b) ≡ head_line count ++ record_lines (row_at list 0 count)
      unfolding text_of is_made listing_of
      listing_is = rw (le-leb count (room_of (length list)) held, le-leb (longest_head + longest_record_line * count) (length b) room) refl

      pub listing_made : {m : ℕ} {c : List ℕ} → Wrote b 0 (head_line count) m c × (m ≤ longest_head) → {r : ℕ} {e : List ℕ}
          → Wrote c m (record_lines (row_at list 0 count)) r e × (r ≤ m + longest_record_line * count) → Made r e
      listing_made {m} {c} one {r} {e} two = (
        wrote_as (sym listing_is) (behind (head_line count) (record_lines (row_at list 0 count)) one.0 (omega (arith, one.1, room)) two.0),
        omega (arith, one.1, two.1, room),
      )

-- ---- any answer
pub by_answer : {answer a : Answer} (b list : List ℕ) {r : ℕ} {e : List ℕ} → answer ≡ a → Wrote b 0 (text_of a list (length b)) r e × (r ≤ length b)
    → (r ≡ length (text_of answer list (length b))) × ((e ≡ laid b 0 (text_of answer list (length b))) × (r ≤ length b))
by_answer {answer} {a} b list h k =
    let w = wrote_as (ap (λ (x : Answer). text_of x list (length b)) (sym h)) k.0 in (omega (arith, w.place), (w.bytes, k.1))
