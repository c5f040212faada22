-- 01, "Reading a tape": "All bytes before the first `%` or `O` are ignored (001); the first line begins there. A line ends with LF, CR LF or the end of
-- the tape. .. A comment runs from `(` to the first `)` on the same line and is not taken over (001)."
use Rattle.std.specs.Prelude.{◌≡◌, Bool, true, false, cond, not, ◌&&◌, ◌||◌, List, [], ◌∷◌, ℕ, zero, suc, ◌+◌, ◌-◌, ◌<◌, ◌≤◌, ltb, eqb, length, get_or, take, drop}
use Rattle.letters.specs.Letters.{lf, cr, space, percent, opening, closing, letter_o}
use Rattle.tape.specs.declared.line.Line.{Line}
use Rattle.tape.specs.declared.line.Gap.{Gap}
use Rattle.tape.specs.declared.line.Gap.TheVariants.{At, Fault}

-- how many bytes come before the first that passes a test, or how many there are at all
unfoldable pub seek : (ℕ → Bool) → List ℕ → ℕ
seek t [] = 0
seek t (b ∷ s) = cond (t b) 0 (suc (seek t s))

-- the place of the first byte from i on that passes a test, or the length of the list (i is within it)
abbrev pub seek_from : (ℕ → Bool) → List ℕ → ℕ → ℕ
seek_from t s i = i + seek t (drop i s)

-- "the first `%` or `O`"; `o`, 111, counts as `O`
unfoldable pub opens_tape : ℕ → Bool
opens_tape b = eqb b percent || (eqb b letter_o || eqb b 111)

unfoldable pub is_line_feed : ℕ → Bool
is_line_feed b = eqb b lf

-- how many bytes are looked at together
abbrev pub stretch : ℕ
stretch = 8

-- neither of two bytes stands from `from` to before `to`
abbrev pub Neither : List ℕ → ℕ → ℕ → ℕ → ℕ → Type 0
Neither s one other from to = (k : ℕ) → from ≤ k → k < to → (get_or s k 0 ≡ one → ⊥) × (get_or s k 0 ≡ other → ⊥)

-- the line that begins at a place. With n the place of its LF: the text ends at n, or at n - 1 where a CR of the line stands there; the next line
-- begins behind the LF. A line without LF ends with the tape
unfoldable pub line_at : List ℕ → ℕ → Line
line_at s i =
    let n = seek_from is_line_feed s i in
    cond (ltb n (length s))
    (record { stop = cond (ltb i n && eqb (get_or s (n - 1) 0) cr) (n - 1) n; after = n + 1 })
    (record { stop = n; after = n })

-- where a line of a tape of n bytes lies, that begins at `from`
pub record LineIn (r : Line) (from n : ℕ) : Type 0 where
  pub begins : from ≤ r.stop
  pub text : r.stop ≤ n
  pub ends : r.after ≤ n
  pub onward : from < n → from < r.after

-- the place of the first byte of a line's text that is neither a space nor in a comment, or of the text's end; the list's first byte stands at
-- place i. The first argument: whether a comment is open. Each clause goes on in one place, so that the definition computes on whole lines
unfoldable pub gap_of : Bool → ℕ → List ℕ → Gap
-- at the end of the text: a comment that is still open is a fault
gap_of true i [] = Fault
gap_of false i [] = At i
-- in a comment: a CR is a fault, `)` closes it, anything else goes on
gap_of true i (b ∷ s) = cond (eqb b cr) Fault (gap_of (not (eqb b closing)) (i + 1) s)
-- outside: `(` opens one, a space goes on, anything else is here
gap_of false i (b ∷ s) = cond (eqb b opening || eqb b space) (gap_of (eqb b opening) (i + 1) s) (At i)

abbrev pub GapIn : Gap → ℕ → ℕ → Type 0
GapIn Fault from n = Unit {0}
GapIn (At p) from n = (from ≤ p) × (p ≤ n)

-- the comment whose text begins at `from` is closed before p, and the gap goes on there; or it has a fault
abbrev pub Closed : Gap → List ℕ → ℕ → Type 0
Closed (At p) s from = (gap_of true from (drop from s) ≡ gap_of false p (drop p s)) × (from < p) × (p ≤ length s)
Closed Fault s from = gap_of true from (drop from s) ≡ Fault

-- a line as it is read: its place, its text, and where the next one begins
pub record Text : Type 0 where
  pub place : ℕ
  pub bytes : List ℕ
  pub after : ℕ

abbrev pub text_at : List ℕ → ℕ → Text
text_at s p = record { place = p; bytes = take ((line_at s p).stop - p) (drop p s); after = (line_at s p).after }

-- the lines from a place on, at most k of them
unfoldable pub lines_up : ℕ → List ℕ → ℕ → List Text
lines_up zero s p = []
lines_up (suc k) s p = cond (ltb p (length s)) (text_at s p ∷ lines_up k s (line_at s p).after) []

-- the lines of a tape from a place on: no tape has more lines than bytes
unfoldable pub lines : List ℕ → ℕ → List Text
lines s p = lines_up (length s) s p
