-- The words of a block line, by the line as it was found.
-- Assumes nothing.
use mathlib.Core.Path.{◌≡◌, refl, sym, ap, ◌∙◌, subst}
use mathlib.Core.Bool.{Bool, true, false, cond}
use mathlib.Core.List.{List, []}
use Prim.Native.Nat.{ℕ, zero, suc, ◌+◌, ◌-◌, ◌%◌, ◌≤◌, ◌<◌}
use native.Mathlib.Omega.{arith}
use lib.Dec.{ltb}
use lib.ListN.{length, take, drop, length-take, length-drop}
use borrow.Author.Tests.{le-ltb, le-leb, lt-leb, eq-eqb, ne_eqb}
use Rattle.tape.specs.Lines.{gap_of, line_at, lines}
use Rattle.addresses.specs.Words.{next_word, words_from}
use Rattle.block.specs.Words.{longest_line, no_words, gather, line_of, start_of}
use Rattle.block.specs.Worded.{Worded}
use Rattle.block.specs.declared.Block.{Block}
use Rattle.block.specs.declared.Head.TheVariants.{BlockLine}
use Rattle.block.specs.declared.ReadLine.{ReadLine}
use Rattle.block.specs.declared.Rest.{Rest}
use Rattle.block.proofs.Lines.{rest_none, line_from, line_from_lem}
use Rattle.block.proofs.Worded.{worded}
use Rattle.jumping.specs.Jumping.{jump_in, jump_words}
use Rattle.jumping.specs.declared.Jumping.{Jumping}
use Rattle.jumping.specs.declared.Jumping.TheVariants.{To, Other}
use Rattle.jumping.proofs.Texts.{jump_block}
use Rattle.places.specs.Places.{sixteen_bits}
use Rattle.places.specs.declared.Found.{Found}
use Rattle.places.specs.declared.Found.TheVariants.{At, Nowhere}
use Rattle.finding.specs.Finding.{first_block, block_at, next_block, NextIn}
use Rattle.finding.specs.declared.BlockAt.{BlockAt}
use Rattle.finding.specs.declared.NextBlock.{NextBlock}
use Rattle.finding.specs.declared.NextBlock.TheVariants as found
use Rattle.ahead.specs.Ahead.{onto}
use Rattle.ahead.specs.declared.Frame.{Frame}
use Rattle.taking.specs.declared.quiet.Quiet.TheVariants.{Bare}
use Rattle.taking.specs.declared.quiet.Met.{Met}
use Rattle.taking.specs.declared.quiet.Met.TheVariants.{Known, Words}
use Rattle.taking.specs.Steps.{block_in, block_on, origin_at}
use Rattle.taking.specs.Meets.{Starts, Next, jump_on, met_by, met_at, met_in, met_from, JumpMeets, Told, origin_in}

-- ---- the words of a line
by_length : (t : Bool) (b c : Block) → Worded b → Worded c → Worded (cond t b c)
by_length true b c h k = h
by_length false b c h k = k

none_worded : Worded no_words
unfolding gap_of next_word gather line_of
none_worded = worded []

-- ---- the words behind the first
module _ (line : List ℕ) (behind : ℕ) (s : Starts line behind) where
  pub words_behind : length line ≤ longest_line → (gather no_words (words_from line behind)).block ≡ block_in line
  unfolding block_in
  words_behind h = sym (rw (le-ltb longest_line (length line) h) (ap (λ (x : ReadLine). x.block) (line_from_lem line ∙ ap (line_from line) s.is)))

  -- a jump alone, by the text behind the first
  pub jump_told : length line ≤ longest_line → (j : Jumping) → j ≡ jump_in (drop behind line) → JumpMeets line j
  jump_told h (To n) e = sym (words_behind h) ∙ ap (λ (x : Rest). x.block) (jump_block line behind n s.within (sym e))
  jump_told h Other e = tt

  pub words_bare : length line ≤ behind → block_in line ≡ no_words
  unfolding block_in
  words_bare h = by (ltb longest_line (length line))
    where
      by : (t : Bool) → cond t no_words (line_of line).block ≡ no_words
      by true = refl
      by false = ap (λ (x : ReadLine). x.block) (line_from_lem line ∙ ap (line_from line) s.is) ∙ ap (λ (x : Rest). x.block) (rest_none line behind s.within no_words h)

pub worded_in : (line : List ℕ) → Worded (block_in line)
unfolding block_in
worded_in line = by_length (ltb longest_line (length line)) no_words (line_of line).block none_worded (worded line)

pub worded_on : (tape : List ℕ) (p : ℕ) → Worded (block_on tape p)
unfolding block_on
worded_on tape p = worded_in _

-- ---- the next block that was found, or the program's end
pub not_none : (n : ℕ) → (n ≡ 0 → ⊥) → 0 < n
not_none zero h = absurd (h refl)
not_none (suc n) h = omega arith

abbrev IsAt : NextBlock → Type 0
IsAt (found.At l) = Unit {0}
IsAt found.Nowhere = ⊥

abbrev line_or : BlockAt → NextBlock → BlockAt
line_or l (found.At k) = k
line_or l found.Nowhere = l

-- what was found is the first block, and the line at its place
pub found_none : (tape : List ℕ) (g : Found) {x : NextBlock} → x ≡ next_block tape g → x ≡ found.Nowhere → g ≡ Nowhere
unfolding next_block
found_none tape Nowhere e h = refl
found_none tape (At p) e h = absurd (subst IsAt (sym e ∙ h) tt)

found_line : (tape : List ℕ) (g : Found) {x : NextBlock} {l : BlockAt} → x ≡ next_block tape g → x ≡ found.At l → (l ≡ block_at tape l.at) × (g ≡ At l.at)
unfolding next_block
found_line tape Nowhere e h = absurd (subst IsAt (sym h ∙ e) tt)
found_line tape (At p) {l = l} e h =
    let q : block_at tape p ≡ l = ap (line_or l) (sym e ∙ h) in
    let at : p ≡ l.at = ap (λ (k : BlockAt). k.at) q in
    (sym q ∙ ap (block_at tape) at, ap At at)

pub found_next : (tape : List ℕ) (from : ℕ) {x : NextBlock} {l : BlockAt} → x ≡ next_block tape (first_block (lines tape from)) → NextIn tape x → x ≡ found.At l → Next tape from l
found_next tape from e k h = let f = found_line tape (first_block (lines tape from)) e h in record { is = f.0; first = f.1; known = subst (NextIn tape) h k }

-- ---- how it is met
pub met_is : (tape : List ℕ) (from left : ℕ) {x : NextBlock} → x ≡ next_block tape (first_block (lines tape from)) → {r : Met} → r ≡ met_in tape left x → r ≡ met_from tape from left
unfolding met_from
met_is tape from left e h = h ∙ ap (met_in tape left) e

module _ (tape : List ℕ) (left : ℕ) (l : BlockAt) where
  pub none_left : left ≡ 0 → Words l ≡ met_at tape left l
  unfolding met_at
  none_left e = rw (eq-eqb left 0 e) refl

  module _ (some : left ≡ 0 → ⊥) where
    pub met_bare : l.stop ≤ l.at + l.behind → Known (Bare l.at l.after) ≡ met_at tape left l
    unfolding met_at
    met_bare h = rw (ne_eqb left 0 some, le-leb l.stop (l.at + l.behind) h) refl

    pub met_text : (l.at + l.behind < l.stop) → {j : Jumping} → j ≡ jump_on (take (l.stop - l.at) (drop l.at tape)) l.behind → met_by l j ≡ met_at tape left l
    unfolding met_at
    met_text h e = ap (met_by l) e ∙ rw (ne_eqb left 0 some, lt-leb l.stop (l.at + l.behind) h) refl

-- ---- the words of the line that was found, as they were read
module _ (tape : List ℕ) {from : ℕ} {l : BlockAt} (s : Next tape from l) where
  pub words_are : {b : Block} → b ≡ block_in (take (l.stop - l.at) (drop l.at tape)) → b ≡ block_on tape l.at
  unfolding block_on
  words_are h = h ∙ ap (λ (x : BlockAt). block_in (take (x.stop - l.at) (drop l.at tape))) s.is

  pub same_after : l.after ≡ (line_at tape l.at).after
  same_after = ap (λ (x : BlockAt). x.after) s.is

  pub behind_number : Starts (take (l.stop - l.at) (drop l.at tape)) l.behind
  behind_number = record {
    head = BlockLine l.number;
    is = ap (λ (x : BlockAt). start_of (take (x.stop - l.at) (drop l.at tape))) s.is ∙ s.known.starts;
    within = omega (arith, s.known.begins, s.known.text, length-take (l.stop - l.at) (drop l.at tape), length-drop l.at tape);
  }

  -- where its records come from, by the line as it was found
  pub same_origin_lem : (f : Frame) → f.program.number < 10_000 → origin_in f l ≡ origin_at tape (onto f l.at)
  unfolding origin_at
  same_origin_lem f h =
      let whole : f.program.number % sixteen_bits ≡ f.program.number = omega (arith, h) in
      (λ i. record { program = whole i; block = (s.is i).number })

  -- where nothing stands behind the number there are no words
  pub bare_told : {left : ℕ} → 0 < left → l.stop ≤ l.at + l.behind → Told tape from left l.at l.after no_words
  bare_told some h =
      let line = take (l.stop - l.at) (drop l.at tape) in
      record {
        first = s.first;
        words = sym (words_are (sym (words_bare line l.behind behind_number (omega (arith, h, length-take (l.stop - l.at) (drop l.at tape))))));
        some = some;
        behind = same_after;
        ends = s.known.ends;
      }

  -- and a jump alone has its words
  pub jump_met : {left : ℕ} → 0 < left → (n : ℕ) → block_in (take (l.stop - l.at) (drop l.at tape)) ≡ jump_words n → Told tape from left l.at l.after (jump_words n)
  jump_met some n e = record { first = s.first; words = sym (words_are (sym e)); some = some; behind = same_after; ends = s.known.ends }
