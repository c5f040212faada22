-- Laws of a search along the lines of a tape: its end, and one line of it, with the line and its head as they were found.
-- Assumes nothing.
use Prim.Native.Nat.{ℕ, ◌-◌, ◌<◌, ◌≤◌}
use mathlib.Core.List.{List, [], ◌∷◌}
use mathlib.Core.Bool.{Bool, true, false, cond}
use mathlib.Core.Path.{◌≡◌, refl, sym, ap, ◌∙◌, subst}
use native.Mathlib.Omega.{arith}
use lib.Dec.{eqb}
use lib.ListN.{length, take, drop, length-take}
use borrow.Author.Tests.{eqb-true}
use Rattle.tape.specs.declared.line.Line.{Line}
use Rattle.tape.specs.Lines.{Text, LineIn, text_at, line_at, lines}
use Rattle.tape.proofs.Lining.{lines_end, lines_more}
use Rattle.block.specs.Words.{head_of, start_of}
use Rattle.block.proofs.Lines.{head_from, head_from_lem}
use Rattle.block.proofs.Heads.{HeadIn, head_in}
use Rattle.block.specs.declared.LineStart.{LineStart}
use Rattle.block.specs.declared.LineStart.TheVariants as start
use Rattle.block.specs.declared.Head.TheVariants.{Blank, ProgramLine, BlockLine, Other}
use Rattle.block.specs.declared.Head.{Head}
use Rattle.finding.specs.declared.Here.{Here}
use Rattle.finding.specs.declared.Here.TheVariants.{Is, Ends, On}
use Rattle.finding.specs.declared.NextBlock.TheVariants as next
use Rattle.places.specs.declared.Found.{Found}
use Rattle.places.specs.declared.Found.TheVariants.{At, Nowhere}
use Rattle.finding.specs.Finding.{Sought, Program, AnyBlock, here_of, found_by, seek_line, find_program, first_block, block_number, behind_start, next_block, BlockIn}

-- ---- the number of a program that is found has four digits, as that of every line has
same_number : (k n : ℕ) (place p : ℕ) (rest : Found) → k < 10_000 → (rest ≡ At p → n < 10_000) → (t : Bool) → eqb k n ≡ t → found_by (cond t Is On) place rest ≡ At p → n < 10_000
unfolding found_by
same_number k n place p rest small on true e h = omega (arith, small, eqb-true k n e)
same_number k n place p rest small on false e h = on h

pub program_small : (n : ℕ) (ts : List Text) (p : ℕ) → find_program n ts ≡ At p → n < 10_000
unfolding seek_line here_of found_by
program_small n [] p e = absurd (subst NotAt e tt)
  where
    NotAt : Found → Type 0
    NotAt Nowhere = Unit {0}
    NotAt (At q) = ⊥
program_small n (t ∷ ts) p e = by (head_of t.bytes) (head_in t.bytes) (program_small n ts p) e
  where
    by : (h : Head) → HeadIn h → (find_program n ts ≡ At p → n < 10_000) → found_by (here_of (Program n) h) t.place (find_program n ts) ≡ At p → n < 10_000
    by (ProgramLine k) i on f = same_number k n t.place p (find_program n ts) i on (eqb k n) refl f
    by (BlockLine k) i on f = on f
    by Blank i on f = on f
    by (Other lacks) i on f = on f

-- only one of the three
abbrev OnlyIs : Here → Type 0
OnlyIs Is = Unit {0}
OnlyIs Ends = ⊥
OnlyIs On = ⊥

-- a line that is a next block begins with a block number
pub is_block : (h : Head) → here_of AnyBlock h ≡ Is → (n : ℕ) × (h ≡ BlockLine n)
unfolding here_of
is_block (BlockLine n) e = (n, refl)
is_block (ProgramLine n) e = absurd (subst OnlyIs (sym e) tt)
is_block Blank e = absurd (subst OnlyIs (sym e) tt)
is_block (Other lacks) e = absurd (subst OnlyIs (sym e) tt)

module _ (w : Sought) (s : List ℕ) (p : ℕ) where
  pub seek_end : length s ≤ p → seek_line w (lines s p) ≡ Nowhere
  unfolding seek_line
  seek_end h = rw (lines_end s p h)

  pub seek_more : p < length s → {r : Line} → r ≡ line_at s p → {k : Head} → k ≡ head_of (take (r.stop - p) (drop p s)) → {h : Here} → h ≡ here_of w k
      → seek_line w (lines s p) ≡ found_by h p (seek_line w (lines s r.after))
  unfolding seek_line
  seek_more l e f g = rw (g, f, e, lines_more s p l)

-- ---- the next block, by what a line starts with
module _ (s : List ℕ) (p : ℕ) (l : p < length s) {r : Line} (e : r ≡ line_at s p) {x : LineStart} (f : x ≡ start_of (take (r.stop - p) (drop p s))) where
  pub first_more : first_block (lines s p) ≡ found_by (here_of AnyBlock (head_from x)) p (first_block (lines s r.after))
  first_more = seek_more AnyBlock s p l e (ap head_from f ∙ sym (head_from_lem (take (r.stop - p) (drop p s)))) refl

  -- the text, as it is defined
  text_is : start_of (text_at s p).bytes ≡ x
  text_is = sym (f ∙ ap (λ (y : Line). start_of (take (y.stop - p) (drop p s))) e)

  -- and how it begins
  head_is : head_of (text_at s p).bytes ≡ head_from x
  head_is = head_from_lem (text_at s p).bytes ∙ ap head_from text_is

  pub found_is : {h : Head} {number behind : ℕ} → x ≡ start.With h behind → number ≡ block_number h → next.At (record { at = p; number = number; behind = behind; stop = r.stop; after = r.after }) ≡ next_block s (At p)
  unfolding next_block
  found_is {h} g n =
      (λ i. next.At (record { at = p; number = (n ∙ ap block_number (sym (head_is ∙ ap head_from g))) i; behind = ap behind_start (sym (text_is ∙ g)) i; stop = (e i).stop; after = (e i).after }))

  pub found_in : {h : Head} {number behind : ℕ} → x ≡ start.With h behind → number ≡ block_number h → here_of AnyBlock h ≡ Is → behind ≤ length (take (r.stop - p) (drop p s)) → LineIn r p (length s)
      → BlockIn s (record { at = p; number = number; behind = behind; stop = r.stop; after = r.after })
  found_in {h} {number} {behind} g m i b o =
      let n = is_block h i in
      let is : h ≡ BlockLine number = n.1 ∙ ap BlockLine (sym (m ∙ ap block_number n.1)) in record {
        starts = text_is ∙ g ∙ ap (λ (k : Head). start.With k behind) is;
        small = subst HeadIn (head_is ∙ ap head_from g ∙ is) (head_in (text_at s p).bytes);
        on = omega arith;
        begins = omega (arith, b, length-take (r.stop - p) (drop p s), o.begins);
        text = o.text;
        ends = o.ends;
      }
