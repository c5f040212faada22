-- A table of places that holds the lines of a tape: what is looked up in it equals what the walk along them finds.
-- Assumes nothing.
use mathlib.Core.Path.{◌≡◌, refl, sym, ap, ◌∙◌}
use mathlib.Core.Bool.{Bool, true, false, cond}
use mathlib.Core.List.{List, [], ◌∷◌}
use Prim.Native.Nat.{ℕ, zero, suc, ◌-◌, ◌<◌, ◌≤◌}
use native.Mathlib.Omega.{arith}
use lib.Dec.{ltb, eqb}
use lib.ListN.{length}
use borrow.Author.Tests.{ltb-true, ltb-false}
use Rattle.places.specs.declared.Found.{Found}
use Rattle.places.specs.declared.Found.TheVariants.{At, Nowhere}
use Rattle.places.specs.Lines.{Kind, program, block, passed, Line, no_program, tabled, Accepted, program_here, walked_program, block_here, walked_block, behind_here, behind}
use Rattle.places.proofs.Walks.{table_row, table_program, table_block}
use Rattle.tape.specs.Lines.{line_at, LineIn, Text, text_at, lines}
use Rattle.tape.proofs.Lining.{line_in_lem, lines_more, lines_end}
use Rattle.block.specs.Words.{head_of}
use Rattle.block.specs.declared.Head.{Head}
use Rattle.block.specs.declared.Head.TheVariants.{Blank, ProgramLine, BlockLine, Other}
use Rattle.finding.specs.declared.Here.TheVariants.{Is, On}
use Rattle.finding.specs.Finding.{Program, Block, here_of, found_by, seek_line, find_program, block_of_program}
use Rattle.finding.specs.Finds.{Finds}

-- ---- what a line is to the table
abbrev pub kind_of : Head → Kind
kind_of (ProgramLine n) = program n
kind_of (BlockLine n) = block n
kind_of Blank = passed
kind_of (Other lacks) = passed

abbrev pub line_in : Text → Line
line_in t = record { kind = kind_of (head_of t.bytes); place = t.place }

abbrev pub lines_of : List Text → List Line
lines_of [] = []
lines_of (t ∷ ts) = line_in t ∷ lines_of ts

-- ---- the walks
one_way : (t : Bool) (place : ℕ) (f g : Found) → f ≡ g → cond t (At place) f ≡ found_by (cond t Is On) place g
unfolding found_by
one_way true place f g e = refl
one_way false place f g e = e

program_walk : (n : ℕ) (ts : List Text) → walked_program n (lines_of ts) ≡ find_program n ts
unfolding walked_program seek_line here_of found_by
program_walk n [] = refl
program_walk n (t ∷ ts) = by (head_of t.bytes) (program_walk n ts)
  where
    by : (head : Head) → walked_program n (lines_of ts) ≡ seek_line (Program n) ts
        → program_here n (kind_of head) t.place (walked_program n (lines_of ts)) ≡ found_by (here_of (Program n) head) t.place (seek_line (Program n) ts)
    by (ProgramLine m) rest = one_way (eqb m n) t.place _ _ rest
    by (BlockLine m) rest = rest
    by Blank rest = rest
    by (Other lacks) rest = rest

block_walk : (n : ℕ) (ts : List Text) → walked_block n (lines_of ts) ≡ seek_line (Block n) ts
unfolding walked_block seek_line here_of found_by
block_walk n [] = refl
block_walk n (t ∷ ts) = by (head_of t.bytes) (block_walk n ts)
  where
    by : (head : Head) → walked_block n (lines_of ts) ≡ seek_line (Block n) ts
        → block_here n (kind_of head) t.place (walked_block n (lines_of ts)) ≡ found_by (here_of (Block n) head) t.place (seek_line (Block n) ts)
    by (ProgramLine m) rest = refl
    by (BlockLine m) rest = one_way (eqb m n) t.place _ _ rest
    by Blank rest = rest
    by (Other lacks) rest = rest

-- the lines behind a program's line, by its place
behind_step : (n q : ℕ) (s : List ℕ) (p : ℕ) → p < length s
    → (find_program n (lines s (line_at s p).after) ≡ At q → lines_of (lines s (line_at s q).after) ≡ behind n (lines_of (lines s (line_at s p).after)))
    → find_program n (lines s p) ≡ At q → lines_of (lines s (line_at s q).after) ≡ behind n (lines_of (lines s p))
unfolding behind seek_line here_of found_by
behind_step n q s p inside rest e =
    by (head_of (text_at s p).bytes) (ap (find_program n) (sym opened) ∙ e) ∙ ap (λ (x : List Text). behind n (lines_of x)) (sym opened)
  where
    opened : lines s p ≡ text_at s p ∷ lines s (line_at s p).after
    opened = lines_more s p inside

    which : (t : Bool) → found_by (cond t Is On) p (find_program n (lines s (line_at s p).after)) ≡ At q
        → lines_of (lines s (line_at s q).after) ≡ cond t (lines_of (lines s (line_at s p).after)) (behind n (lines_of (lines s (line_at s p).after)))
    which true z =
        let same : p ≡ q = cc in
        ap (λ (x : ℕ). lines_of (lines s (line_at s x).after)) (sym same)
    which false z = rest z

    by : (head : Head) → found_by (here_of (Program n) head) p (find_program n (lines s (line_at s p).after)) ≡ At q
        → lines_of (lines s (line_at s q).after) ≡ behind_here n (kind_of head) (lines_of (lines s (line_at s p).after)) (behind n (lines_of (lines s (line_at s p).after)))
    by (ProgramLine m) z = which (eqb m n) z
    by (BlockLine m) z = rest z
    by Blank z = rest z
    by (Other lacks) z = rest z

none_at : (f : Found) (q : ℕ) → f ≡ Nowhere → f ≡ At q → ⊥
none_at f q a b = let z : ◌≡◌ {A = ℕ} 0 1 = cc in omega arith

behind_place : (k : ℕ) (n q : ℕ) (s : List ℕ) (p : ℕ) → p ≤ length s → length s - p ≤ k
    → find_program n (lines s p) ≡ At q → lines_of (lines s (line_at s q).after) ≡ behind n (lines_of (lines s p))
unfolding seek_line
behind_place zero n q s p l m e = absurd (none_at (find_program n (lines s p)) q (ap (find_program n) (lines_end s p (omega arith))) e)
behind_place (suc k) n q s p l m e = go (ltb p (length s)) refl (λ a b z. behind_place k n q s (line_at s p).after a b z)
  where
    go : (t : Bool) → ltb p (length s) ≡ t
        → ((line_at s p).after ≤ length s → length s - (line_at s p).after ≤ k → find_program n (lines s (line_at s p).after) ≡ At q
        → lines_of (lines s (line_at s q).after) ≡ behind n (lines_of (lines s (line_at s p).after)))
        → lines_of (lines s (line_at s q).after) ≡ behind n (lines_of (lines s p))
    go true z rest =
        let i : p < length s = ltb-true p (length s) z in
        let b : LineIn (line_at s p) p (length s) = line_in_lem s p l in
        let o : p < (line_at s p).after = b.onward i in
        behind_step n q s p i (rest b.ends (omega arith)) e
    go false z rest = absurd (none_at (find_program n (lines s p)) q (ap (find_program n) (lines_end s p (ltb-false p (length s) z))) e)

-- THE LAW, of a tape whose lines were accepted one after the other
pub table_finds : (tape : List ℕ) (first : ℕ) → first ≤ length tape → Accepted no_program [] (lines_of (lines tape first))
    → Finds (tabled no_program [] (lines_of (lines tape first))) tape first
unfolding block_of_program
table_finds tape first on fresh = record {
  ascends = table_row (lines_of (lines tape first)) fresh;
  programs = λ n. table_program (lines_of (lines tape first)) fresh n ∙ program_walk n (lines tape first);
  blocks = λ p q n z.
      table_block (lines_of (lines tape first)) fresh p q n (program_walk p (lines tape first) ∙ z)
      ∙ ap (walked_block n) (sym (behind_place (length tape) p q tape first on (omega arith) z))
      ∙ block_walk n (lines tape (line_at tape q).after);
}
