-- Laws of the places that the runner goes to: each is that of a line of the tape, and is the same by the table of places and by the walk.
-- Assumes nothing.
use mathlib.Core.Path.{◌≡◌, refl, ap, subst}
use mathlib.Core.Bool.{Bool, true, false, cond, ◌||◌}
use mathlib.Core.List.{List, [], ◌∷◌}
use Prim.Native.Nat.{ℕ, zero, suc, ◌<◌, ◌≤◌}
use native.Mathlib.Omega.{arith}
use lib.Dec.{ltb, eqb}
use lib.ListN.{length}
use borrow.Author.Tests.{ltb-true, ltb-false}
use Rattle.alarms.specs.Numbers.{program_missing}
use Rattle.alarms.specs.Given.{IsAlarm}
use Rattle.tape.specs.Lines.{Text, line_at, lines_up, lines}
use Rattle.numbers.proofs.Bounds.{cond_ind}
use Rattle.block.specs.Words.{head_of}
use Rattle.settings.specs.Wrong.{highest_subroutine}
use Rattle.settings.specs.declared.Settings.{Settings}
use Rattle.finding.specs.Finding.{Sought, Program, Block, AnyBlock, here_of, found_by, seek_line, find_program, first_block, block_of_program}
use Rattle.finding.specs.declared.Here.{Here}
use Rattle.finding.specs.declared.Here.TheVariants as here
use Rattle.places.specs.declared.Found.{Found}
use Rattle.places.specs.declared.Found.TheVariants.{At, Nowhere}
use Rattle.requests.specs.declared.Request.{Request}
use Rattle.requests.specs.declared.Request.TheVariants as next
use Rattle.finding.specs.Finds.{Finds}
use Rattle.ahead.specs.Ahead.{most_calls, called_at, jumped_to, looked_by, looked_up, looked_up_in, LooksUp, FoundAt}
use Rattle.ahead.specs.declared.ProgramAt.{ProgramAt}
use Rattle.ahead.specs.declared.Frame.{Frame}
use Rattle.ahead.specs.declared.Onward.{Onward}
use Rattle.ahead.specs.declared.Onward.TheVariants.{On, Call, Jump, Return, End, Stop}

-- ---- the lines of a tape stand on it
abbrev pub AllIn : ℕ → List Text → Type 0
AllIn n [] = Unit {0}
AllIn n (t ∷ ts) = (t.place < n) × AllIn n ts

up_in : (k : ℕ) (s : List ℕ) (p : ℕ) → AllIn (length s) (lines_up k s p)
unfolding lines_up
up_in zero s p = tt
up_in (suc k) s p = cond_ind (AllIn (length s)) (ltb p (length s)) _ [] (λ t. (ltb-true p (length s) t, up_in k s (line_at s p).after)) tt

pub lines_in : (s : List ℕ) (p : ℕ) → AllIn (length s) (lines s p)
unfolding lines
lines_in s p = up_in (length s) s p

-- ---- what is found among them
abbrev pub FoundIn : ℕ → Found → Type 0
FoundIn n (At p) = p < n
FoundIn n Nowhere = Unit {0}

found_here : (m : ℕ) (h : Here) (p : ℕ) (f : Found) → p < m → FoundIn m f → FoundIn m (found_by h p f)
unfolding found_by
found_here m here.Is p f h g = h
found_here m here.Ends p f h g = tt
found_here m here.On p f h g = g

seek_in : (m : ℕ) (w : Sought) (ts : List Text) → AllIn m ts → FoundIn m (seek_line w ts)
unfolding seek_line
seek_in m w [] a = tt
seek_in m w (t ∷ ts) a = found_here m (here_of w (head_of t.bytes)) t.place (seek_line w ts) a.0 (seek_in m w ts a.1)

pub sought_on : (w : Sought) (tape : List ℕ) (p : ℕ) → FoundIn (length tape) (seek_line w (lines tape p))
sought_on w tape p = seek_in (length tape) w (lines tape p) (lines_in tape p)

pub program_on : (n : ℕ) (tape : List ℕ) (p : ℕ) → FoundIn (length tape) (find_program n (lines tape p))
program_on n tape p = sought_on (Program n) tape p

block_on : (n : ℕ) (tape : List ℕ) (program : ℕ) → FoundIn (length tape) (block_of_program n tape program)
unfolding block_of_program
block_on n tape program = sought_on (Block n) tape (line_at tape program).after

pub first_on : (tape : List ℕ) (p : ℕ) → FoundIn (length tape) (first_block (lines tape p))
first_on tape p = sought_on AnyBlock tape p

-- ---- what it asks for: places on the tape, or one of 01's alarms
abbrev pub OnwardOn : ℕ → Onward → Type 0
OnwardOn n On = Unit {0}
OnwardOn n (Call p times) = p.line < n
OnwardOn n (Jump p) = p < n
OnwardOn n Return = Unit {0}
OnwardOn n End = Unit {0}
OnwardOn n (Stop alarm place) = IsAlarm false alarm

called_on : (n : ℕ) (f : Found) (k : ℕ) (r : Frame) (times : ℕ) → FoundIn n f → OnwardOn n (called_at f k r times)
unfolding called_at
called_on n Nowhere k r times h = refl
called_on n (At p) k r times h = cond_ind (OnwardOn n) (eqb r.calls_left 0) _ (Call (record { number = k; line = p }) times) (λ _. refl) h

jumped_on : (n : ℕ) (f : Found) (r : Frame) → FoundIn n f → OnwardOn n (jumped_to f r)
unfolding jumped_to
jumped_on n Nowhere r h = refl
jumped_on n (At p) r h = h

pub looked_on : (tape : List ℕ) (set : Settings) (first : ℕ) (r : Frame) (n : Request) → OnwardOn (length tape) (looked_up tape set first r n)
unfolding looked_up looked_by
looked_on tape set first r next.On = tt
looked_on tape set first r (next.Call n times) =
    let f = find_program n (lines tape first) in
    cond_ind (OnwardOn (length tape)) (ltb n set.lowest_subroutine || ltb highest_subroutine n) _ (called_at f n r times) (λ _. refl) (called_on (length tape) f n r times (program_on n tape first))
looked_on tape set first r (next.Jump n) = jumped_on (length tape) (block_of_program n tape r.program.line) r (block_on n tape r.program.line)
looked_on tape set first r next.Return = cond_ind (OnwardOn (length tape)) (eqb r.calls_left most_calls) _ Return (λ _. refl) tt
looked_on tape set first r next.End = cond_ind (OnwardOn (length tape)) (eqb r.calls_left most_calls) End _ (λ _. tt) refl

-- ---- a program that is called was found
abbrev pub CallFound : List ℕ → ℕ → Onward → Type 0
CallFound tape first On = Unit {0}
CallFound tape first (Call p times) = FoundAt tape first p
CallFound tape first (Jump p) = Unit {0}
CallFound tape first Return = Unit {0}
CallFound tape first End = Unit {0}
CallFound tape first (Stop alarm place) = Unit {0}

called_found : (tape : List ℕ) (first : ℕ) (f : Found) (k : ℕ) (r : Frame) (times : ℕ) → find_program k (lines tape first) ≡ f → CallFound tape first (called_at f k r times)
unfolding called_at
called_found tape first Nowhere k r times h = tt
called_found tape first (At p) k r times h = cond_ind (CallFound tape first) (eqb r.calls_left 0) _ (Call (record { number = k; line = p }) times) (λ _. tt) h

pub looked_found : (tape : List ℕ) (set : Settings) (first : ℕ) (r : Frame) (n : Request) → CallFound tape first (looked_up tape set first r n)
unfolding looked_up looked_by jumped_to
looked_found tape set first r next.On = tt
looked_found tape set first r (next.Call n times) =
    let f = find_program n (lines tape first) in
    cond_ind (CallFound tape first) (ltb n set.lowest_subroutine || ltb highest_subroutine n) _ (called_at f n r times) (λ _. tt) (called_found tape first f n r times refl)
looked_found tape set first r (next.Jump n) = by (block_of_program n tape r.program.line)
  where
    by : (f : Found) → CallFound tape first (jumped_to f r)
    by Nowhere = tt
    by (At p) = tt
looked_found tape set first r next.Return = cond_ind (CallFound tape first) (eqb r.calls_left most_calls) _ Return (λ _. tt) tt
looked_found tape set first r next.End = cond_ind (CallFound tape first) (eqb r.calls_left most_calls) End _ (λ _. tt) tt

-- and its line stands on the tape
pub found_within : (tape : List ℕ) (first : ℕ) (p : ProgramAt) → FoundAt tape first p → p.line ≤ length tape
found_within tape first p e = let l : p.line < length tape = subst (FoundIn (length tape)) e (program_on p.number tape first) in omega (arith, l)

-- ---- whatever a table has: a program that is called has the number of a subroutine
abbrev pub CallLow : Onward → Type 0
CallLow On = Unit {0}
CallLow (Call p times) = p.number ≤ highest_subroutine
CallLow (Jump p) = Unit {0}
CallLow Return = Unit {0}
CallLow End = Unit {0}
CallLow (Stop alarm place) = Unit {0}

called_low : (x : Found) (n : ℕ) (f : Frame) (times : ℕ) → n ≤ highest_subroutine → CallLow (called_at x n f times)
unfolding called_at
called_low Nowhere n f times h = tt
called_low (At p) n f times h = cond_ind CallLow (eqb f.calls_left 0) _ (Call (record { number = n; line = p }) times) (λ _. tt) h

by_low : (x : Found) (set : Settings) (f : Frame) (n : Request) → CallLow (looked_by (λ _. x) (λ _. x) set f n)
unfolding looked_by jumped_to
by_low x set f next.On = tt
by_low x set f (next.Call n times) = by (ltb n set.lowest_subroutine) (ltb highest_subroutine n) refl
  where
    by : (low high : Bool) → ltb highest_subroutine n ≡ high → CallLow (cond (low || high) (Stop program_missing f.at) (called_at x n f times))
    by true high e = tt
    by false true e = tt
    by false false e = called_low x n f times (ltb-false highest_subroutine n e)
by_low Nowhere set f (next.Jump n) = tt
by_low (At p) set f (next.Jump n) = tt
by_low x set f next.Return = cond_ind CallLow (eqb f.calls_left most_calls) _ Return (λ _. tt) tt
by_low x set f next.End = cond_ind CallLow (eqb f.calls_left most_calls) End _ (λ _. tt) tt

pub looks_low : (set : Settings) (f : Frame) (n : Request) (r : Onward) → LooksUp set f n r → CallLow r
looks_low set f n r l = rw l.looks (by_low l.found set f n)

-- ---- THE LAW: what is looked up in the table of places is what the walk along the tape finds
pub looked_same : (row tape : List ℕ) (first : ℕ) → Finds row tape first → (set : Settings) (f : Frame) → FoundAt tape first f.program → (n : Request)
    → looked_up_in row set f n ≡ looked_up tape set first f n
unfolding looked_up_in looked_up looked_by
looked_same row tape first t set f h next.On = refl
looked_same row tape first t set f h (next.Call n times) =
    ap (λ (x : Found). cond (ltb n set.lowest_subroutine || ltb highest_subroutine n) (Stop program_missing f.at) (called_at x n f times)) (t.programs n)
looked_same row tape first t set f h (next.Jump n) = ap (λ (x : Found). jumped_to x f) (t.blocks f.program.number f.program.line n h)
looked_same row tape first t set f h next.Return = refl
looked_same row tape first t set f h next.End = refl
