-- `scanning::read_tape` meets its contract.
use mathlib.Core.Path.{◌≡◌, sym, ap, ◌∙◌}
use mathlib.Core.Bool.{Bool, cond}
use mathlib.Core.List.{List, []}
use Prim.Native.Nat.{ℕ, ◌<◌, ◌≤◌}
use lib.Dec.{ltb}
use lib.ListN.{length}
use borrow.Author.Tests.{lt-ltb, le-ltb}
use Rattle.alarms.specs.Numbers.{no_program}
use Rattle.tape.specs.Lines.{seek_from, opens_tape}
use Rattle.reading.specs.declared.Read.TheVariants.{Alarm}
use Rattle.reading.specs.Reading.{number_of, place_of}
use Rattle.reading.specs.declared.TapeRead.{TapeRead}
use Rattle.reading.specs.Filling.{Readings, told, Tells, read_with, places_behind}
use Rattle.reading.proofs.Going.{whole}
use borrow.Author.Rules.{rules}
use Rattle.scanning.proofs.read_tape.Statement.{statement}
use Rattle.scanning.proofs.read_tape.Tie as tie

-- a tape by the place of its first line
by : Bool → ℕ → List ℕ → ℕ → Readings
by points size s first = cond (ltb first (length s)) (whole points s first size) (record { read = Alarm no_program 0; row = [] })

none : (points : Bool) (size : ℕ) (s : List ℕ) (f : ℕ) → f ≡ seek_from opens_tape s 0 → length s ≤ f → read_with points size s ≡ record { read = Alarm no_program 0; row = [] }
unfolding read_with by
none points size s f e h = ap (by points size s) (sym e) ∙ rw (le-ltb f (length s) h)

some : (points : Bool) (size : ℕ) (s : List ℕ) (f : ℕ) → f ≡ seek_from opens_tape s 0 → f < length s → read_with points size s ≡ whole points s f size
unfolding read_with by
some points size s f e h = ap (by points size s) (sym e) ∙ rw (lt-ltb f (length s) h)

-- what was read, with its number and place
tells : (r : TapeRead) (x : Readings) → r ≡ told x → Tells r x
tells r x e = record { is = e; number = ap (λ (y : TapeRead). number_of y.read) e; place = ap (λ (y : TapeRead). place_of y.read) e }

returns : tie.Need-returns-then-first-tape
returns c =
    let f = c in
    let a = f.args in
    let e = none a.points (length a.places.now) a.tape.now f.first_line-first.result f.first_line-first.ensures.0 c.if-first-tape.true in
    (tells _ _ (sym (ap told e)), ap (λ (x : Readings). places_behind x.row a.places.now) (sym e))

returns_2 : tie.Need-returns
returns_2 c =
    let l = c in
    let i = l in
    let f = i in
    let a = f.args in
    let e = some a.points (length a.places.now) a.tape.now f.first_line-first.result f.first_line-first.ensures.0 i.if-first-tape.false in
    (tells _ _ (l.read_lines.ensures.0 ∙ sym (ap told e)), l.read_lines.ensures.1 ∙ ap (λ (x : Readings). places_behind x.row a.places.now) (sym e))

pub read_tape_spec : {M : Type 1} → statement M
read_tape_spec = tie.close (tie.spec (λ c κs. search rules) returns (λ c κs. search rules) (λ c. search rules) returns_2)
