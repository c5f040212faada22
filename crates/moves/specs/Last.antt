-- Where the records of a row leave the axes. 02: "a following record, kind 10, carries the centre, value 0, and moves nothing".
use Rattle.std.specs.Prelude.{cond, List, [], ◌∷◌, ℤ}
use Rattle.moves.specs.declared.Record.{Record}
use Rattle.moves.specs.Kinds.{is_centre}

-- where an axis stands after a record, from x on; f is X or Z of a record
abbrev pub after : (Record → ℤ) → ℤ → Record → ℤ
after f x r = cond (is_centre r.kind) x (f r)

-- after some records, one after the other
abbrev pub last_of : (Record → ℤ) → ℤ → List Record → ℤ
last_of f x [] = x
last_of f x (r ∷ rs) = last_of f (after f x r) rs
