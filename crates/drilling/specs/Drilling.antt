-- 02, request 9: "Z or W is the target; the first bite is D3, .. No D3 or 0 is one bite; missing D5 and D6 are 0. G87 draws back by the retract between bites, not past the start; G88 goes
-- to the start and returns at rapid to the retract short of the depth reached, not past the start. D4 dwells at the target, then rapid to the start."
use Rattle.std.specs.Prelude.{Bool, cond, ◌||◌, List, [], ◌∷◌, ◌++◌, ℕ, ◌+◌, ◌-◌, ◌*◌, ltb, eqb, ℤ, ◌+ℤ◌, ◌-ℤ◌, nat_abs, length}
use Rattle.whole.specs.declared.Side.{Side}
use Rattle.whole.specs.Signed.{side_of, along}
use Rattle.moves.specs.declared.Record.{Record}
use Rattle.moves.specs.Kinds.{rapid, feed, dwell}
use Rattle.drilling.specs.declared.Bore.{Bore}
use Rattle.bites.specs.Bites.{biting, has_zero}

-- A BORE { full, x, start, target, first, less, least, dwell, back, f, g95 } goes in along Z at the place x; `full` is G88.
abbrev pub stroke_of : Bore → ℕ
stroke_of b = nat_abs (b.target -ℤ b.start)

abbrev pub way_of : Bore → Side
way_of b = side_of (b.target -ℤ b.start)

-- "No D3 or 0 is one bite"
unfoldable pub bites : Bore → List ℕ
bites b = cond (eqb b.first 0) (stroke_of b ∷ []) (biting b.less b.least b.first (stroke_of b) (stroke_of b))

-- alarm 19: "D5 above 100, stroke 0 or a bite of 0 before the target"
unfoldable pub wrong : Bore → Bool
wrong b = ltb 100 b.less || (eqb (stroke_of b) 0 || has_zero (bites b))

-- the place at depth t, from the start toward the target
abbrev pub deep_at : Bore → ℕ → ℤ
deep_at b t = b.start +ℤ along (way_of b) t

-- two records of a bore: a feed to a place, and a rapid there
abbrev pub bore_to : Bore → ℤ → Record
bore_to b z = feed b.x z b.f b.g95

abbrev pub out_to : Bore → ℤ → Record
out_to b z = rapid b.x z

-- between bites, at the depth t. "G87 draws back by the retract between bites, not past the start; G88 goes to the start and returns at rapid to the retract short of the depth reached,
-- not past the start"
unfoldable pub clearing : Bore → ℕ → List Record
clearing b t = cond b.full (out_to b b.start ∷ out_to b (deep_at b (t - b.back)) ∷ []) (out_to b (deep_at b (t - b.back)) ∷ [])

-- the bites of a row, from the depth t on
unfoldable pub boring : Bore → ℕ → List ℕ → List Record
boring b t [] = []
boring b t (d ∷ []) = bore_to b (deep_at b (t + d)) ∷ []
boring b t (d ∷ (e ∷ ds)) = bore_to b (deep_at b (t + d)) ∷ (clearing b (t + d) ++ boring b (t + d) (e ∷ ds))

-- "D4 dwells at the target", where it is above 0
unfoldable pub dwelling : Bore → List Record
dwelling b = cond (eqb b.dwell 0) [] (dwell b.x b.target b.dwell ∷ [])

-- the records of a bore: its bites, the dwell, "then rapid to the start"
unfoldable pub drilling : Bore → List Record
drilling b = boring b 0 (bites b) ++ (dwelling b ++ (out_to b b.start ∷ []))

-- how many bites it has, and how many records: a feed for each, one or two rapids between each two, the dwell, the rapid to the start
abbrev pub bite_count : Bore → ℕ
bite_count b = length (bites b)

unfoldable pub record_count : Bore → ℕ
record_count b = bite_count b + (cond b.full 2 1 * (bite_count b - 1) + (cond (eqb b.dwell 0) 0 1 + 1))
