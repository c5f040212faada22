-- `bites::bite_count` meets its contract.
use borrow.Author.Rules.{rules}
use mathlib.Core.Path.{sym, ◌∙◌}
use Prim.Native.Nat.{◌<◌}
use native.Mathlib.Omega.{arith}
use Rattle.division.proofs.Divisions.{few_pieces}
use Rattle.bites.proofs.Rows.{some}
use Rattle.bites.proofs.bite_count.Statement.{statement}
use Rattle.bites.proofs.bite_count.Tie as tie

fall_requires : tie.Need-fall-end-requires
fall_requires c κs = search rules

-- the bite that repeats itself is not 0
above : (c : tie.After-fall-end) → 0 < c.fall-end.result.bite
above c = some c.fall-end.result.bite (sym c.fall-end.ensures.zero ∙ c.requires.3)

piece_count_requires : tie.Need-piece_count-requires
piece_count_requires c κs = (c.fall-end.ensures.some, above c)

add_result : tie.Need-overflow_add-result
add_result c =
    let f = c.fall-end in
    omega (arith, f.ensures.fits, c.piece_count.ensures, few_pieces f.result.left f.result.bite f.ensures.some (above c.before))

returns : tie.Need-returns
returns c = let f = c.fall-end in omega (arith, f.ensures.many (above c.before), c.piece_count.ensures)

pub bite_count_spec : {M : Type 1} → statement M
bite_count_spec = tie.close (tie.spec fall_requires piece_count_requires add_result returns)
