-- `bores::bite_more` meets its contract.
use mathlib.Core.Path.{ap, ◌∙◌}
use Prim.Native.Nat.{ℕ}
use native.Mathlib.Omega.{arith}
use Rattle.bores.specs.declared.Cursor.{Cursor}
use Rattle.drilling.specs.Drilling.{bore_to, deep_at}
use Rattle.bores.proofs.Cursors.{made, bites_more}
use borrow.Author.Rules.{rules}
use Rattle.bores.proofs.bite_more.Statement.{statement}
use Rattle.bores.proofs.bite_more.Tie as tie

bite_off_requires : tie.Need-bite_off-rest-requires
bite_off_requires c κs = search rules

feed_at_requires : tie.Need-feed_at-record-requires
feed_at_requires c κs =
    let s = c in
    omega (arith, ap (λ (k : Cursor). k.deep) c.bite_off-rest.ensures, s.requires.0.whole, s.requires.2)

returns : tie.Need-returns
returns c =
    let s = c in
    let p = s.args.c in
    let t = ap (λ (k : Cursor). k.deep) c.bite_off-rest.ensures in
    made (bites_more p s.requires.0 s.requires.1 s.requires.2) (c.feed_at-record.ensures ∙ ap (λ (n : ℕ). bore_to p.bore (deep_at p.bore n)) t) c.bite_off-rest.ensures

pub bite_more_spec : {M : Type 1} → statement M
bite_more_spec = tie.close (tie.spec bite_off_requires feed_at_requires returns)
