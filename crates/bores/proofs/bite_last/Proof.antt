-- `bores::bite_last` meets its contract.
use mathlib.Core.Path.{ap, ◌∙◌}
use Prim.Native.Nat.{ℕ}
use native.Mathlib.Omega.{arith}
use Rattle.bores.specs.declared.Cursor.{Cursor}
use Rattle.drilling.specs.Drilling.{bore_to, deep_at}
use Rattle.bores.proofs.Cursors.{made, bites_last}
use borrow.Author.Rules.{rules}
use Rattle.bores.proofs.bite_last.Statement.{statement}
use Rattle.bores.proofs.bite_last.Tie as tie

reach_bottom_requires : tie.Need-reach_bottom-rest-requires
reach_bottom_requires c κs = search rules

feed_at_requires : tie.Need-feed_at-record-requires
feed_at_requires c κs =
    let s = c in
    omega (arith, ap (λ (k : Cursor). k.deep) c.reach_bottom-rest.ensures, s.requires.0.whole)

returns : tie.Need-returns
returns c =
    let s = c in
    let p = s.args.c in
    let t = ap (λ (k : Cursor). k.deep) c.reach_bottom-rest.ensures in
    made (bites_last p s.requires.0 s.requires.1 s.requires.2) (c.feed_at-record.ensures ∙ ap (λ (n : ℕ). bore_to p.bore (deep_at p.bore n)) t) c.reach_bottom-rest.ensures

pub bite_last_spec : {M : Type 1} → statement M
bite_last_spec = tie.close (tie.spec reach_bottom_requires feed_at_requires returns)
