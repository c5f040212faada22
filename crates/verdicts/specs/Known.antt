-- What is known of a block that may be done. It serves contracts and proofs.
use Rattle.deeds.specs.Known as deeds
use Rattle.verdicts.specs.declared.Verdict.{Verdict}
use Rattle.verdicts.specs.declared.Verdict.TheVariants.{Refused, Goes}

-- the numbers of its deed fit their places
abbrev pub Known : Verdict → Type 0
Known (Refused a) = Unit {0}
Known (Goes g) = deeds.Known g.deed
