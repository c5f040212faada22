-- `finding::any_here` meets its contract.
use mathlib.Core.Path.{sym, ap}
use Rattle.finding.specs.Finding.{AnyBlock, here_of}
use borrow.Author.Rules.{rules}
use Rattle.finding.proofs.any_here.Statement.{statement}
use Rattle.finding.proofs.any_here.Tie as tie

returns : tie.Need-returns-in-ProgramLine
unfolding here_of
returns c = sym (ap (here_of AnyBlock) c.in-ProgramLine.is)

returns_2 : tie.Need-returns-in-BlockLine
unfolding here_of
returns_2 c = sym (ap (here_of AnyBlock) c.in-BlockLine.is)

returns_3 : tie.Need-returns-in-Blank
unfolding here_of
returns_3 c = sym (ap (here_of AnyBlock) c.in-Blank.is)

returns_4 : tie.Need-returns-in-Other
unfolding here_of
returns_4 c = sym (ap (here_of AnyBlock) c.in-Other.is)

pub any_here_spec : {M : Type 1} → statement M
any_here_spec =
    tie.close
    (tie.spec (λ c. search rules) (λ c. search rules) (λ c. search rules) (λ c. search rules) returns returns_2 returns_3 returns_4)
