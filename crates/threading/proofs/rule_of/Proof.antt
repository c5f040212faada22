-- `threading::rule_of` meets its contract.
use mathlib.Core.Path.{sym}
use Rattle.std.proofs.Common.{eq-eqb}
use Rattle.std.proofs.lemmas.Bool.{ne_eqb}
use mathlib.Core.Bool.{Bool, cond}
use Rattle.depths.specs.declared.Rule.{Rule}
use Rattle.depths.specs.declared.Rule.TheVariants.{EvenDepth, EvenNumber, FallingDepth, FallingNumber}
use Rattle.threading.specs.Bits.{rule_of}
use Rattle.threading.proofs.rule_of.Statement.{statement}
use Rattle.threading.proofs.rule_of.Tie as tie

abbrev picks : Bool → Bool → Rule
picks n c = cond n (cond c EvenNumber FallingNumber) (cond c EvenDepth FallingDepth)

returns : tie.Need-returns-then-constant
unfolding rule_of
returns c = λ i. picks (sym (eq-eqb _ _ c.if-number.true) i) (sym (eq-eqb _ _ c.if-constant.true) i)

returns_2 : tie.Need-returns-then-number
unfolding rule_of
returns_2 c = λ i. picks (sym (eq-eqb _ _ c.if-number.true) i) (sym (ne_eqb _ _ c.if-constant.false) i)

returns_3 : tie.Need-returns-then-constant-2
unfolding rule_of
returns_3 c = λ i. picks (sym (ne_eqb _ _ c.if-number.false) i) (sym (eq-eqb _ _ c.if-constant-2.true) i)

returns_4 : tie.Need-returns
unfolding rule_of
returns_4 c = λ i. picks (sym (ne_eqb _ _ c.if-number.false) i) (sym (ne_eqb _ _ c.if-constant-2.false) i)

pub rule_of_spec : {M : Type 1} → statement M
rule_of_spec = tie.close (tie.spec returns returns_2 returns_3 returns_4)
