-- `codes::m_code` meets its contract.
use mathlib.Core.Path.{sym}
use Rattle.codes.specs.Codes.{m_code}
use Rattle.codes.proofs.Tables.{spindle, coolant, m_low, m_middle, m_high}
use borrow.Author.Rules.{rules}
use Rattle.codes.proofs.m_code.Statement.{statement}
use Rattle.codes.proofs.m_code.Tie as tie

returns : tie.Need-returns-in-0
unfolding m_code
returns c = rw c.in-0.is

returns_2 : tie.Need-returns-in-17
unfolding m_code
returns_2 c = rw c.in-17.is

returns_3 : tie.Need-returns-in-30
unfolding m_code
returns_3 c = rw c.in-30.is

returns_4 : tie.Need-returns-in-3-to-5
returns_4 c = sym (spindle _ c.in-3-to-5.if-n-lt3-own.false c.in-3-to-5.if-n-lt6-own.true)

returns_5 : tie.Need-returns-in-8-to-9
returns_5 c = sym (coolant _ c.in-8-to-9.if-n-lt8-own.false c.in-8-to-9.if-n-lt10-own.true)

returns_6 : tie.Need-returns-in_default
returns_6 c = sym (m_low _ c.in_default.if-n-lt3-own.true (search rules))

returns_7 : tie.Need-returns-in_default-2
returns_7 c = sym (m_middle _ c.in_default.if-n-lt6-own.false c.in_default.if-n-lt8-own.true)

returns_8 : tie.Need-returns-in_default-3
returns_8 c = sym (m_high _ c.in_default.if-n-lt10-own.false (search rules) (search rules))

pub m_code_spec : {M : Type 1} → statement M
m_code_spec =
    tie.close
    (tie.spec returns returns_2 returns_3 returns_4 returns_5 returns_6 returns_7 returns_8)
