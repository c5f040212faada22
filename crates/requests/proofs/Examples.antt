-- A call, a jump and the M numbers of group 2, computed from the definitions.
-- Assumes nothing.
use mathlib.Core.Path.{◌≡◌, refl}
use Rattle.codes.specs.Codes.{g_code, m_code}
use Rattle.requests.specs.declared.Request.TheVariants.{On, Call, Jump, Return, End}
use Rattle.requests.specs.Request.{times_of, steered, flow_by}

-- "L is 100 times the subroutine number plus the repeats"
pub called_thrice : steered (g_code 25) 8003 On ≡ Call 80 3
unfolding g_code times_of steered
called_thrice = refl

-- "repeats 0 means once"
pub called_once : steered (g_code 25) 8000 On ≡ Call 80 1
unfolding g_code times_of steered
called_once = refl

pub jumped : steered (g_code 27) 8003 On ≡ Jump 8003
unfolding g_code steered
jumped = refl

-- M00, M17, M30
pub stopped : flow_by (m_code 0) ≡ On
unfolding m_code flow_by
stopped = refl

pub returned : flow_by (m_code 17) ≡ Return
unfolding m_code flow_by
returned = refl

pub ended : flow_by (m_code 30) ≡ End
unfolding m_code flow_by
ended = refl
