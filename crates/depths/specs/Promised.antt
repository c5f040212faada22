-- WHAT A ROW OF CUTS PROMISES, said of a row of depths alone, whoever made it; d is D3 and e is D6. Each depth is at least the one before it, the last is exactly D6, and
-- nothing goes deeper. Constant cuts divide D6 evenly. Of falling cuts the first takes most, and no row with a cut fewer reaches D6 by the same rule.
use Rattle.std.specs.Prelude.{◌≡◌, List, [], ◌∷◌, ◌++◌, ℕ, suc, ◌+◌, ◌-◌, ◌*◌, ◌≤◌, ◌<◌, length, replicate, get_or}
use Rattle.division.specs.Division.{sum, greatest, Evenly}
use Rattle.depths.specs.declared.Rule.{Rule}
use Rattle.depths.specs.declared.Rule.TheVariants.{EvenDepth, EvenNumber, FallingDepth, FallingNumber}

-- how much each cut takes, the first from the depth x on
unfoldable pub taken : ℕ → List ℕ → List ℕ
taken x [] = []
taken x (y ∷ ys) = (y - x) ∷ taken y ys

-- from x on each depth is at least the one before it, and the last is e: so none is deeper
unfoldable pub Rises : ℕ → ℕ → List ℕ → Type 0
Rises e x [] = x ≡ e
Rises e x (y ∷ ys) = (x ≤ y) × Rises e y ys

-- ---- constant cuts
-- "equal-as-possible pieces, deeper first": some of one length, and behind them some that are one shorter
pub record Alike (ps : List ℕ) : Type 0 where
  pub shorter : ℕ
  pub deeper_ones : ℕ
  pub others : ℕ
  pub is : ps ≡ replicate deeper_ones (shorter + 1) ++ replicate others shorter

-- by depth: they divide D6 evenly, none above D3
pub record EvenByDepth (d e : ℕ) (row : List ℕ) : Type 0 where
  pub evenly : Evenly e d (taken 0 row)
  pub alike : Alike (taken 0 row)

-- by number: D3 cuts that add up to D6
pub record EvenByNumber (d e : ℕ) (row : List ℕ) : Type 0 where
  pub many : length row ≡ d
  pub adds_up : sum (taken 0 row) ≡ e
  pub alike : Alike (taken 0 row)

-- ---- falling cuts
-- x is the whole part of the square root of n / d
pub record IsRootOf (n d x : ℕ) : Type 0 where
  pub below : x * x * d ≤ n
  pub above : n < (x + 1) * (x + 1) * d

-- x is depth k: "the whole part of the square root of k x D3² .., or of D6² x k / D3 for a cut number"
abbrev pub RootByDepth : ℕ → ℕ → ℕ → Type 0
RootByDepth d k x = IsRootOf (k * (d * d)) 1 x

abbrev pub RootByNumber : ℕ → ℕ → ℕ → ℕ → Type 0
RootByNumber d e k x = IsRootOf (e * e * k) d x

-- from cut k on each is depth k by the rule R, "the first at or above D6 made D6 and last"
pub data Until (R : ℕ → ℕ → Type 0) (e : ℕ) : ℕ → List ℕ → Type 0 where
  last : {k x : ℕ} → R k x → e ≤ x → Until R e k (e ∷ [])
  more : {k x : ℕ} {ds : List ℕ} → R k x → x < e → Until R e (suc k) ds → Until R e k (x ∷ ds)

pub record Falling (R : ℕ → ℕ → Type 0) (e : ℕ) (row : List ℕ) : Type 0 where
  pub rule : Until R e 1 row
  -- no cut takes more than the first
  pub first : greatest (taken 0 row) ≤ get_or row 0 0
  -- no row with fewer cuts reaches D6 by the same rule
  pub fewest : (k x : ℕ) → k < length row → R k x → x < e

-- by number there are D3 cuts besides; the same rule is that of the same D3
pub record FallingByNumber (d e : ℕ) (row : List ℕ) : Type 0 where
  pub many : length row ≡ d
  pub falling : Falling (RootByNumber d e) e row

-- ---- THE PROMISE
abbrev pub ByRule : Rule → ℕ → ℕ → List ℕ → Type 0
ByRule EvenDepth d e row = EvenByDepth d e row
ByRule EvenNumber d e row = EvenByNumber d e row
ByRule FallingDepth d e row = Falling (RootByDepth d) e row
ByRule FallingNumber d e row = FallingByNumber d e row

pub record Promised (r : Rule) (d e : ℕ) (row : List ℕ) : Type 0 where
  pub rises : Rises e 0 row
  pub by_rule : ByRule r d e row
