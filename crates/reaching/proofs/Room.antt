-- What an answer to a question is worth.
-- Assumes nothing.
use mathlib.Core.Path.{◌≡◌}
use mathlib.Core.Bool.{Bool, true}

-- t answers whether P holds
abbrev pub Answers : Type 0 → Bool → Type 0
Answers P t = (t ≡ true → P) × (P → t ≡ true)
