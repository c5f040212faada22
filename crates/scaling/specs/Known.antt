-- What is known of a block that was read. It serves contracts and proofs.
use Rattle.std.specs.Prelude.{ℕ, ◌<◌}
use Rattle.block.specs.declared.Block.{Block}
use Rattle.scaling.specs.Scaled.{d_word}

-- the D words of a block that was read
pub record Small (b : Block) : Type 0 where
  pub each : (i : ℕ) → i < 10 → d_word b i < 32_768
