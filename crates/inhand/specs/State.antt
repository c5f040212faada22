-- A RECORD THAT IS GIVEN of the words of an engine's state, which are passed on here: what they stand for is said in `statewords`.
use Rattle.std.specs.Prelude.{◌≡◌, Bool, true, false, List, ◌∷◌, ℕ, length}
use Rattle.octets.specs.Bytes.{laid}
use Rattle.moves.specs.Form.{record_bytes}
use Rattle.moves.specs.declared.Listed.{Listed}
use Rattle.holding.specs.of_taking.Hands.{in_hand}
use Rattle.holding.specs.Held.{Held}
pub use Rattle.statewords.specs.State.{state_words, due_in, plan_in, going_in, is_empty_in, hand_from, hand_kept, PutMeets}
unfoldable pub use Rattle.statewords.specs.State.{hand_in, run_in}

-- ---- what the contracts say
-- a record was given: the first of those in hand, and the others are still
pub record Given (w b v c : List ℕ) : Type 0 where
  pub listed : Listed
  pub first : in_hand (hand_in w) ≡ listed ∷ in_hand (hand_in v)
  pub held : Held (hand_in v)
  pub bytes : c ≡ laid b 0 (record_bytes listed)
  pub run : run_in v ≡ run_in w
  pub long : length v ≡ state_words

-- of words with a block in hand: a record is given where that block is sound and has a record left, and nowhere else; where none is given nothing is done
pub record GiveMeets (w b : List ℕ) (r : Bool) (v c : List ℕ) : Type 0 where
  pub gives : r ≡ true → Given w b v c
  pub refuses : r ≡ false → (v ≡ w) × (c ≡ b)
  pub right : Held (hand_in w) → r ≡ true
  pub held : r ≡ true → Held (hand_in w)
