-- A block with no other words than G25 or G27 and L is done and changes nothing: it moves nothing, writes nothing and gives no alarm of its own. So is a block without words.
-- Assumes nothing.
use mathlib.Core.Path.{◌≡◌, refl, ap, ◌∙◌, subst}
use mathlib.Core.Bool.{Bool, true, false, ◌||◌}
use mathlib.Core.List.{List, []}
use Prim.Native.Nat.{ℕ, ◌+◌, ◌-◌}
use native.Mathlib.Nat.{add-zero}
use lib.IntN.{ℤ, pos}
use lib.ListN.{length, set, replicate}
use borrow.Author.Tests.{eq-eqb}
use Rattle.codes.specs.Codes.{g_code, m_code}
use Rattle.codes.specs.declared.Motion.TheVariants as motion
use Rattle.acts.specs.Acting.{keep, motion_by, shift_by, cutting_by, revolution_by}
use Rattle.acts.specs.declared.Kept.{Kept}
use Rattle.acts.specs.declared.Kept.TheVariants.{Nothing, Of}
use Rattle.moves.specs.declared.Record.{Record}
use Rattle.addresses.specs.Words.{lacks_point}
use Rattle.block.specs.Slots.{slots, steering_slot, l_slot, has, g_in}
use Rattle.block.specs.Words.{slot_of, no_words, is_end, put_word}
use Rattle.block.specs.declared.Block.{Block}
use Rattle.jumping.specs.Jumping.{jump_words}
use Rattle.settings.specs.declared.Settings.{Settings}
use Rattle.settings.specs.declared.Limits.{Limits}
use Rattle.state.specs.Modal.{block_motion, correction_after, feed_after, due_after, settled}
use Rattle.state.specs.Known.{Sound}
use Rattle.state.specs.declared.State.{State}
use Rattle.deeds.specs.Deed.{has_path, has_centre, straight_if, round_if, move_of, deed_of}
use Rattle.deeds.specs.declared.Deed.{Deed}
use Rattle.deeds.specs.declared.Deed.TheVariants as deed
use Rattle.scaling.specs.declared.Sending.{Sending}
use Rattle.asking.specs.Judge.{asks_of, alarm_of, doing}
use Rattle.writing.specs.Writes.{one_if, speed_and_tool, spindle_and_coolant, done, stops, stopping, writes, other_count}
use Rattle.verdicts.specs.Verdicts.{deed_in, sending_of, asks_in, asked_in, alarm_in}
use Rattle.machine.specs.declared.BlockOutcome.TheVariants.{Done}
use Rattle.machine.specs.Blocks.{done_records, done_state, block_records, outcome_of}

-- ---- the state stays
keep_same : (m : Kept) → keep m m ≡ m
unfolding keep
keep_same Nothing = refl
keep_same (Of motion.Rapid) = refl
keep_same (Of motion.Feed) = refl
keep_same (Of motion.Clockwise) = refl
keep_same (Of motion.Counterclockwise) = refl
keep_same (Of motion.Thread) = refl
keep_same (Of motion.Dwell) = refl
keep_same (Of motion.Turning) = refl
keep_same (Of motion.Threading) = refl
keep_same (Of motion.Grooving) = refl
keep_same (Of motion.ChipBreaking) = refl
keep_same (Of motion.Redrawing) = refl

or_none : (t : Bool) → (t || false) ≡ t
or_none true = refl
or_none false = refl

-- ---- there is no deed: the kept motion function is none of those that need no path word
abbrev IsNothing : Kept → Type 0
IsNothing Nothing = Unit {0}
IsNothing (Of m) = ⊥

quiet_alarm : (l : Limits) (due : Bool) (f room : ℕ) → alarm_of (asks_of deed.Nothing l) (record { rapid_due = due; f = f; other_count = 0; room_left = room }) ≡ 0
unfolding asks_of alarm_of
quiet_alarm l true f room = refl
quiet_alarm l false f room = refl

-- a block in which G25 or G27 and L may apply, and nothing else
abbrev quiet : ℕ → ℕ → List ℤ → ℕ → Bool → Bool → Bool → Bool → Block
quiet steering l value words late unknown ends lacks = record {
  value = value;
  place = set (set (replicate slots 0) steering_slot steering) l_slot l;
  words = words;
  late = late;
  unknown = unknown;
  ends = ends;
  pointless = lacks;
}

module _ (steering l : ℕ) (value : List ℤ) (words : ℕ) (late unknown ends lacks : Bool) where
  abbrev b : Block
  b = quiet steering l value words late unknown ends lacks

  settled_same : (s : State) → settled s b ≡ s
  unfolding has g_in motion_by shift_by cutting_by revolution_by block_motion correction_after feed_after due_after settled
  settled_same s i = record {
    motion = keep_same s.motion i;
    g96 = s.g96;
    g95 = s.g95;
    shift_group3 = s.shift_group3;
    shift_group5 = s.shift_group5;
    correction = s.correction;
    f = s.f;
    rapid_due = or_none s.rapid_due i;
    x = s.x;
    z = s.z;
  }

  none_moves : (m : Kept) → keep m Nothing ≡ m → (x : Sending) → deed_of (block_motion m b) b x ≡ deed.Nothing
  unfolding has g_in motion_by block_motion keep has_path has_centre straight_if round_if move_of deed_of
  none_moves Nothing e x = refl
  none_moves (Of motion.Rapid) e x = refl
  none_moves (Of motion.Feed) e x = refl
  none_moves (Of motion.Clockwise) e x = refl
  none_moves (Of motion.Counterclockwise) e x = refl
  none_moves (Of motion.Thread) e x = refl
  none_moves (Of motion.Dwell) e x = absurd (subst IsNothing e tt)
  none_moves (Of motion.Turning) e x = absurd (subst IsNothing e tt)
  none_moves (Of motion.Threading) e x = absurd (subst IsNothing e tt)
  none_moves (Of motion.Grooving) e x = absurd (subst IsNothing e tt)
  none_moves (Of motion.ChipBreaking) e x = absurd (subst IsNothing e tt)
  none_moves (Of motion.Redrawing) e x = absurd (subst IsNothing e tt)

  module _ (table : List ℤ) (given : Settings) (s : State) (h : Sound s) where
    none_deed : deed_in table given s b ≡ deed.Nothing
    unfolding deed_in
    none_deed = none_moves s.motion h.kept (sending_of table given s b)

    none_alarm : (room : ℕ) → alarm_in table given s b room ≡ 0
    unfolding has stops other_count asks_in asked_in alarm_in
    none_alarm room =
        ap (λ (d : Deed). alarm_of (asks_of d given.limits) (asked_in s b room)) none_deed ∙ quiet_alarm given.limits (settled s b).rapid_due (settled s b).f room

    none_records : done_records table given s b ≡ []
    unfolding has one_if speed_and_tool spindle_and_coolant stops stopping doing writes done_records
    none_records = ap (λ (d : Deed). writes (settled s b) b d) none_deed

    none_state : done_state table given s b ≡ s
    unfolding done done_state
    none_state = ap (λ (d : Deed). done (settled s b) d) none_deed ∙ settled_same s

    pub quiet_records : (room : ℕ) → block_records table given s b room ≡ []
    unfolding block_records
    quiet_records room = rw (eq-eqb (alarm_in table given s b room) 0 (none_alarm room)) none_records

    pub quiet_done : (room k : ℕ) → outcome_of table given s b room k ≡ Done (record { state = s; count = k })
    unfolding outcome_of
    quiet_done room k =
        rw (eq-eqb (alarm_in table given s b (room - k)) 0 (none_alarm (room - k)))
        (λ i. Done (record { state = none_state i; count = (ap (λ (v : List Record). k + length v) none_records ∙ add-zero k) i }))

-- ---- of a block without words, and of a jump alone
module _ (table : List ℤ) (given : Settings) (s : State) (h : Sound s) where
  pub wordless_records : (room : ℕ) → block_records table given s no_words room ≡ []
  unfolding no_words
  wordless_records = quiet_records 0 0 (replicate slots (pos 0)) 0 false false false false table given s h

  pub wordless_done : (room k : ℕ) → outcome_of table given s no_words room k ≡ Done (record { state = s; count = k })
  unfolding no_words
  wordless_done = quiet_done 0 0 (replicate slots (pos 0)) 0 false false false false table given s h

  module _ (n : ℕ) where
    jump_is : jump_words n ≡ quiet 1 2 (jump_words n).value 2 false false false false
    unfolding no_words g_code m_code slot_of is_end lacks_point put_word jump_words
    jump_is = refl

    pub jump_records : (room : ℕ) → block_records table given s (jump_words n) room ≡ []
    jump_records room =
        ap (λ (b : Block). block_records table given s b room) jump_is ∙ quiet_records 1 2 (jump_words n).value 2 false false false false table given s h room

    pub jump_done : (room k : ℕ) → outcome_of table given s (jump_words n) room k ≡ Done (record { state = s; count = k })
    jump_done room k =
        ap (λ (b : Block). outcome_of table given s b room k) jump_is ∙ quiet_done 1 2 (jump_words n).value 2 false false false false table given s h room k
