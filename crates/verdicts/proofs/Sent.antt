-- Where a block sends the axes: what its offset and its targets ask for, and what is known of its deed.
-- Assumes nothing.
use mathlib.Core.Path.{◌≡◌, sym, ap, ◌∙◌, subst}
use mathlib.Core.Bool.{Bool, true, false, cond}
use mathlib.Core.List.{List}
use Prim.Native.Nat.{◌<◌, ◌^◌}
use native.Mathlib.Omega.{arith}
use lib.IntN.{ℤ, nat_abs, ◌-ℤ◌}
use mir.Syntax.{w32}
use mir.Val.{SFits, to_z, of_z}
use mir.Facts.{to_z-of_z}
use Rattle.whole.specs.Position.{in_table}
use Rattle.whole.proofs.Integers.{whole, sub_in, abs}
use Rattle.whole.proofs.Positions.{in_range}
use Rattle.block.specs.Worded.{Worded}
use Rattle.block.specs.Slots.{i_slot, k_slot, f_slot, has, code_in, g_in}
use Rattle.state.specs.Modal.{feed_after, settled, block_motion}
use Rattle.targets.specs.Target.{offset_of, target_x, target_z}
use Rattle.state.specs.Known.{Numbers, Sound, Sent}
use Rattle.targets.proofs.Sending.{table_fits, Offset, offset_x, offset_z}
use Rattle.targets.proofs.Ranges.{settled_sound, sent_by, near_x, near_z}
use Rattle.block.specs.declared.Block.{Block}
use Rattle.settings.specs.Known.{Table, InRange}
use Rattle.settings.specs.declared.Settings.{Settings}
use Rattle.state.specs.declared.State.{State}
use Rattle.targets.specs.declared.Pair.{Pair}
use Rattle.scaling.specs.Known.{Small}
use Rattle.deeds.specs.Known.{Centred}
use Rattle.deeds.proofs.Made.{Sends, known as deed-known}
use Rattle.deeds.specs.Known.{Known}
use Rattle.verdicts.specs.Verdicts.{sending_of, deed_in}

-- the D words of a block that was read
pub small : (b : Block) → Worded b → Small b
unfolding code_in g_in
small b w = record { each = w.settings }

-- its I and K words, and where the axes stand
pub centred : (table : List ℤ) (set : Settings) (s : State) (b : Block) → Sound s → Worded b → Centred b (sending_of table set s b)
unfolding sending_of
centred table set s b h w =
    let k = settled_sound s b h in
    record { x = k.x; z = k.z; i = w.paths i_slot (omega arith); k = w.paths k_slot (omega arith) }

-- ---- the targets, of the state t that the block's words have settled
module _ (table : List ℤ) (s : State) (b : Block) (known : Table table) (h : Sound s) (w : Worded b) {t : State} (e : t ≡ settled s b) where
  pub numbers_of : Numbers t
  numbers_of = subst Numbers (sym e) (settled_sound s b h).numbers

  -- where it stands, and its offset, as they are read back from their bits
  pub stand_x : to_z w32 (of_z w32 t.x) ≡ t.x
  stand_x = to_z-of_z (table_fits t.x (in_range t.x (ap (λ (u : State). in_table u.x) e ∙ (settled_sound s b h).x)))

  pub stand_z : to_z w32 (of_z w32 t.z) ≡ t.z
  stand_z = to_z-of_z (table_fits t.z (in_range t.z (ap (λ (u : State). in_table u.z) e ∙ (settled_sound s b h).z)))

  fits_between : (o : ℤ) → Offset o → SFits w32 o
  fits_between o f = omega (whole, f.low, f.high)

  pub offset_read_x : {p : Pair} → p ≡ offset_of table t → to_z w32 (of_z w32 p.x) ≡ (offset_of table t).x
  offset_read_x p = ap (λ (q : Pair). to_z w32 (of_z w32 q.x)) p ∙ to_z-of_z (fits_between _ (offset_x table known t))

  pub offset_read_z : {p : Pair} → p ≡ offset_of table t → to_z w32 (of_z w32 p.z) ≡ (offset_of table t).z
  offset_read_z p = ap (λ (q : Pair). to_z w32 (of_z w32 q.z)) p ∙ to_z-of_z (fits_between _ (offset_z table known t))

  pub sent_x : {o : ℤ} → o ≡ (offset_of table t).x → Sent t b o
  sent_x {o} p =
      let q : o ≡ (offset_of table (settled s b)).x = p ∙ ap (λ (u : State). (offset_of table u).x) e in
      subst (λ (u : State). Sent u b o) (sym e) (subst (Sent (settled s b) b) (sym q) (sent_by table s b known h w).0)

  pub sent_z : {o : ℤ} → o ≡ (offset_of table t).z → Sent t b o
  sent_z {o} p =
      let q : o ≡ (offset_of table (settled s b)).z = p ∙ ap (λ (u : State). (offset_of table u).z) e in
      subst (λ (u : State). Sent u b o) (sym e) (subst (Sent (settled s b) b) (sym q) (sent_by table s b known h w).1)

  -- the sending that the code makes of its parts
  pub sending_made : (set : Settings) {x z ox oz x_target z_target : ℤ} → x ≡ t.x → z ≡ t.z → ox ≡ (offset_of table t).x → oz ≡ (offset_of table t).z
      → x_target ≡ target_x t b ox → z_target ≡ target_z t b oz
      → record { x = x; z = z; x_target = x_target; z_target = z_target; f = t.f; g95 = t.g95; retract = set.retract; empty_cuts = set.empty_cuts } ≡ sending_of table set s b
  unfolding sending_of
  sending_made set ex ez eox eoz ext ezt =
      let xt = ext ∙ ap (target_x t b) eox in
      let zt = ezt ∙ ap (target_z t b) eoz in
      (λ i. record { x = ex i; z = ez i; x_target = xt i; z_target = zt i; f = t.f; g95 = t.g95; retract = set.retract; empty_cuts = set.empty_cuts })
      ∙ (λ i.
      let u = e i in
      let o = offset_of table u in
      record { x = u.x; z = u.z; x_target = target_x u b o.x; z_target = target_z u b o.z; f = u.f; g95 = u.g95; retract = set.retract; empty_cuts = set.empty_cuts })

-- ---- what is known of the sending, and so of the deed
near_fits : (z s : ℤ) → nat_abs (z -ℤ s) < 100_000_000 → in_table s ≡ true → SFits w32 z
near_fits z s n h = let k = in_range s h in omega (whole, k.low, k.high, sub_in z s, abs (z -ℤ s), n)

near_reach : (z s : ℤ) → nat_abs (z -ℤ s) < 100_000_000 → in_table s ≡ true → nat_abs z < 1_000_000_000
near_reach z s n h = let k = in_range s h in omega (whole, k.low, k.high, sub_in z s, abs (z -ℤ s), abs z, n)

-- a word F has at most seven digits
word_fits : (b : Block) → Worded b → code_in b f_slot < 2 ^ 32
unfolding code_in g_in
word_fits b w = omega (arith, w.each f_slot)

pub feed_settled : (s : State) (b : Block) → Worded b → s.f < 2 ^ 32 → (settled s b).f < 2 ^ 32
unfolding settled feed_after
feed_settled s b w h = either (has b f_slot)
  where
    either : (t : Bool) → cond t (code_in b f_slot) s.f < 2 ^ 32
    either true = word_fits b w
    either false = h

module _ (table : List ℤ) (set : Settings) (s : State) (b : Block) (known : Table table) (range : InRange set) (h : Sound s) (w : Worded b) (feed : (settled s b).f < 2 ^ 32) where
  sends : Sends (sending_of table set s b)
  unfolding sending_of
  sends =
      let both = sent_by table s b known h w in
      let t = settled s b in
      let k = settled_sound s b h in
      let o = offset_of table t in
      let nx = near_x t b o.x both.0 in
      let nz = near_z t b o.z both.1 in record {
        x = table_fits t.x (in_range t.x k.x);
        z = table_fits t.z (in_range t.z k.z);
        x_target = near_fits (target_x t b o.x) t.x nx k.x;
        z_target = near_fits (target_z t b o.z) t.z nz k.z;
        f = feed;
        near_x = nx;
        near_z = nz;
        reach_x = near_reach (target_x t b o.x) t.x nx k.x;
        reach_z = near_reach (target_z t b o.z) t.z nz k.z;
        empty = range.empty_cuts;
      }

  pub known_in : Known (deed_in table set s b)
  unfolding deed_in
  known_in = deed-known b (sending_of table set s b) sends (small b w) (centred table set s b h w) (block_motion s.motion b)
