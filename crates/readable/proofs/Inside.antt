-- The records of a deed are right in their row: they stand in the table's range, as alarm 18 has asked of every move and the axes do between two blocks, and an arc's centre within three times it.
-- Assumes nothing.
use mathlib.Core.Path.{◌≡◌, refl, sym, ap, ◌∙◌, subst}
use mathlib.Core.Bool.{Bool, true, false, cond, not, ◌&&◌, ◌||◌}
use mathlib.Core.List.{List, [], ◌∷◌, ◌++◌}
use Prim.Native.Nat.{ℕ}
use lib.Dec.{T}
use lib.IntN.{ℤ, pos, ◌*ℤ◌}
use lib.Signed.{le_z}
use Rattle.whole.specs.Position.{table_least, table_greatest, in_table}
use Rattle.whole.proofs.Integers.{whole, lt_false}
use Rattle.whole.proofs.Positions.{in_range, in_table_lem}
use Rattle.moves.specs.Kinds.{is_arc, is_centre, in_turn}
use Rattle.moves.specs.declared.Record.{Record}
use Rattle.lawful.specs.Right.{is_known, flags_right, in_three_tables, place_right, is_right, right_from, right_row}
use Rattle.codes.specs.declared.Motion.TheVariants as motion
use Rattle.acts.specs.declared.Kept.{Kept}
use Rattle.acts.specs.declared.Kept.TheVariants as kept
use Rattle.block.specs.declared.Block.{Block}
use Rattle.settings.specs.Known.{SpanIn, InRange}
use Rattle.settings.specs.Limits.{outside, outside_span}
use Rattle.settings.specs.declared.Settings.{Settings}
use Rattle.settings.specs.declared.Span.{Span}
use Rattle.axes.specs.Limits.{any_outside}
use Rattle.axes.proofs.Reaching.{inside}
use Rattle.axes.proofs.Every.{Every}
use Rattle.arcs.proofs.Ranges.{centre_in_x, centre_in_z}
use Rattle.straying.proofs.Limits.{end_in_table}
use Rattle.cycles.specs.Cycle.{records}
use Rattle.deeds.specs.Deed.{has_path, has_centre, straight_if, start_spot, end_spot, centre_words, round_of, round_if, move_of, deed_of}
use Rattle.deeds.specs.Known.{Centred, InThrice, Right}
use Rattle.deeds.specs.declared.Deed.{Deed}
use Rattle.deeds.specs.declared.Deed.TheVariants as deed
use Rattle.scaling.specs.declared.Sending.{Sending}
use Rattle.deeds.proofs.Made.{Starts}
use Rattle.asking.specs.Judge.{asks_of, doing}
use Rattle.demands.proofs.DeedKinds.{Told, cycle_each}
use Rattle.readable.proofs.Usual.{Usual, usual_kinds, arc_right}

abbrev pub Inside : Record → Type 0
Inside r = (in_table r.x ≡ true) × (in_table r.z ≡ true)

-- ---- a record of a run: of a kind from 1 to 7, and in the table's range
abbrev pub Sane : Record → Type 0
Sane r = Usual r × Inside r

pub both_sane : (rs : List Record) → Every Usual rs → Every Inside rs → Every Sane rs
both_sane [] u i = tt
both_sane (r ∷ rs) u i = ((u.0, i.0), both_sane rs u.1 i.1)

-- ---- a row of such records is right
right_by : (arc centre known px pz : Bool) → arc ≡ false → centre ≡ false → known ≡ true → px ≡ true → pz ≡ true → (cond false centre (not centre) && (known && (px && pz))) ≡ true
right_by arc centre known px pz a c k x z = (λ i. not (c i) && (k i && (x i && z i)))

placed_right : (kind : ℕ) (v : ℤ) → is_centre kind ≡ false → in_table v ≡ true → place_right kind v ≡ true
unfolding place_right
placed_right kind v c h = rw c h

sane_right : (r : Record) → Sane r → (in_turn false r.kind && is_right r) ≡ true
unfolding is_right
sane_right r h =
    let u = h.0 in
    right_by (is_arc r.kind) (is_centre r.kind) (is_known r.kind && flags_right r.kind r.flags) (place_right r.kind r.x) (place_right r.kind r.z) u.0 u.1 u.2
    (placed_right r.kind r.x u.1 h.1.0) (placed_right r.kind r.z u.1 h.1.1)

pub row_right : (rs : List Record) → Every Sane rs → right_row rs ≡ true
unfolding right_from
row_right [] h = refl
row_right (r ∷ rs) h =
    (λ i. sane_right r h.0 i && right_from (h.0.0.0 i) rs) ∙ row_right rs h.1

-- ---- rows that are right, joined
both_of : (a b : Bool) → (a && b) ≡ true → (a ≡ true) × (b ≡ true)
both_of true b e = (refl, e)
both_of false b e = absurd (subst T (sym e) tt)

right_from_lem : (due : Bool) (v w : List Record) → right_from due v ≡ true → right_row w ≡ true → right_from due (v ++ w) ≡ true
unfolding right_from
right_from_lem true [] w h k = absurd (subst T (sym h) tt)
right_from_lem false [] w h k = k
right_from_lem due (q ∷ v) w h k =
    let n = both_of (in_turn due q.kind && is_right q) (right_from (is_arc q.kind) v) h in
    λ i. n.0 i && right_from_lem (is_arc q.kind) v w n.1 k i

pub joined_right : (v w : List Record) → right_row v ≡ true → right_row w ≡ true → right_row (v ++ w) ≡ true
joined_right v w h k = right_from_lem false v w h k

-- ---- an arc's centre lies within three times the table's range
abbrev pub Centres : Deed → Type 0
Centres deed.Nothing = Unit {0}
Centres deed.Nowhere = Unit {0}
Centres (deed.Dwell r) = Unit {0}
Centres (deed.Straight m) = Unit {0}
Centres (deed.Round r) = InThrice r.arc.centre.x × InThrice r.arc.centre.z
Centres (deed.Cycle c) = Unit {0}

holds : (a b : Bool) → T a → T b → (a && b) ≡ true
holds true true h k = refl
holds true false h k = absurd k
holds false b h k = absurd h

in_three : (z : ℤ) → InThrice z → in_three_tables z ≡ true
in_three z h = holds (le_z (pos 3 *ℤ table_least) z) (le_z z (pos 3 *ℤ table_greatest)) h.0.le h.1.le

neither : (p q : Bool) → p || q ≡ false → (p ≡ false) × (q ≡ false)
neither true q e = absurd (subst T e tt)
neither false q e = (refl, e)

module _ (set : Settings) (r : InRange set) where
  in_span : (l : Span) → SpanIn l → (v : ℤ) → outside_span l v ≡ false → in_table v ≡ true
  in_span l i v e =
      let n = inside l v e in
      let low = in_range l.lowest i.lowest in
      let high = in_range l.highest i.highest in
      in_table_lem v (record { low = omega (whole, lt_false v l.lowest n.low); high = omega (whole, lt_false l.highest v n.high) })

  not_outside : (q : Record) → outside set.limits q.x q.z ≡ false → Inside q
  unfolding outside
  not_outside q e =
      let n = neither (outside_span set.limits.x q.x) (outside_span set.limits.z q.z) e in
      (in_span set.limits.x r.x q.x n.0, in_span set.limits.z r.z q.z n.1)

  none_outside : (rs : List Record) → any_outside set.limits rs ≡ false → Every Inside rs
  unfolding any_outside
  none_outside [] e = tt
  none_outside (q ∷ rs) e =
      let n = neither (outside set.limits q.x q.z) (any_outside set.limits rs) e in
      (not_outside q n.0, none_outside rs n.1)

  -- the records of a deed that 19 and 18 have passed, from where the axes stand, are right in their row
  pub deed_right : (d : Deed) (s : Sending) → Right d → Starts d s → Told Usual d → Centres d → in_table s.x ≡ true → in_table s.z ≡ true → (asks_of d set.limits).outside ≡ false → right_row (doing d) ≡ true
  unfolding asks_of doing right_from
  deed_right deed.Nothing s e h u c x z o = refl
  deed_right deed.Nowhere s e h u c x z o = refl
  deed_right (deed.Dwell q) s e h u c x z o = row_right (q ∷ []) ((u, (ap in_table h.0 ∙ x, ap in_table h.1 ∙ z)), tt)
  deed_right (deed.Straight m) s e h u c x z o = row_right (m.goes ∷ []) ((u, not_outside m.goes o), tt)
  deed_right (deed.Round q) s e h u c x z o =
      let end = end_in_table set.limits q.arc r.x r.z o in
      arc_right q.arc q.f end.0 end.1 (in_three q.arc.centre.x c.0) (in_three q.arc.centre.z c.1) q.g95
  deed_right (deed.Cycle k) s e h u c x z o = row_right (records k) (both_sane (records k) (cycle_each Usual usual_kinds k e) (none_outside (records k) (rw e at o)))

-- ---- the centre of a block's arc
module _ (b : Block) (s : Sending) (c : Centred b s) where
  either : (t : Bool) (d e : Deed) → Centres d → Centres e → Centres (cond t d e)
  either true d e p q = p
  either false d e p q = q

  straight_centres : (g00 : Bool) (least : ℕ) (q : Record) → Centres (straight_if b g00 least q)
  unfolding straight_if
  straight_centres g00 least q = either (has_centre b) deed.Nowhere _ tt (either (has_path b) _ deed.Nothing tt tt)

  round_centres : (clockwise : Bool) → Centres (round_if clockwise b s)
  unfolding round_if round_of
  round_centres clockwise =
      either (has_path b) _ deed.Nothing
      (centre_in_x clockwise (start_spot s) (end_spot s) (centre_words b) c, centre_in_z clockwise (start_spot s) (end_spot s) (centre_words b) c) tt

  pub deed_centres : (k : Kept) → Centres (deed_of k b s)
  unfolding deed_of move_of
  deed_centres (kept.Of motion.Rapid) = straight_centres true _ _
  deed_centres (kept.Of motion.Feed) = straight_centres false _ _
  deed_centres (kept.Of motion.Clockwise) = round_centres true
  deed_centres (kept.Of motion.Counterclockwise) = round_centres false
  deed_centres (kept.Of motion.Thread) = straight_centres false _ _
  deed_centres (kept.Of motion.Dwell) = tt
  deed_centres (kept.Of motion.Turning) = tt
  deed_centres (kept.Of motion.Threading) = tt
  deed_centres (kept.Of motion.Grooving) = tt
  deed_centres (kept.Of motion.ChipBreaking) = tt
  deed_centres (kept.Of motion.Redrawing) = tt
  deed_centres kept.Nothing = either (has_path b || has_centre b) deed.Nowhere deed.Nothing tt tt
