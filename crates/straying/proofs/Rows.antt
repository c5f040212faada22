-- Rows of records that keep the promise of arcs: rows without arcs, the two records of an arc that passed, and rows joined.
-- Assumes nothing.
use mathlib.Core.Path.{◌≡◌, refl, sym, ap, ◌∙◌, subst, subst₂}
use mathlib.Core.Bool.{Bool, true, false, cond, not, ◌&&◌, ◌||◌, true≢false}
use mathlib.Core.List.{List, [], ◌∷◌, ◌++◌}
use Prim.Native.Nat.{ℕ}
use native.Mathlib.Omega.{arith}
use borrow.Author.Tests.{eqb-true}
use lib.Dec.{eqb}
use lib.IntN.{ℤ}
use lib.ListN.{length}
use Rattle.settings.specs.declared.Limits.{Limits}
use Rattle.moves.specs.declared.Record.{Record}
use Rattle.moves.specs.Kinds.{clockwise_kind, counterclockwise_kind, centre_kind, is_arc, is_centre, in_turn}
use Rattle.moves.specs.Last.{after, last_of}
use Rattle.moves.proofs.Last.{Moves, after_move}
use Rattle.axes.proofs.Every.{Every}
use Rattle.arcs.specs.declared.Arc.{Arc}
use Rattle.arcs.specs.Arcs.{end_record, centre_record, arc_records}
use Rattle.straying.specs.Points.{Passed}
use Rattle.arcs.specs.Told.{told_by, paired}
use Rattle.arcs.proofs.Told.{end_is_arc, told_back}
use Rattle.straying.specs.Rows.{KeepsTo, ArcsKeep}
use Rattle.straying.proofs.Stays.{stays}

-- ---- kinds
-- a record that is no arc and no centre
abbrev pub Plain : Record → Type 0
Plain r = (is_arc r.kind ≡ false) × (is_centre r.kind ≡ false)

by_kind : (b : Bool) (k n m : ℕ) → (b ≡ true → k ≡ n) → (eqb k m ≡ true → k ≡ m) → (b || eqb k m) ≡ true → (P : ℕ → Type 0) → P n → P m → P k
by_kind b k n m f g h P p q = go b refl h
  where
    go : (t : Bool) → b ≡ t → (t || eqb k m) ≡ true → P k
    go true e h = subst P (sym (f e)) p
    go false e h = subst P (sym (g h)) q

-- an arc is no centre, and a centre no arc
arc_moves : (k : ℕ) → is_arc k ≡ true → is_centre k ≡ false
arc_moves k h = by_kind (eqb k clockwise_kind) k clockwise_kind counterclockwise_kind (eqb-true k clockwise_kind) (eqb-true k counterclockwise_kind) h (λ k. is_centre k ≡ false) refl refl

centre_no_arc : (k : ℕ) → is_centre k ≡ true → is_arc k ≡ false
centre_no_arc k h = subst (λ (k : ℕ). is_arc k ≡ false) (sym (eqb-true k centre_kind h)) refl

-- ---- a row that keeps the promise, record by record
pub data Kept (l : Limits) : ℤ → ℤ → List Record → Type 0 where
  none : {x z : ℤ} → Kept l x z []
  other : {x z : ℤ} (r : Record) (rs : List Record) → Plain r → Kept l r.x r.z rs → Kept l x z (r ∷ rs)
  round : {x z : ℤ} (goes around : Record) (rs : List Record) → is_arc goes.kind ≡ true → is_centre around.kind ≡ true → KeepsTo l (told_by x z goes around)
      → Kept l goes.x goes.z rs → Kept l x z (goes ∷ (around ∷ rs))

-- ---- rows without arcs
pub plain_kept : {l : Limits} {x z : ℤ} (rs : List Record) → Every Plain rs → Kept l x z rs
plain_kept [] h = none
plain_kept (r ∷ rs) h = other r rs h.0 (plain_kept rs h.1)

-- ---- the two records of an arc
pub keeps_to : (l : Limits) (a : Arc) → Passed l a → KeepsTo l a
keeps_to l a p = record { passed = p; points = stays l a p }

pub arc_kept : {l : Limits} {x z : ℤ} (a : Arc) (f : ℕ) (g95 : Bool) → x ≡ a.start.x → z ≡ a.start.z → Passed l a → Kept l x z (arc_records a f g95)
unfolding centre_record
arc_kept {l} {x} {z} a f g95 hx hz p =
    round (end_record a f g95) (centre_record a) [] (end_is_arc a f g95) refl (subst (KeepsTo l) (sym (told_back a f g95) ∙ λ i. told_by (sym hx i) (sym hz i) (end_record a f g95) (centre_record a)) (keeps_to l a p)) none

-- ---- rows joined
abbrev on_x : Record → ℤ
on_x r = r.x

abbrev on_z : Record → ℤ
on_z r = r.z

module _ (f : Record → ℤ) where
  -- behind an arc the axes stand at its end
  stood : (y : ℤ) (goes around : Record) → is_arc goes.kind ≡ true → is_centre around.kind ≡ true → after f (after f y goes) around ≡ f goes
  stood y goes around h e = ap (λ (t : Bool). cond t (after f y goes) (f around)) e ∙ after_move f goes y (arc_moves goes.kind h)

pub joined_kept : {l : Limits} {x z : ℤ} {v : List Record} (w : List Record) → Kept l x z v → Kept l (last_of (λ r. r.x) x v) (last_of (λ r. r.z) z v) w → Kept l x z (v ++ w)
joined_kept w none k = k
joined_kept {l} {x} {z} w (other r v h j) k =
    other r (v ++ w) h (joined_kept w j (subst₂ (λ (x z : ℤ). Kept l (last_of on_x x v) (last_of on_z z v) w) (after_move on_x r x h.1) (after_move on_z r z h.1) k))
joined_kept {l} {x} {z} w (round g c v h e p j) k =
    round g c (v ++ w) h e p (joined_kept w j (subst₂ (λ (x z : ℤ). Kept l (last_of on_x x v) (last_of on_z z v) w) (stood on_x x g c h e) (stood on_z z g c h e) k))

-- ---- THE PROMISE of such a row
kept_pairs : {l : Limits} {x z : ℤ} {rs : List Record} → Kept l x z rs → paired false rs ≡ true
unfolding paired
kept_pairs none = refl
kept_pairs (other r rs h j) = (λ i. not (h.1 i) && paired (h.0 i) rs) ∙ kept_pairs j
kept_pairs (round g c rs h e p j) =
    (λ i. not (arc_moves g.kind h i) && (in_turn (h i) c.kind && paired (is_arc c.kind) rs)) ∙ (λ i. e i && paired (centre_no_arc c.kind e i) rs) ∙ kept_pairs j

-- the first record of a row that has one, and what is behind it
abbrev head_of : Record → List Record → Record
head_of d [] = d
head_of d (r ∷ rs) = r

abbrev tail_of : List Record → List Record
tail_of [] = []
tail_of (r ∷ rs) = rs

no_centre : (k : ℕ) → is_arc k ≡ true → is_centre k ≡ true → ⊥
no_centre k h e = true≢false (sym e ∙ arc_moves k h)

abbrev At : Limits → ℤ → ℤ → List Record → Record → Record → Type 0
At l x z before goes around = KeepsTo l (told_by (last_of on_x x before) (last_of on_z z before) goes around)

each_kept : {l : Limits} {x z : ℤ} {rs : List Record} (before : List Record) (goes around : Record) (behind : List Record) → Kept l x z rs → rs ≡ before ++ (goes ∷ (around ∷ behind))
    → is_arc goes.kind ≡ true → At l x z before goes around
each_kept [] goes around behind none e t = absurd (omega (arith, ap (λ (rs : List Record). length rs) e))
each_kept (b ∷ before) goes around behind none e t = absurd (omega (arith, ap (λ (rs : List Record). length rs) e))
each_kept [] goes around behind (other r rs h j) e t = absurd (true≢false (sym t ∙ ap (λ (rs : List Record). is_arc (head_of r rs).kind) (sym e) ∙ h.0))
each_kept {l} {x} {z} (b ∷ before) goes around behind (other r rs h j) e t =
    let same : r ≡ b = ap (head_of r) e in
    let moves : Moves b = subst Moves same h.1 in
    subst₂ (λ (x z : ℤ). At l x z before goes around)
    (ap on_x same ∙ sym (after_move on_x b x moves)) (ap on_z same ∙ sym (after_move on_z b z moves))
    (each_kept before goes around behind j (ap tail_of e) t)
each_kept {l} {x} {z} [] goes around behind (round g c rs h k p j) e t =
    subst₂ (λ (g c : Record). KeepsTo l (told_by x z g c)) (ap (head_of g) e) (ap (λ (v : List Record). head_of c (tail_of v)) e) p
each_kept (b ∷ []) goes around behind (round g c rs h k p j) e t =
    absurd (no_centre goes.kind t (ap (λ (v : List Record). is_centre (head_of c (tail_of v)).kind) (sym e) ∙ k))
each_kept {l} {x} {z} (b ∷ (d ∷ before)) goes around behind (round g c rs h k p j) e t =
    let same : g ≡ b = ap (head_of g) e in
    let next : c ≡ d = ap (λ (v : List Record). head_of c (tail_of v)) e in
    let arc : is_arc b.kind ≡ true = subst (λ (r : Record). is_arc r.kind ≡ true) same h in
    let centre : is_centre d.kind ≡ true = subst (λ (r : Record). is_centre r.kind ≡ true) next k in
    subst₂ (λ (x z : ℤ). At l x z before goes around)
    (ap on_x same ∙ sym (stood on_x x b d arc centre)) (ap on_z same ∙ sym (stood on_z z b d arc centre))
    (each_kept before goes around behind j (ap (λ (v : List Record). tail_of (tail_of v)) e) t)

pub arcs_keep : {l : Limits} {x z : ℤ} {rs : List Record} → Kept l x z rs → ArcsKeep l x z rs
arcs_keep {l} k = record {
  pairs = kept_pairs k;
  each = λ a m. subst (KeepsTo l) (sym m.is) (each_kept m.before m.goes m.around m.behind k m.are m.arc);
}
