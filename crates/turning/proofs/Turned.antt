-- The records of a turning cycle keep its promise.
-- Assumes nothing.
use mathlib.Core.Path.{◌≡◌, refl, sym, ap, ◌∙◌, subst, subst₃}
use mathlib.Core.Bool.{Bool, true, false, cond, ◌&&◌, ◌||◌, and-false, or-true}
use mathlib.Core.List.{List, [], ◌∷◌, ◌++◌, map}
use Prim.Native.Nat.{ℕ, zero, suc, ◌+◌, ◌-◌, ◌<◌, ◌≤◌}
use native.Mathlib.Nat.{mod-one, div-one}
use native.Mathlib.Omega.{arith}
use lib.Dec.{ltb, eqb}
use lib.IntN.{ℤ, pos, ◌+ℤ◌, ◌-ℤ◌, nat_abs, neg_ℤ}
use lib.ListN.{replicate}
use lib.Signed.{◌≤ℤ◌}
use borrow.Author.Tests.{lt-ltb, ne_eqb}
use Rattle.whole.specs.declared.Side.{Side}
use Rattle.whole.specs.declared.Side.TheVariants.{Minus, Zero, Plus}
use Rattle.whole.specs.Signed.{along}
use Rattle.division.specs.Division.{count, pieces, divided, sum, Evenly}
use Rattle.whole.proofs.Integers.{whole, add_in, sub_in, up_neg, down_neg, abs}
use Rattle.whole.proofs.Sides.{along_add, along_zero}
use Rattle.division.proofs.Divisions.{evenly, pieces_sum, count_above}
use Rattle.moves.specs.declared.Record.{Record}
use Rattle.axes.specs.declared.Axis.{Axis}
use Rattle.axes.specs.Axis.{side, net, allowance_line}
use Rattle.axes.specs.Goes.{rapid_to, feed_to, inward_of, across_of}
use Rattle.axes.proofs.Axes.{line_net, Sided, sided}
use Rattle.turning.specs.declared.Turning.{Turning}
use Rattle.turning.specs.Turning.{pass_count, row, pass_for, pass_on, passes, turning}
use Rattle.turning.specs.Turned.{feed_kind, pass_lines, beyond, each_depth, NotPast, Within, Feeds, FeedsWithin, Turned}

-- ---- one axis
-- an axis with something left has a side
net_sided : (a : Axis) → 0 < net a → Sided (side a)
net_sided a h = sided (a.target -ℤ a.start) (omega arith)

-- what was gone from l to a side is how far the end lies beyond l
pub beyond_along : (s : Side) (l : ℤ) (d : ℕ) → Sided s → beyond s l (l +ℤ along s d) ≡ pos d
beyond_along Minus l d n = omega (whole, add_in l (neg_ℤ (pos d)), sub_in l (l +ℤ neg_ℤ (pos d)), up_neg (pos d), down_neg (pos d))
beyond_along Zero l d n = absurd n
beyond_along Plus l d n = omega (whole, add_in l (pos d), sub_in (l +ℤ pos d) l)

-- of two places on one way the nearer is not past the farther
nearer : (s : Side) (l : ℤ) (m n : ℕ) → m ≤ n → pos 0 ≤ℤ beyond s (l +ℤ along s m) (l +ℤ along s n)
nearer Minus l m n h =
    omega (whole, add_in l (neg_ℤ (pos m)), add_in l (neg_ℤ (pos n)), sub_in (l +ℤ neg_ℤ (pos m)) (l +ℤ neg_ℤ (pos n)), up_neg (pos m), down_neg (pos m), up_neg (pos n), down_neg (pos n))
nearer Zero l m n h = omega whole
nearer Plus l m n h = omega (whole, add_in l (pos m), add_in l (pos n), sub_in (l +ℤ pos n) (l +ℤ pos m))

not_past : (a : Axis) (m : ℕ) → 0 < net a → m ≤ net a → NotPast a (a.start +ℤ along (side a) m)
not_past a m p h =
    subst (λ (z : ℤ). pos 0 ≤ℤ beyond (side a) (a.start +ℤ along (side a) m) z) (line_net a (omega arith)) (nearer (side a) a.start m (net a) h)

not_past_start : (a : Axis) → 0 < net a → NotPast a a.start
not_past_start a h = subst (NotPast a) (along_zero a.start (side a)) (not_past a 0 h (omega arith))

not_past_line : (a : Axis) → 0 < net a → NotPast a (allowance_line a)
not_past_line a h = subst (NotPast a) (line_net a (omega arith)) (not_past a (net a) h (omega arith))

-- ---- reading a record that the cycle makes
pub record Reads (facing : Bool) (r : Record) (k : ℕ) (i a : ℤ) : Type 0 where
  pub kind : r.kind ≡ k
  pub inward : inward_of facing r ≡ i
  pub across : across_of facing r ≡ a

pub rapid_reads : (facing : Bool) (i a : ℤ) → Reads facing (rapid_to facing i a) 1 i a
unfolding rapid_to
rapid_reads true i a = record { kind = refl; inward = refl; across = refl }
rapid_reads false i a = record { kind = refl; inward = refl; across = refl }

pub feed_reads : (facing : Bool) (f : ℕ) (g95 : Bool) (i a : ℤ) → Reads facing (feed_to facing f g95 i a) feed_kind i a
unfolding feed_to
feed_reads true f g95 i a = record { kind = refl; inward = refl; across = refl }
feed_reads false f g95 i a = record { kind = refl; inward = refl; across = refl }

-- ---- the lines of a row of passes
lines_cons : (c : Turning) (i p : ℤ) {r : Record} {k : ℕ} {j q : ℤ} (rs : List Record) → Reads c.facing r k j q
    → pass_lines c i p (r ∷ rs) ≡ cond (eqb k feed_kind && (eqb (nat_abs (j -ℤ i)) 0 && ltb 0 (nat_abs (q -ℤ p)))) (j ∷ pass_lines c j q rs) (pass_lines c j q rs)
unfolding pass_lines
lines_cons c i p rs r =
    λ x. cond (eqb (r.kind x) feed_kind && (eqb (nat_abs (r.inward x -ℤ i)) 0 && ltb 0 (nat_abs (r.across x -ℤ p)))) (r.inward x ∷ pass_lines c (r.inward x) (r.across x) rs) (pass_lines c (r.inward x) (r.across x) rs)

-- an end of the path that is not its start
way : (a : Axis) → 0 < net a → 0 < nat_abs (allowance_line a -ℤ a.start)
way a h = subst (λ (z : ℤ). 0 < nat_abs (z -ℤ a.start)) (line_net a (omega arith)) (go (side a) (net_sided a h))
  where
    go : (s : Side) → Sided s → 0 < nat_abs ((a.start +ℤ along s (net a)) -ℤ a.start)
    go Minus t = omega (whole, abs ((a.start +ℤ neg_ℤ (pos (net a))) -ℤ a.start), sub_in (a.start +ℤ neg_ℤ (pos (net a))) a.start, add_in a.start (neg_ℤ (pos (net a))), up_neg (pos (net a)), down_neg (pos (net a)))
    go Zero t = absurd t
    go Plus t = omega (whole, abs ((a.start +ℤ pos (net a)) -ℤ a.start), sub_in (a.start +ℤ pos (net a)) a.start, add_in a.start (pos (net a)))

still : (z : ℤ) → nat_abs (z -ℤ z) ≡ 0
still z = omega (whole, abs (z -ℤ z), sub_in z z)

-- a pass is read as one line, wherever it is begun: the feed along the path is one, the feed back out is none
pass_line : (c : Turning) (i l : ℤ) (rs : List Record) → 0 < net c.path
    → pass_lines c i c.path.start (pass_on (pass_for c) l ++ rs) ≡ l ∷ pass_lines c c.infeed.start c.path.start rs
unfolding pass_on
pass_line c i l rs h =
    let o = c.path.start in
    let e = allowance_line c.path in
    let s = c.infeed.start in
    let last : List Record = rapid_to c.facing s o ∷ rs in
    let out : List Record = feed_to c.facing c.f c.g95 s e ∷ last in
    lines_cons c i o (feed_to c.facing c.f c.g95 l e ∷ out) (rapid_reads c.facing l o)
    ∙ lines_cons c l o out (feed_reads c.facing c.f c.g95 l e)
    ∙ ap (λ (n : ℕ). cond (eqb n 0 && ltb 0 (nat_abs (e -ℤ o))) (l ∷ pass_lines c l e out) (pass_lines c l e out)) (still l)
    ∙ ap (λ (t : Bool). cond t (l ∷ pass_lines c l e out) (pass_lines c l e out)) (lt-ltb 0 (nat_abs (e -ℤ o)) (way c.path h))
    ∙ ap (λ (ls : List ℤ). l ∷ ls)
    (lines_cons c l e last (feed_reads c.facing c.f c.g95 s e)
    ∙ ap (λ (n : ℕ). cond (eqb (nat_abs (s -ℤ l)) 0 && ltb 0 n) (s ∷ pass_lines c s e last) (pass_lines c s e last)) (still e)
    ∙ ap (λ (t : Bool). cond t (s ∷ pass_lines c s e last) (pass_lines c s e last)) (and-false (eqb (nat_abs (s -ℤ l)) 0))
    ∙ lines_cons c s e rs (rapid_reads c.facing s o))

-- the depths read off the passes of a row are the row
row_read : (c : Turning) → 0 < net c.infeed → 0 < net c.path → (l : ℤ) (ds : List ℕ)
    → each_depth (side c.infeed) l (pass_lines c c.infeed.start c.path.start (passes (pass_on (pass_for c)) (side c.infeed) l ds)) ≡ map pos ds
unfolding each_depth pass_lines passes
row_read c h p l [] = refl
row_read c h p l (d ∷ ds) =
    let k = l +ℤ along (side c.infeed) d in
    ap (each_depth (side c.infeed) l) (pass_line c c.infeed.start k (passes (pass_on (pass_for c)) (side c.infeed) k ds) p)
    ∙ λ j. beyond_along (side c.infeed) l d (net_sided c.infeed h) j ∷ row_read c h p k ds j

-- ---- no feed past the allowance
feeds_cons : (c : Turning) (i p : ℤ) {r : Record} {k : ℕ} {j q : ℤ} (rs : List Record) → Reads c.facing r k j q
    → (k ≡ feed_kind → Feeds c i p j q) → FeedsWithin c j q rs → FeedsWithin c i p (r ∷ rs)
unfolding FeedsWithin
feeds_cons c i p rs r g w =
    subst₃ (λ (k : ℕ) (j q : ℤ). (k ≡ feed_kind → Feeds c i p j q) × FeedsWithin c j q rs) (sym r.kind) (sym r.inward) (sym r.across) (g, w)

rapid_on : (c : Turning) (i p j q : ℤ) (rs : List Record) → FeedsWithin c j q rs → FeedsWithin c i p (rapid_to c.facing j q ∷ rs)
rapid_on c i p j q rs w = feeds_cons c i p rs (rapid_reads c.facing j q) (λ e. absurd (omega arith)) w

feed_on : (c : Turning) (i p j q : ℤ) (rs : List Record) → Feeds c i p j q → FeedsWithin c j q rs
    → FeedsWithin c i p (feed_to c.facing c.f c.g95 j q ∷ rs)
feed_on c i p j q rs g w = feeds_cons c i p rs (feed_reads c.facing c.f c.g95 j q) (λ _. g) w

-- a pass on a line that is not past the allowance, wherever it is begun
pass_kept : (c : Turning) (i p l : ℤ) (rs : List Record) → 0 < net c.infeed → 0 < net c.path → NotPast c.infeed l
    → FeedsWithin c c.infeed.start c.path.start rs → FeedsWithin c i p (pass_on (pass_for c) l ++ rs)
unfolding pass_on
pass_kept c i p l rs hi hp on w =
    let s = c.infeed.start in
    let o = c.path.start in
    let e = allowance_line c.path in
    let from : NotPast c.infeed s = not_past_start c.infeed hi in
    let home : NotPast c.path o = not_past_start c.path hp in
    let end : NotPast c.path e = not_past_line c.path hp in
    let back : List Record = rapid_to c.facing s o ∷ rs in
    let out : List Record = feed_to c.facing c.f c.g95 s e ∷ back in
    let there : Within c l e = record { infeed = on; path = end } in
    rapid_on c i p l o (feed_to c.facing c.f c.g95 l e ∷ out)
    (feed_on c l o l e out (record { from = record { infeed = on; path = home }; to = there; straight = ap (λ (n : ℕ). eqb n 0 || eqb (nat_abs (e -ℤ o)) 0) (still l) })
    (feed_on c l e s e back (record { from = there; to = record { infeed = from; path = end }; straight = ap (λ (n : ℕ). eqb (nat_abs (s -ℤ l)) 0 || eqb n 0) (still e) ∙ or-true (eqb (nat_abs (s -ℤ l)) 0) }) (rapid_on c s e s o rs w)))

row_kept : (c : Turning) → 0 < net c.infeed → 0 < net c.path → (m : ℕ) (ds : List ℕ) → m + sum ds ≤ net c.infeed
    → FeedsWithin c c.infeed.start c.path.start (passes (pass_on (pass_for c)) (side c.infeed) (c.infeed.start +ℤ along (side c.infeed) m) ds)
unfolding FeedsWithin passes
row_kept c h p m [] g = tt
row_kept c h p m (d ∷ ds) g =
    let a = c.infeed in
    let s = a.start in
    let l = s +ℤ along (side a) (m + d) in
    subst (λ (z : ℤ). FeedsWithin c s c.path.start (pass_on (pass_for c) z ++ passes (pass_on (pass_for c)) (side a) z ds)) (sym (along_add s (side a) m d))
    (pass_kept c s c.path.start l (passes (pass_on (pass_for c)) (side a) l ds) h p (not_past a (m + d) h (omega arith)) (row_kept c h p (m + d) ds (omega arith)))

-- ---- without a division
-- one piece of a length is all of it
one_piece : (e : ℕ) → pieces e 1 ≡ e ∷ []
unfolding pieces
one_piece e = λ x. replicate (mod-one e x) (div-one e x + 1) ++ replicate (1 - mod-one e x) (div-one e x)

one_pass : (e d : ℕ) → d ≡ 0 → pieces e (pass_count e d) ≡ e ∷ []
unfolding pass_count
one_pass e d z = ap (λ (n : ℕ). pieces e (cond (eqb n 0) 1 (count e n))) z ∙ one_piece e

-- ---- the promise
pub some_passes : (e d : ℕ) → 0 < e → 0 < pass_count e d
unfolding pass_count
some_passes e zero h = omega arith
some_passes e (suc d) h = rw (ne_eqb (suc d) 0 (λ z. absurd (omega arith))) (count_above e (suc d) h (omega arith))

pub turned : (c : Turning) → 0 < net c.infeed → 0 < net c.path → Turned c (turning c)
unfolding turning pass_count divided
turned c h p = record {
  divided = λ d. record {
    row = row c;
    is = row_read c h p c.infeed.start (row c);
    evenly = subst (λ (t : Bool). Evenly e c.division (pieces e (cond t 1 (count e c.division)))) (sym (ne_eqb c.division 0 (λ z. absurd (omega arith)))) (evenly e c.division h d);
  };
  single = λ z. row_read c h p c.infeed.start (row c) ∙ ap (map pos) (one_pass e c.division z);
  kept = subst (λ (l : ℤ). FeedsWithin c c.infeed.start c.path.start (passes (pass_on (pass_for c)) (side c.infeed) l (row c))) (along_zero c.infeed.start (side c.infeed))
      (row_kept c h p 0 (row c) (omega (arith, pieces_sum e (pass_count e c.division) (some_passes e c.division h))));
}
  where
    e : ℕ
    e = net c.infeed
