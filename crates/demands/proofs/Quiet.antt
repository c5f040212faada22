-- Demand 3 of a row of records with others around it: records before the cycle that are no feeds and stand at its start, and records behind it that are no feeds, change nothing.
-- Assumes nothing.
use mathlib.Core.Path.{◌≡◌, refl, sym, ap, ◌∙◌, subst}
use mathlib.Core.Bool.{cond, ◌&&◌}
use mathlib.Core.List.{List, [], ◌∷◌, ◌++◌}
use lib.Dec.{ltb, eqb}
use lib.IntN.{ℤ, ◌-ℤ◌, nat_abs}
use borrow.Author.Tests.{ne_eqb}
use Rattle.moves.specs.declared.Record.{Record}
use Rattle.axes.specs.Axis.{side, net}
use Rattle.axes.specs.Goes.{inward_of, across_of}
use Rattle.turning.specs.Turned.{feed_kind, pass_lines, each_depth, depths, Depths, FeedsWithin, Turned}
use Rattle.turning.specs.declared.Turning.{Turning}
use Rattle.strokes.proofs.Beside.{NoFeeds}

-- a record that is no feed and stands where the cycle starts
pub record Quiet (c : Turning) (r : Record) : Type 0 where
  pub kind : r.kind ≡ feed_kind → ⊥
  pub inward : inward_of c.facing r ≡ c.infeed.start
  pub across : across_of c.facing r ≡ c.path.start

abbrev pub AllQuiet : Turning → List Record → Type 0
AllQuiet c [] = Unit {0}
AllQuiet c (r ∷ rs) = Quiet c r × AllQuiet c rs

pub quiet_append : (c : Turning) (v w : List Record) → AllQuiet c v → AllQuiet c w → AllQuiet c (v ++ w)
quiet_append c [] w h k = k
quiet_append c (r ∷ v) w h k = (h.0, quiet_append c v w h.1 k)

-- ---- a record that is no feed is no pass
no_pass : (c : Turning) (i p : ℤ) (r : Record) (rs : List Record) → (r.kind ≡ feed_kind → ⊥)
    → pass_lines c i p (r ∷ rs) ≡ pass_lines c (inward_of c.facing r) (across_of c.facing r) rs
unfolding pass_lines
no_pass c i p r rs h = rw (ne_eqb r.kind feed_kind h) refl

-- ---- before the cycle
lines_quiet : (c : Turning) (v w : List Record) → AllQuiet c v
    → pass_lines c c.infeed.start c.path.start (v ++ w) ≡ pass_lines c c.infeed.start c.path.start w
lines_quiet c [] w h = refl
lines_quiet c (r ∷ v) w h =
    no_pass c c.infeed.start c.path.start r (v ++ w) h.0.kind
    ∙ (λ i. pass_lines c (h.0.inward i) (h.0.across i) (v ++ w))
    ∙ lines_quiet c v w h.1

feeds_quiet : (c : Turning) (v w : List Record) → AllQuiet c v
    → FeedsWithin c c.infeed.start c.path.start w → FeedsWithin c c.infeed.start c.path.start (v ++ w)
unfolding FeedsWithin
feeds_quiet c [] w h f = f
feeds_quiet c (r ∷ v) w h f =
    let rest = feeds_quiet c v w h.1 f in
    let at = subst (λ (j : ℤ). FeedsWithin c j c.path.start (v ++ w)) (sym h.0.inward) rest in
    (λ e. absurd (h.0.kind e), subst (λ (q : ℤ). FeedsWithin c (inward_of c.facing r) q (v ++ w)) (sym h.0.across) at)

-- ---- behind the cycle
no_lines : (c : Turning) (i p : ℤ) (w : List Record) → NoFeeds w → pass_lines c i p w ≡ []
unfolding pass_lines
no_lines c i p [] h = refl
no_lines c i p (r ∷ w) h = no_pass c i p r w h.0 ∙ no_lines c (inward_of c.facing r) (across_of c.facing r) w h.1

lines_none : (c : Turning) (i p : ℤ) (v w : List Record) → NoFeeds w → pass_lines c i p (v ++ w) ≡ pass_lines c i p v
unfolding pass_lines
lines_none c i p [] w h = no_lines c i p w h
lines_none c i p (r ∷ v) w h =
    let j = inward_of c.facing r in
    let q = across_of c.facing r in
    let t = eqb r.kind feed_kind && (eqb (nat_abs (j -ℤ i)) 0 && ltb 0 (nat_abs (q -ℤ p))) in
    ap (λ (l : List ℤ). cond t (j ∷ l) l) (lines_none c j q v w h)

all_none : (c : Turning) (i p : ℤ) (w : List Record) → NoFeeds w → FeedsWithin c i p w
unfolding FeedsWithin
all_none c i p [] h = tt
all_none c i p (r ∷ w) h = (λ e. absurd (h.0 e), all_none c (inward_of c.facing r) (across_of c.facing r) w h.1)

feeds_none : (c : Turning) (i p : ℤ) (v w : List Record) → NoFeeds w → FeedsWithin c i p v → FeedsWithin c i p (v ++ w)
unfolding FeedsWithin
feeds_none c i p [] w h f = all_none c i p w h
feeds_none c i p (r ∷ v) w h f = (f.0, feeds_none c (inward_of c.facing r) (across_of c.facing r) v w h f.1)

-- ---- the promise, with quiet records before it and no feeds behind it
pub turned_between : (c : Turning) (v rs w : List Record) → AllQuiet c v → NoFeeds w → Turned c rs → Turned c (v ++ (rs ++ w))
turned_between c v rs w h n t =
    let i = c.infeed.start in
    let p = c.path.start in
    let same : pass_lines c i p (v ++ (rs ++ w)) ≡ pass_lines c i p rs = lines_quiet c v (rs ++ w) h ∙ lines_none c i p rs w n in
    let deep : depths c rs ≡ depths c (v ++ (rs ++ w)) = ap (each_depth (side c.infeed) i) (sym same) in record {
      divided = λ d. subst (Depths (net c.infeed) c.division) deep (t.divided d);
      single = λ e. sym deep ∙ t.single e;
      kept = feeds_quiet c v (rs ++ w) h (feeds_none c i p rs w n t.kept);
    }
