-- How many records a thread has, that their numbers fit, and that the last of them goes back to the start.
-- Assumes nothing.
use mathlib.Core.Path.{◌≡◌, refl, sym, ap, ◌∙◌, subst}
use mathlib.Core.Bool.{Bool, true, false, cond}
use mathlib.Core.List.{List, [], ◌∷◌, map}
use Prim.Native.Nat.{ℕ, ◌+◌, ◌*◌, ◌<◌, ◌≤◌, ◌^◌}
use native.Mathlib.Omega.{arith}
use lib.IntN.{ℤ, pos, nat_abs, neg_ℤ, ◌+ℤ◌}
use lib.ListN.{length, length-replicate}
use mir.Syntax.{w32}
use mir.Val.{SFits}
use Rattle.whole.specs.declared.Side.{Side}
use Rattle.whole.specs.declared.Side.TheVariants.{Minus, Zero, Plus}
use Rattle.whole.specs.Signed.{along}
use Rattle.whole.proofs.Integers.{whole, add_in, up_neg, down_neg, abs}
use Rattle.whole.proofs.Sides.{between}
use Rattle.moves.specs.declared.Record.{Record}
use Rattle.moves.specs.Form.{AllFitting}
use Rattle.moves.specs.Last.{last_of}
use Rattle.axes.specs.declared.Axis.{Axis}
use Rattle.axes.specs.Axis.{side}
use Rattle.axes.specs.Goes.{rapid_to}
use Rattle.axes.proofs.Fitting.{rapid_fitting, thread_fitting}
use Rattle.axes.proofs.Moving.{after_rapid}
use Rattle.depths.specs.Depths.{greatest_d, depths}
use Rattle.depths.proofs.Kept.{row_length, row_rises, few_cuts}
use Rattle.threading.specs.declared.Thread.{Thread}
use Rattle.threading.specs.declared.Pass.{Pass}
use Rattle.threading.specs.Threading.{whole_depth, bottom, line_at, wrong, pass_for, pass_on, passes, repeated, pass_depths, threading, record_count, Told}
use Rattle.threading.proofs.Asked.{right}
use Rattle.threading.proofs.Lines.{wide_mono, wide_small, line_from_lem, bottom_from}
use Rattle.threading.proofs.Reach.{Each, each_below}

-- ---- how many
passes_length : (p : Pass) (f : ℕ → ℤ) (xs : List ℕ) → length (passes p (map f xs)) ≡ 4 * length xs
unfolding passes pass_on
passes_length p f [] = refl
passes_length p f (x ∷ xs) = omega (arith, passes_length p f xs)

repeated_length : (x : ℕ) (ys : List ℕ) (n : ℕ) → length (repeated x ys n) ≡ length ys + n
unfolding repeated
repeated_length x [] n = omega (arith, length-replicate n x)
repeated_length x (y ∷ ys) n = omega (arith, repeated_length y ys n)

pub threading_length : (t : Thread) → wrong t ≡ false → length (threading t) ≡ record_count t
unfolding threading record_count
threading_length t w =
    passes_length (pass_for t) (line_at t) (pass_depths t)
    ∙ omega (arith, repeated_length 0 (depths t.rule t.d3 t.d6) t.empty, row_length t.rule t.d3 t.d6 (right t w).proper)

-- ---- and how many they can be
pub few_threading : (t : Thread) → Told t → wrong t ≡ false → record_count t < 4 * 2 ^ 32
unfolding record_count
few_threading t told w = omega (arith, few_cuts t.rule t.d3 t.d6 (right t w).proper told.d3 told.d6, told.empty)

-- ---- their numbers
-- a place a whole depth beyond a target fits
beyond : (z : ℤ) (s : Side) (w : ℕ) → nat_abs z < 1_000_000_000 → w ≤ 2 * greatest_d → SFits w32 (z +ℤ along s w)
beyond z Minus w l h = omega (whole, abs z, l, add_in z (neg_ℤ (pos w)), up_neg (pos w), down_neg (pos w))
beyond z Zero w l h = omega (whole, abs z, l, add_in z (pos 0))
beyond z Plus w l h = omega (whole, abs z, l, add_in z (pos w))

pub bottom_fits : (t : Thread) → t.d6 ≤ greatest_d → nat_abs t.infeed.target < 1_000_000_000 → SFits w32 (bottom t)
unfolding bottom
bottom_fits t h l = go t.nominal
  where
    go : (b : Bool) → SFits w32 (cond b (t.infeed.target +ℤ along (side t.infeed) (whole_depth t)) t.infeed.target)
    go true = beyond t.infeed.target (side t.infeed) (whole_depth t) l (omega (arith, wide_small t.facing t.d6))
    go false = omega (whole, abs t.infeed.target, l)

-- an axis whose places fit, as those of every axis of the code do by their types
pub record Stands (a : Axis) : Type 0 where
  pub start : SFits w32 a.start
  pub target : SFits w32 a.target

all_fitting : (p : Pass) (f : ℕ → ℤ) → SFits w32 p.from → SFits w32 p.home → SFits w32 p.end → p.pitch < 2 ^ 32
    → (xs : List ℕ) → Each (λ x. SFits w32 (f x)) xs → AllFitting (passes p (map f xs))
unfolding passes pass_on
all_fitting p f s h e v [] o = tt
all_fitting p f s h e v (x ∷ xs) o =
    (rapid_fitting p.facing o.0 h, (thread_fitting p.facing p.pitch v o.0 e, (rapid_fitting p.facing s e, (rapid_fitting p.facing s h, all_fitting p f s h e v xs o.1))))

pub threading_fitting : (t : Thread) → Stands t.infeed → Stands t.path → t.pitch < 2 ^ 32 → Told t → wrong t ≡ false → AllFitting (threading t)
unfolding threading
threading_fitting t i p v told w =
    let r = right t w in
    all_fitting (pass_for t) (line_at t) i.start p.start p.target v (pass_depths t)
    (each_below (λ x. SFits w32 (line_at t x)) t.d6
    (λ x h. subst (SFits w32) (sym (line_from_lem t r.crest x))
    (between (side t.infeed) i.start (subst (SFits w32) (bottom_from t r.crest) told.bottom) (omega (arith, wide_mono t.facing x t.d6 h))))
    0 (depths t.rule t.d3 t.d6) t.empty (row_rises t.rule t.d3 t.d6 r.proper))

-- ---- the last of them: a thread ends where it began. f is X or Z of a record
module _ (f : Record → ℤ) (t : Thread) (x : ℤ) (home : f (rapid_to t.facing t.infeed.start t.path.start) ≡ x) where
  passes_last : (ls : List ℤ) → last_of f x (passes (pass_for t) ls) ≡ x
  unfolding passes pass_on
  passes_last [] = refl
  passes_last (l ∷ ls) = ap (λ (y : ℤ). last_of f y (passes (pass_for t) ls)) (after_rapid f t.facing t.infeed.start t.path.start _ ∙ home) ∙ passes_last ls

  pub threading_last : last_of f x (threading t) ≡ x
  unfolding threading
  threading_last = passes_last (map (line_at t) (pass_depths t))
