-- Rows of records that a wrong program would write, and that `Threaded` rules out.
-- Assumes nothing.
use mathlib.Core.Path.{◌≡◌, sym, ap, ◌∙◌, subst}
use mathlib.Core.Bool.{Bool, true, false, cond}
use mathlib.Core.List.{List, [], ◌∷◌, map}
use Prim.Native.Nat.{ℕ, zero, suc, ◌+◌, ◌*◌, ◌<◌}
use native.Mathlib.Omega.{arith}
use lib.IntN.{ℤ, pos, negsuc, neg_ℤ, nat_abs, ◌+ℤ◌, ◌-ℤ◌}
use lib.ListN.{replicate, get_or}
use Rattle.whole.specs.Signed.{side_of, along}
use Rattle.whole.proofs.Integers.{whole, add_in, up_neg, down_neg}
use Rattle.moves.specs.declared.Record.{Record}
use Rattle.moves.specs.Kinds.{rapid, thread, miscellaneous}
use Rattle.axes.specs.Axis.{distance}
use Rattle.depths.specs.Promised.{Rises, Promised}
use Rattle.depths.proofs.RuledOut as rows
use Rattle.threading.specs.declared.Thread.{Thread}
use Rattle.threading.specs.Bits.{rule_of}
use Rattle.threading.specs.Threading.{line_at, wrong, pass_for, pass_on, passes}
use Rattle.threading.specs.Threaded.{from_first, up_to_last, beyond, AtDepth, PassesAt, none, pass, cuts_of, empties_of, Threaded}
use Rattle.threading.proofs.Examples.{first, first_right, third, pass_at}
use Rattle.threading.proofs.Asked.{right}
use Rattle.threading.proofs.Threaded.{thread_goes, all_moves, at_depth}

-- ---- passes at depths, right or wrong, are read as passes at these depths and no others
abbrev pub cut_as : Thread → List ℕ → List Record
cut_as t xs = passes (pass_for t) (map (line_at t) xs)

-- a line is at one depth, where the infeed has a side
one_way : (z a : ℤ) (m n : ℕ) → 0 < nat_abs z → a +ℤ along (side_of z) m ≡ a +ℤ along (side_of z) n → m ≡ n
one_way (pos zero) a m n h e = absurd (omega arith)
one_way (pos (suc k)) a m n h e = omega (whole, add_in a (pos m), add_in a (pos n))
one_way (negsuc k) a m n h e = omega (whole, add_in a (neg_ℤ (pos m)), add_in a (neg_ℤ (pos n)), up_neg (pos m), down_neg (pos m), up_neg (pos n), down_neg (pos n))

one_depth : (t : Thread) {x y : ℕ} {l : ℤ} → 0 < distance t.infeed → AtDepth t x l → AtDepth t y l → x ≡ y
one_depth t {x} {y} h a b =
    let same : a.way ≡ b.way = one_way (t.infeed.target -ℤ t.infeed.start) t.infeed.start a.way b.way h (sym a.on ∙ b.on) in
    go t.facing (beyond t) (omega (arith, a.short, b.short))
  where
    go : (f : Bool) (k : ℕ) → cond f 1 2 * (x + k) ≡ cond f 1 2 * (y + k) → x ≡ y
    go true k e = omega arith
    go false k e = omega arith

only_depths : (t : Thread) → wrong t ≡ false → (xs ys : List ℕ) → PassesAt t ys (cut_as t xs) → ys ≡ xs
unfolding passes pass_on
only_depths t w [] [] none = λ i. []
only_depths t w [] (y ∷ ys) h = elim h [ ]
only_depths t w (x ∷ xs) [] h = elim h [ ]
only_depths t w (x ∷ xs) (y ∷ ys) (pass a p ps) =
    let r = right t w in
    let here : AtDepth t y (line_at t x) = subst (AtDepth t y) (sym p.cut_to.inward ∙ (thread_goes t (line_at t x) t.path.target).inward) a in
    let same : y ≡ x = one_depth t r.infeed here (at_depth t r.crest x) in
    λ i. same i ∷ only_depths t w xs ys ps i

-- so the promise speaks of these
pub record Cut (t : Thread) (xs : List ℕ) : Type 0 where
  pub cuts : Promised t.rule t.d3 t.d6 (cuts_of t xs)
  pub empties : empties_of t xs ≡ replicate t.empty t.d6

pub promise_of : (t : Thread) (xs : List ℕ) → wrong t ≡ false → Threaded t (cut_as t xs) → Cut t xs
promise_of t xs w p =
    let is : p.depths ≡ xs = only_depths t w xs p.depths (subst (PassesAt t p.depths) (all_moves t (map (line_at t) xs)) p.passes) in
    subst (Cut t) is (record { cuts = p.cuts; empties = p.empties })

-- ---- the first example, D3 600, D6 1277, with one empty cut
module _ (xs : List ℕ) (p : Threaded first (cut_as first xs)) where
  first_cut : Cut first xs
  first_cut = promise_of first xs first_right p

-- THE LAST CUT BEYOND D6
pub last_beyond : Threaded first (cut_as first (600 ∷ 848 ∷ 1039 ∷ 1200 ∷ 1341 ∷ 1341 ∷ [])) → ⊥
unfolding rule_of
last_beyond p = rows.beyond (first_cut (600 ∷ 848 ∷ 1039 ∷ 1200 ∷ 1341 ∷ 1341 ∷ []) p).cuts

-- THE EMPTY CUT LEFT OUT
pub empty_left_out : Threaded first (cut_as first (600 ∷ 848 ∷ 1039 ∷ 1200 ∷ 1277 ∷ [])) → ⊥
unfolding rule_of
empty_left_out p = rows.not_reached (first_cut (600 ∷ 848 ∷ 1039 ∷ 1200 ∷ 1277 ∷ []) p).cuts

-- ONE EMPTY CUT TOO MANY
pub empty_twice : Threaded first (cut_as first (600 ∷ 848 ∷ 1039 ∷ 1200 ∷ 1277 ∷ 1277 ∷ 1277 ∷ [])) → ⊥
unfolding rule_of
empty_twice p = rows.last_twice (first_cut (600 ∷ 848 ∷ 1039 ∷ 1200 ∷ 1277 ∷ 1277 ∷ 1277 ∷ []) p).cuts

-- THE EMPTY CUT ON THE CREST
pub empty_on_crest : Threaded first (cut_as first (600 ∷ 848 ∷ 1039 ∷ 1200 ∷ 1277 ∷ 0 ∷ [])) → ⊥
empty_on_crest p = absurd (omega (arith, ap (λ (ys : List ℕ). get_or ys 0 0) (first_cut (600 ∷ 848 ∷ 1039 ∷ 1200 ∷ 1277 ∷ 0 ∷ []) p).empties))

-- CONSTANT CUTS where they were to fall
pub constant : Threaded first (cut_as first (426 ∷ 852 ∷ 1277 ∷ 1277 ∷ [])) → ⊥
unfolding rule_of
constant p = rows.constant (first_cut (426 ∷ 852 ∷ 1277 ∷ 1277 ∷ []) p).cuts

-- NOTHING WRITTEN
pub nothing_written : Threaded first [] → ⊥
unfolding passes Rises
nothing_written p = absurd (omega (arith, (first_cut [] p).cuts.rises))

-- ---- the same, record by record
-- NOT BROUGHT BACK: the rapid back is left out
abbrev pub unreturned : List Record
unreturned =
    rapid (pos 28900) (pos 2000)
    ∷ thread (pos 28900) (negsuc 41999) 2000
    ∷ rapid (pos 31000) (negsuc 41999)
    ∷ rapid (pos 28404) (pos 2000)
    ∷ thread (pos 28404) (negsuc 41999) 2000
    ∷ rapid (pos 31000) (negsuc 41999)
    ∷ []

pub not_brought_back : Threaded first unreturned → ⊥
unfolding from_first up_to_last
not_brought_back p = go p.depths p.passes
  where
    go : (xs : List ℕ) → PassesAt first xs unreturned → ⊥
    go [] h = elim h [ ]
    go (x ∷ xs) (pass a q ps) = absurd (omega (whole, q.back_to.inward))

-- STOPPED BETWEEN TWO PASSES, by an M05
abbrev pub stopped : List Record
stopped = miscellaneous (pos 31000) (pos 2000) 5 ∷ pass_at (pos 28404) []

pub stopped_between : Threaded first (pass_at (pos 28900) stopped) → ⊥
unfolding from_first up_to_last
stopped_between p = go p.depths p.passes
  where
    next : (xs : List ℕ) → PassesAt first xs stopped → ⊥
    next [] h = elim h [ ]
    next (x ∷ xs) (pass a q ps) = absurd (omega (arith, q.in_to.is))

    go : (xs : List ℕ) → PassesAt first xs (pass_at (pos 28900) stopped) → ⊥
    go [] h = elim h [ ]
    go (x ∷ xs) (pass a q ps) = next xs ps

-- THE NOMINAL DIAMETER TAKEN FOR THE CORE: the third example with bit 2, whose target is 30000, begun 2 x (1227 - 600) outside it
abbrev pub outside : List Record
outside =
    rapid (pos 31254) (pos 2000)
    ∷ thread (pos 31254) (negsuc 39999) 2000
    ∷ rapid (pos 31000) (negsuc 39999)
    ∷ rapid (pos 31000) (pos 2000)
    ∷ []

pub taken_for_the_core : Threaded (third 2) outside → ⊥
unfolding from_first up_to_last
taken_for_the_core p = go p.depths p.passes
  where
    go : (xs : List ℕ) → PassesAt (third 2) xs outside → ⊥
    go [] h = elim h [ ]
    go (x ∷ xs) (pass a q ps) = absurd (omega (whole, a.short, q.cut_to.inward, a.on, add_in (pos 31000) (neg_ℤ (pos a.way)), up_neg (pos a.way), down_neg (pos a.way)))
