-- How many records a bore has.
-- Assumes nothing.
use mathlib.Core.Path.{◌≡◌, refl, sym, ap, ◌∙◌}
use mathlib.Core.Bool.{Bool, true, false, cond}
use mathlib.Core.List.{List, [], ◌∷◌, ◌++◌}
use Prim.Native.Nat.{ℕ, suc, ◌+◌, ◌-◌, ◌*◌, ◌<◌, ◌≤◌}
use native.Mathlib.Omega.{arith}
use lib.Dec.{eqb}
use lib.ListN.{length, length-append}
use Rattle.moves.specs.declared.Record.{Record}
use Rattle.moves.specs.Kinds.{dwell}
use Rattle.drilling.specs.declared.Bore.{Bore}
use Rattle.drilling.specs.Drilling.{stroke_of, bites, bite_count, wrong, deep_at, out_to, clearing, boring, dwelling, drilling, record_count}
use Rattle.drilling.proofs.Asked.{some_bites, bites_few}

clearing_length : (b : Bore) (t : ℕ) → length (clearing b t) ≡ cond b.full 2 1
unfolding clearing
clearing_length b t = go b.full
  where
    go : (f : Bool) → length (cond f (out_to b b.start ∷ out_to b (deep_at b (t - b.back)) ∷ []) (out_to b (deep_at b (t - b.back)) ∷ [])) ≡ cond f 2 1
    go true = refl
    go false = refl

boring_length : (b : Bore) (t : ℕ) (ds : List ℕ) → 0 < length ds → length (boring b t ds) ≡ length ds + cond b.full 2 1 * (length ds - 1)
unfolding boring
boring_length b t [] h = absurd (omega arith)
boring_length b t (d ∷ []) h = omega arith
boring_length b t (d ∷ (e ∷ ds)) h =
    ap suc (length-append (clearing b (t + d)) (boring b (t + d) (e ∷ ds)))
    ∙ (λ i. suc (clearing_length b (t + d) i + boring_length b (t + d) (e ∷ ds) (omega arith) i))
    ∙ step (cond b.full 2 1) (length ds)
  where
    step : (k n : ℕ) → suc (k + (suc n + k * (suc n - 1))) ≡ suc (suc n) + k * (suc (suc n) - 1)
    step k n =
        let a : suc n - 1 ≡ n = omega arith in
        let c : suc (suc n) - 1 ≡ suc n = omega arith in
        let e : suc (k + (suc n + k * n)) ≡ suc (suc n) + k * suc n = omega arith in
        (λ i. suc (k + (suc n + k * a i))) ∙ e ∙ sym (λ i. suc (suc n) + k * c i)

dwelling_length : (b : Bore) → length (dwelling b) ≡ cond (eqb b.dwell 0) 0 1
unfolding dwelling
dwelling_length b = go (eqb b.dwell 0)
  where
    go : (t : Bool) → length (cond t [] (dwell b.x b.target b.dwell ∷ [])) ≡ cond t 0 1
    go true = refl
    go false = refl

-- ---- THE COUNT
pub drilling_length : (b : Bore) → wrong b ≡ false → length (drilling b) ≡ record_count b
unfolding drilling record_count
drilling_length b q =
    let home : List Record = out_to b b.start ∷ [] in
    length-append (boring b 0 (bites b)) (dwelling b ++ home)
    ∙ (λ i. boring_length b 0 (bites b) (some_bites b q) i + length-append (dwelling b) home i)
    ∙ omega (arith, dwelling_length b)

-- and there are no more than three for each unit of the stroke, and two
pub few_records : (b : Bore) → wrong b ≡ false → record_count b ≤ 3 * stroke_of b + 2
unfolding record_count
few_records b q = omega (arith, bites_few b q, three b.full (bite_count b), tail_few (eqb b.dwell 0))
  where
    three : (f : Bool) (n : ℕ) → cond f 2 1 * (n - 1) ≤ 2 * n
    three true n = omega arith
    three false n = omega arith

    tail_few : (t : Bool) → cond t 0 1 ≤ 1
    tail_few true = omega arith
    tail_few false = omega arith
