-- Rows of depths, computed from the definitions: 001's examples of G85 as 02 reads them, and the edges of its sentences.
-- Assumes nothing.
use mathlib.Core.Path.{◌≡◌, refl}
use mathlib.Core.List.{[], ◌∷◌}
use Rattle.division.specs.Division.{count, pieces, divided}
use Rattle.roots.specs.Roots.{nearer, root_in, root}
use Rattle.depths.specs.declared.Rule.TheVariants.{EvenDepth, EvenNumber, FallingDepth, FallingNumber}
use Rattle.depths.specs.Depths.{running, cuts, cut_count, depths}

-- `D3=600 D6=1277` of 001's first example
pub first_example : depths FallingDepth 600 1277 ≡ 600 ∷ 848 ∷ 1039 ∷ 1200 ∷ 1277 ∷ []
unfolding nearer root_in root count cut_count cuts depths
first_example = refl

-- `D3=600 D6=1840` of its fourth
pub fourth_example : depths FallingDepth 600 1840 ≡ 600 ∷ 848 ∷ 1039 ∷ 1200 ∷ 1341 ∷ 1469 ∷ 1587 ∷ 1697 ∷ 1800 ∷ 1840 ∷ []
unfolding nearer root_in root count cut_count cuts depths
fourth_example = refl

-- D6 1227 by the other rules
pub six_falling : depths FallingNumber 6 1227 ≡ 500 ∷ 708 ∷ 867 ∷ 1001 ∷ 1120 ∷ 1227 ∷ []
unfolding nearer root_in root cuts depths
six_falling = refl

pub three_even : depths EvenDepth 600 1227 ≡ 409 ∷ 818 ∷ 1227 ∷ []
unfolding count pieces divided running depths
three_even = refl

pub six_even_lem : depths EvenNumber 6 1227 ≡ 205 ∷ 410 ∷ 615 ∷ 819 ∷ 1023 ∷ 1227 ∷ []
unfolding pieces running depths
six_even_lem = refl

-- a depth that comes twice is cut twice: a cut number is a number of passes
pub twice : depths FallingNumber 4 4 ≡ 2 ∷ 2 ∷ 3 ∷ 4 ∷ []
unfolding nearer root_in root cuts depths
twice = refl

-- a first root that is D6 exactly is the last
pub at_once : depths FallingDepth 600 600 ≡ 600 ∷ []
unfolding nearer root_in root count cut_count cuts depths
at_once = refl

-- one micrometre on either side of the fourth root, 1200
pub beside_a_root : depths FallingDepth 600 1199 ∷ depths FallingDepth 600 1200 ∷ depths FallingDepth 600 1201 ∷ []
    ≡ (600 ∷ 848 ∷ 1039 ∷ 1199 ∷ []) ∷ (600 ∷ 848 ∷ 1039 ∷ 1200 ∷ []) ∷ (600 ∷ 848 ∷ 1039 ∷ 1200 ∷ 1201 ∷ []) ∷ []
unfolding nearer root_in root count cut_count cuts depths
beside_a_root = refl

-- D3 a depth above D6: one cut of D6
pub above : depths FallingDepth 900 600 ≡ 600 ∷ []
unfolding nearer root_in root count cut_count cuts depths
above = refl

pub above_even : depths EvenDepth 900 600 ≡ 600 ∷ []
unfolding count pieces divided running depths
above_even = refl

-- 10,001 by 2,501 and by 2,500: four cuts and five
pub by_depth_lem : depths EvenDepth 2501 10_001 ∷ depths EvenDepth 2500 10_001 ∷ []
    ≡ (2501 ∷ 5001 ∷ 7501 ∷ 10_001 ∷ []) ∷ (2001 ∷ 4001 ∷ 6001 ∷ 8001 ∷ 10_001 ∷ []) ∷ []
unfolding count pieces divided running depths
by_depth_lem = refl

-- D6 is divided per side, deeper first: 10,001 in four
pub in_four : depths EvenNumber 4 10_001 ≡ 2501 ∷ 5001 ∷ 7501 ∷ 10_001 ∷ []
unfolding pieces running depths
in_four = refl

-- the greatest count is worked out without a walk
pub greatest_count : cut_count FallingDepth 1 32_767 ≡ 1_073_676_289
unfolding count cut_count
greatest_count = refl
