-- An arc told by its records. 02: "kinds 8 and 9 are as kind 2 with the end point, and a following record, kind 10, carries the centre"; "10 after each 8 or 9 and nowhere else".
use Rattle.std.specs.Prelude.{Bool, not, ◌&&◌, List, [], ◌∷◌, eqb, ℤ}
use Rattle.moves.specs.declared.Record.{Record}
use Rattle.moves.specs.Kinds.{clockwise_kind, is_arc, in_turn}
use Rattle.arcs.specs.declared.Arc.{Arc}

-- the arc from x, z that two records tell: the first its direction, kind 8 is clockwise, and its end, the second its centre
unfoldable pub told_by : ℤ → ℤ → Record → Record → Arc
told_by x z goes around = record {
  clockwise = eqb goes.kind clockwise_kind;
  start = record { x = x; z = z };
  end = record { x = goes.x; z = goes.z };
  centre = record { x = around.x; z = around.z };
}

-- "10 after each 8 or 9 and nowhere else": the records of a row, the first of which is a centre or not, as is due
unfoldable pub paired : Bool → List Record → Bool
paired due [] = not due
paired due (r ∷ rs) = in_turn due r.kind && paired (is_arc r.kind) rs
