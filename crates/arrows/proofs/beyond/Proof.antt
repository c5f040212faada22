-- `arrows::beyond` meets its contract.
use Rattle.whole.proofs.Integers.{wide}
use Rattle.arrows.proofs.beyond.Statement.{statement}
use Rattle.arrows.proofs.beyond.Tie as tie

cast_result : tie.Need-overflow_cast-result
cast_result c = search wide

cast_result_2 : tie.Need-overflow_cast-result-2
cast_result_2 c = search wide

sub_result : tie.Need-overflow_sub-result
sub_result c = search wide

returns : tie.Need-returns
returns c = search wide

pub beyond_spec : {M : Type 1} → statement M
beyond_spec = tie.close (tie.spec cast_result cast_result_2 sub_result returns)
