-- The steps of a run as a chain: each begins in the run that the one before has left. Laws about runs go along this chain and know nothing of calls, repeats and fuel.
use Rattle.std.specs.Prelude.{◌≡◌, List, [], ◌∷◌}
use Rattle.interpreter.specs.of_machine.Blocks.{done_records}
use Rattle.ahead.specs.Ahead.{onto}
use Rattle.interpreter.specs.of_taking.Steps.{Task, Step, block_on, alarm_at, run_after}
use Rattle.ahead.specs.declared.Frame.{Frame}
use Rattle.interpreter.specs.of_taking.declared.Run.{Run}

-- a step that was taken from the run r: its block had no alarm, in some program and with some calls left (the frame), and its records are those of the block
pub record Done (t : Task) (r : Run) (st : Step) : Type 0 where
  pub frame : Frame
  pub begun : st.before ≡ r
  pub free : alarm_at t (onto frame st.place) r ≡ 0
  pub wrote : st.records ≡ done_records t.table t.settings r.state (block_on t.tape st.place)

-- from the run r the steps lead to the run s
unfoldable pub Linked : Task → Run → List Step → Run → Type 0
Linked t r [] s = r ≡ s
Linked t r (st ∷ sts) s = Done t r st × Linked t (run_after t st.place r) sts s
