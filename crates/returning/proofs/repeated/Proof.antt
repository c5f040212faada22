-- `returning::repeated` meets its contract.
use mathlib.Core.Path.{ap}
use borrow.Author.Rules.{rules}
use lib.ListN.{set}
use Prim.Native.Nat.{◌-◌}
use Rattle.ahead.specs.declared.Frame.{Frame}
use Rattle.paused.specs.of_resuming.Remains.{waiting}
use Rattle.returning.specs.Moving.{last_of}
use Rattle.returning.proofs.repeated.Statement.{statement}
use Rattle.returning.proofs.repeated.Tie as tie

returns : tie.Need-returns
returns c =
    let a = c.args in
    ap
    (λ (f : Frame).
    record {
      frame = f;
      run = a.g.run;
      waiting = set a.g.waiting (last_of a.g) (waiting a.w.program a.w.after (a.w.times - 1));
      phase = a.g.phase;
      end = a.g.end;
      filled = a.g.filled;
    })
    c.entry_of-entry.ensures

pub repeated_spec : {M : Type 1} → statement M
repeated_spec =
    tie.close
    (tie.spec
    (λ c. search rules)
    (λ c. search rules)
    (λ c. search rules)
    (λ c. search rules)
    (λ c. search rules)
    (λ c. search rules)
    (λ c κs. search rules)
    returns)
