-- `meeting_in_eight` meets its contract: where the clauses of all eight together miss the row, each place does.
use Rattle.seek.proofs.Eights.{eight_missed}
use Rattle.seek.proofs.Level.meeting_in_eight.Goals as goal

pub returns-then-self-some_met-eq0 : goal.returns-then-self-some_met-eq0
returns-then-self-some_met-eq0 g c =
    let l = c.args.self.now in
    record {
      found = eight_missed l.ends.now l.condition.row c.some_met.ensures c.if-self-some_met-eq0.true;
      some = tt;
    }
