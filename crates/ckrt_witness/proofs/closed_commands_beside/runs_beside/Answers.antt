use Rattle.std.proofs.Common.{List, ℕ, sym, subst}
use Rattle.ckrt_stored.specs.Programs.{RecoversToStart}
use Rattle.ckrt_history.specs.History.{HasHistory}
use Rattle.ckrt_witness.specs.Beside.{three}
use Rattle.ckrt_witness.proofs.ShelfLemmas.{sound}
use Rattle.ckrt_witness.proofs.closed_commands_beside.runs_beside.Goals as goal

pub returns : goal.returns
returns g c =
    let p = c.formatted.ensures in
    let one = c.run-one.result in
    let next = c.reopened-next.result in
    let other = c.run-other.result in
    let last = c.reopened.result in
    c.two_commands_beside.ensures p.0 4 (record {
      words = _;
      path = _;
      asked = c.expect_history-path.ensures;
      x = three c.stopping_disk.result c.stopping_disk-2.result c.stopping_disk-3.result;
      end = three one.disk one.output one.file;
      one = c.run-one.ensures;
      next = three next.disk next.output next.file;
      again = c.reopened-next.ensures.again;
      whole = three other.disk other.output other.file;
      other = c.run-other.ensures;
      last = three last.disk last.output last.file;
      behind = c.reopened.ensures.again;
      sound = sound;
      formatted = subst (RecoversToStart p.0) (sym c.stopping_disk.ensures.content) p.1;
      settled = c.stopping_disk.ensures.settled;
      durable = c.stopping_disk-2.ensures.settled;
      kept = c.stopping_disk-3.ensures.settled;
      none = λ r has. c.no_history.ensures r (subst (λ (l : List ℕ). HasHistory l r) c.stopping_disk-3.ensures.content has);
      has = c.reopened.ensures.events;
    })
