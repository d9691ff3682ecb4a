use Rattle.std.proofs.Common.{Option, Ok, subst, sym}
use Rattle.ckrt_history.specs.declared.snapshot.Snapshot.{Snapshot}
use Rattle.ckrt_cli_disk.specs.Near.{AnswersFor}
use Rattle.ckrt_cli_disk.proofs.NearLemmas.{answers_by}
use Rattle.ckrt_cli_disk.proofs.near.begin_with.Goals as goal

pub returns-in-Some-clause-begins : goal.returns-in-Some-clause-begins
returns-in-Some-clause-begins g c = λ honest.
    let d = g.D.Disk in let image = d.content c.args.history.now in
    subst (λ (x : Option Snapshot). AnswersFor image c.args.stretch.now x (Ok c.args.whole) c.begin_at.result) (sym c.in-Some.is)
    (answers_by (d.is_honest c.begin_at.new.history) image c.args.stretch.now c.in-Some.snapshot c.args.whole c.position_in-position.result c.position_in-position.ensures c.begin_at.result c.begin_at.ensures.begins
    c.begin_at.ensures.fault honest)
