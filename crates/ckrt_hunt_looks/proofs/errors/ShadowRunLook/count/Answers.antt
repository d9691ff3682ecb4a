use Rattle.std.proofs.Common.{◌∙◌, ap, sym}
use Rattle.ckrt_hunt_looks.specs.Kinds.{error_kind}
use Rattle.ckrt_hunt_looks.specs.Rows.{rows_in, with_run}
use Rattle.ckrt_hunt_looks.proofs.ErrorLemmas.{counts, fills}
use Rattle.ckrt_hunt_looks.proofs.errors.ShadowRunLook.count.Goals as goal

-- the run fills the room
pub returns-then-is_full-clause-full : goal.returns-then-is_full-clause-full
returns-then-is_full-clause-full c = λ room es s is. fills room es s c.args.self.now (sym c.is_full.ensures ∙ c.if-is_full.true) is

-- or it is counted
pub returns-clause-counted : goal.returns-clause-counted
returns-clause-counted c =
    let d = c.args.self.now in
    let old = rows_in c.args.counted.now in
    let counted = c.note.ensures
    ∙ ap (λ l. with_run error_kind c.args.seed l c.others.result old) c.findings.ensures
    ∙ ap (λ n. with_run error_kind c.args.seed d.heap.found.rows n old) c.others.ensures in
    λ room es s is. counts room es s d c.args.seed c.args.counted.now c.note.new.self (sym c.is_full.ensures ∙ c.if-is_full.false) counted is
