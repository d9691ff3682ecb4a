use Rattle.std.proofs.Common.{◌∙◌, sym}
use Rattle.ckrt_disk.proofs.FrameLemmas.{where_ok}
use Rattle.ckrt_witness.proofs.released.commit_two.Goals as goal

pub returns-clause-represents : goal.returns-clause-represents
returns-clause-represents g c = λ well honest p events had.
    let one = where_ok c.submit.result (c.submit.ensures.represents p events had) (sym c.is_err.ensures.value ∙ c.if-is_err.false) in
    let two = where_ok c.submit-2.result (c.submit-2.ensures.represents p _ one) (sym c.is_err-2.ensures.value ∙ c.if-is_err-2.false) in
    c.commit.ensures.represents honest p _ two
