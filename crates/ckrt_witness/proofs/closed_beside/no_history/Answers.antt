use Rattle.std.proofs.Common.{◌∙◌, List, ℕ, subst}
use Rattle.ckrt_history.specs.History.{HasFault}
use Rattle.ckrt_history.specs.Reads.{AgreesOnFault}
use Rattle.ckrt_history.specs.Span.{TellsSpan}
use Rattle.ckrt_history.specs.declared.fault.HistoryFault.{HistoryFault}
use Rattle.ckrt_history.specs.declared.fault.HistoryFault.TheVariants.{NotAHistory}
use Rattle.ckrt_witness.proofs.closed_beside.no_history.Goals as goal

pub returns : goal.returns
returns g c = λ r has.
    let looked : HasFault c.memory_disk-looked.result.marked.bytes.items NotAHistory =
    subst (λ (e : HistoryFault). AgreesOnFault e (TellsSpan c.memory_disk-looked.result.marked.bytes.items)) c.in-Err-NotAHistory.field-0-is (c.in-Err-NotAHistory.ensures.exact tt) in
    c.histories_are_one.ensures.no_fault _ r NotAHistory has (subst (λ (l : List ℕ). HasFault l NotAHistory) (c.memory_disk-looked.ensures.content ∙ c.copied.ensures ∙ c.deref.ensures.value) looked)
