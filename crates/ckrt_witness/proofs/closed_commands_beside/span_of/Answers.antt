use Rattle.std.proofs.Common.{List, ℕ, ◌∙◌, subst}
use Rattle.ckrt_history.specs.Span.{HasSpan}
use Rattle.ckrt_witness.proofs.closed_commands_beside.span_of.Goals as goal

pub returns : goal.returns
returns g c = subst (λ (l : List ℕ). HasSpan l c.in-Ok.span) (c.memory_disk-file.ensures.content ∙ c.copied.ensures) (c.in-Ok.ensures.exact tt)
