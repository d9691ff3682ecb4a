use Rattle.std.proofs.Common.{List, ℕ, ◌∙◌, sym, subst}
use Rattle.ckrt_witness.specs.CommandsBeside.{HasEvents}
use Rattle.ckrt_witness.proofs.closed_commands_beside.reopened.Goals as goal

pub returns-clause-again : goal.returns-clause-again
returns-clause-again g c = record {
  disk = record { honest = tt; same = c.stopping_disk.ensures.content ∙ c.into_image.ensures; settled = c.stopping_disk.ensures.settled };
  output = record { honest = tt; same = c.stopping_disk-2.ensures.content ∙ c.into_image-2.ensures; settled = c.stopping_disk-2.ensures.settled };
  file = record { honest = tt; same = c.stopping_disk-3.ensures.content ∙ c.into_image-file.ensures; settled = c.stopping_disk-3.ensures.settled };
}

pub returns-clause-events : goal.returns-clause-events
returns-clause-events g c = subst (λ (l : List ℕ). HasEvents l c.args.count) (c.deref.ensures.value ∙ sym c.stopping_disk-3.ensures.content) c.expect_events.ensures
