use Rattle.ckrt_schedule.proofs.NextLemmas.{always_taken, hangs_on_next}
use Rattle.ckrt_schedule.proofs.giving_laws.given_input_is_taken.Goals as goal

pub returns : goal.returns
returns c = record { taken = always_taken; next = hangs_on_next }
