use Rattle.ckrt_schedule.proofs.NextLemmas.{beginning, end_behind, goes_on}
use Rattle.ckrt_schedule.proofs.giving_laws.given_input_is_the_file.Goals as goal

pub returns : goal.returns
returns c = record { beginning = beginning; end = end_behind; goes_on = goes_on }
