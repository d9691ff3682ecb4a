use Rattle.ckrt_main.proofs.AlikeLemmas.{transcripts_alike}
use Rattle.ckrt_main.proofs.laws.answers_alike.Goals as goal

pub returns : goal.returns
returns c = transcripts_alike
