use Rattle.ckrt_stored.proofs.ReplayLemmas.{output-append}
use Rattle.ckrt_main.proofs.ToldLemmas.{lines_agree}
use Rattle.ckrt_main.proofs.laws.output_goes_on.Goals as goal

pub returns-clause-output : goal.returns-clause-output
returns-clause-output c = output-append

pub returns-clause-lines : goal.returns-clause-lines
returns-clause-lines c = lines_agree
