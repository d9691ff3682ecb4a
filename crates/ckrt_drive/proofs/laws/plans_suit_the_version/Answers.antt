use Rattle.ckrt_drive.proofs.NeedLemmas.{no_need}
use Rattle.ckrt_drive.proofs.laws.plans_suit_the_version.Goals as goal

pub returns : goal.returns
returns c = λ left v. no_need c.args.options.now left v
