use Rattle.ckrt_drive.proofs.ApartLemmas.{none_behind}
use Rattle.ckrt_drive.proofs.laws.no_checkpoint_behind_a_checkpoint.Goals as goal

pub returns : goal.returns
returns g c = λ w inside is. none_behind c.args.session.now c.args.options.now w inside is
