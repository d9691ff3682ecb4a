use Rattle.ckrt_cli.proofs.RunLemmas.{commands_go_on}
use Rattle.ckrt_cli.proofs.laws.commands_go_on.Goals as goal

pub returns : goal.returns
returns g c = λ rules f common p r more on.
    commands_go_on _ f common p r more on (λ disk image honest left. c.disk_laws.ensures.only_now disk image honest left) (λ disk honest. c.disk_laws.ensures.readable disk honest)
