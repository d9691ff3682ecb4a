use Rattle.std.proofs.Common.{[]}
use Rattle.ckrt_witness.proofs.CommandsBesideLemmas.{two_commands}
use Rattle.ckrt_witness.proofs.commands_beside.two_commands_beside.Goals as goal

pub returns : goal.returns
returns g c = λ p count twice.
    two_commands _ g.met.D.Disk.counts_now g.met.D.Disk.readable (c.runs_go_on_beside_a_history.ensures.stand [])
    c.disks_are_left_before_drives.ensures c.runs_stand_beside_a_history.ensures.stand c.runs_keep_histories.ensures.keep c.runs_keep_histories.ensures.acknowledged p count twice
