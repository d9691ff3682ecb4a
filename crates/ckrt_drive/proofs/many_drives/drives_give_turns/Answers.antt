use Rattle.std.proofs.Common.{◌∷◌}
use Rattle.ckrt_drive.proofs.ByPlanLemmas.{go_by_plan}
use Rattle.ckrt_drive.proofs.TakenLemmas.{are_told, one_input}
use Rattle.ckrt_drive.proofs.TurnLemmas.{drives_give_turns, plans_give_turns}
use Rattle.ckrt_drive.proofs.many_drives.drives_give_turns.Goals as goal

pub returns-clause-plans : goal.returns-clause-plans
returns-clause-plans g c = plans_give_turns c.each_ready_is_placed.ensures c.clock_comes.ensures

pub returns-clause-drives : goal.returns-clause-drives
returns-clause-drives g c = λ u first h v more some begins by_plan same stand told behind keep.
    drives_give_turns c.each_ready_is_placed.ensures c.clock_comes.ensures u first h (v ∷ more) keep some
    (go_by_plan u first h v more begins by_plan same behind keep (are_told u.file h v more (one_input u (v ∷ more) same) stand told behind keep))
