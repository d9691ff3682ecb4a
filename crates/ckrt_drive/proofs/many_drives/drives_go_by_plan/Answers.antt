use Rattle.std.proofs.Common.{◌∷◌}
use Rattle.ckrt_drive.proofs.ByPlanLemmas.{end_unbroken, go_by_plan, of_unbroken, one_list, unbroken_once}
use Rattle.ckrt_drive.proofs.TakenLemmas.{are_told, is_told, one_input}
use Rattle.ckrt_drive.proofs.many_drives.drives_go_by_plan.Goals as goal

pub returns-clause-one : goal.returns-clause-one
returns-clause-one g c = λ u p first events others h k. one_list u p first events others h k

pub returns-clause-beginnings : goal.returns-clause-beginnings
returns-clause-beginnings g c = λ u p first events whole h k. of_unbroken u p first events whole h k

pub returns-clause-once : goal.returns-clause-once
returns-clause-once g c = λ u p first events whole h k. unbroken_once u p first events whole h k

pub returns-clause-drives : goal.returns-clause-drives
returns-clause-drives g c = λ u first h v more begins by_plan same stand told behind keep.
    go_by_plan u first h v more begins by_plan same behind keep (are_told u.file h v more (one_input u (v ∷ more) same) stand told behind keep)

pub returns-clause-ends : goal.returns-clause-ends
returns-clause-ends g c = λ first whole h v k by_plan stand told ended unbroken. end_unbroken first whole h v k by_plan (is_told h v k stand told) ended unbroken
