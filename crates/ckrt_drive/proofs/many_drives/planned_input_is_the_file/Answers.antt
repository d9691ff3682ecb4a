use Rattle.ckrt_drive.proofs.InputLemmas.{ends_behind, give_beginning}
use Rattle.ckrt_drive.proofs.many_drives.planned_input_is_the_file.Goals as goal

pub returns : goal.returns
returns c = record { beginning = give_beginning; end = ends_behind }
