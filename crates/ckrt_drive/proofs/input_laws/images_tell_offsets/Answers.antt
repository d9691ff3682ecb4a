use Rattle.ckrt_drive.proofs.FedLemmas.{as_recovered, begins, tells}
use Rattle.ckrt_drive.proofs.SlotLemmas.{reads_back}
use Rattle.ckrt_drive.proofs.input_laws.images_tell_offsets.Goals as goal

pub returns : goal.returns
returns c = record { offset = tells; begins = begins; one = as_recovered; slots = reads_back }
