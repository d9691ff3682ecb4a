use Rattle.ckrt_gdb_forms.proofs.ReadBackLemmas.{frame_reads_back, replies_are_plain}
use Rattle.ckrt_gdb_forms.proofs.laws.frames_read_back.Goals as goal

pub returns-clause-frames : goal.returns-clause-frames
returns-clause-frames c = frame_reads_back

pub returns-clause-replies : goal.returns-clause-replies
returns-clause-replies c = replies_are_plain
