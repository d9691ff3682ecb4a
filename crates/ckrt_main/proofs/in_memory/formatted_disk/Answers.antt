use Rattle.std.proofs.Common.{refl}
use Rattle.ckrt_main.proofs.in_memory.formatted_disk.Goals as goal

-- nothing is pending on a disk that was formatted
pub returns-in-Ok-clause-formatted : goal.returns-in-Ok-clause-formatted
returns-in-Ok-clause-formatted c = (c.in-Ok.ensures.made tt).formatted c.format.new.disk.marked.bytes.items (record { size = refl; same = λ i out. refl })
