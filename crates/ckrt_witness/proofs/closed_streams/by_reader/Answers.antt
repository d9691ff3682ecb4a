use Rattle.std.proofs.Common.{subst}
use Rattle.ckrt_disk.specs.contracts.memory.MemoryDiskDisk.TheImpl as memory
use Rattle.ckrt_main.proofs.FreshLemmas.{none_failed}
use Rattle.ckrt_main.specs.declared.fault.ServeFault.{ServeFault}
use Rattle.ckrt_witness.specs.Streams.{BrokenService}
use Rattle.ckrt_witness.proofs.closed_streams.by_reader.Goals as goal

pub returns : goal.returns
returns g c = λ p start. subst (λ (f : ServeFault). BrokenService memory.ghosts p f) c.in-Some-default-Read.field-0-1-is (c.in-Some-default-Read.ensures tt none_failed p start)
