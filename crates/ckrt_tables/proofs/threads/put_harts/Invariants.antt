use Rattle.std.proofs.Common.{take}
use Rattle.std.specs.List.{flat_map}
use Rattle.ckrt_tables.specs.Records.{hart_bytes}
use Rattle.ckrt_tables.specs.Writing.{IsPut}
use Rattle.ckrt_tables.proofs.threads.put_harts.Given as goal

abbrev pub invariant-loop-hart : goal.invariant-loop-hart
invariant-loop-hart l = IsPut l.fn.out l.at (flat_map hart_bytes (take l.hart l.threads.harts)) l.out l.end
