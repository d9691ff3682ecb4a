use Rattle.std.proofs.Common.{◌+◌, ◌/◌, refl}
use Rattle.ckrt_look_clocks.proofs.PartLemmas.{none_done}
use Rattle.ckrt_look_clocks.proofs.parts.Shadow.new.Goals as goal

pub returns : goal.returns
returns c =
    none_done c.in_ok-by_part.by_part.items c.in_ok-cells.cells.items (c.args.words / 1024 + 1) c.args.words c.args.words c.args.slots c.args.slots c.in_ok-by_part.ensures refl refl refl
