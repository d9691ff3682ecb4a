use Rattle.std.proofs.Common.{refl}
use Rattle.ckrt_witness.proofs.closed_inspecting.inspections.Goals as goal

pub returns : goal.returns
returns g c = record {
  listed = c.listed.ensures;
  range = c.out_of_range.ensures;
  not_formatted = c.not_formatted.ensures;
  fails = c.failing.ensures;
  grew = c.failing.ensures.read.fault refl;
}
