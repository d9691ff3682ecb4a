-- What looks find, and how it is told apart: pairs of places that race, in either order; cycles of locks by their places; errors of memory by what is
-- done, its place, the return address in x1, and the kind of what was told of the word. Each is written as the look at one run writes it.
use Rattle.std.specs.Prelude.{ℕ, List, codes, ◌++◌}
use Rattle.ckrt_inspect.specs.Texts.{hex_text}
use Rattle.ckrt_look_clocks.specs.Cycles.{are_at}
use Rattle.ckrt_look_clocks.specs.Detection as races
use Rattle.ckrt_look_clocks.specs.declared.inversion.Inversion.{Inversion}
use Rattle.ckrt_look_clocks.specs.declared.pair.Pair.{Pair}
use Rattle.ckrt_look_heap.specs.Shadow as errors
use Rattle.ckrt_look_heap.specs.Texts.{error_text}
use Rattle.ckrt_look_heap.specs.declared.finding.Finding.{Finding}
use Rattle.ckrt_look_races.specs.Inversions.{cycle_text}
use Rattle.ckrt_look_races.specs.Texts.{both_text}
use Rattle.ckrt_hunt_looks.specs.Rows.{Kind}

abbrev pub pair_kind : Kind Pair
pair_kind = record {
  is_at = λ p known. races.is_at p.first p.second known;
  name = codes "race ";
  others = codes "other races: in ";
  none = codes "no races in ";
  text = λ p. both_text p ++ codes "\n";
}

abbrev pub cycle_kind : Kind Inversion
cycle_kind = record {
  is_at = are_at;
  name = codes "lock cycle ";
  others = codes "other lock cycles: in ";
  none = codes "no lock cycles in ";
  text = λ x. cycle_text x ++ codes "\n";
}

-- the return address in x1, by which errors of one instruction are told apart
abbrev pub link_text : (link : ℕ) → List ℕ
link_text x = codes ", x1 " ++ hex_text x

abbrev pub error_kind : Kind Finding
error_kind = record {
  is_at = λ f known. errors.is_at f.access f.cell known;
  name = codes "error ";
  others = codes "other errors of memory: in ";
  none = codes "no errors of memory in ";
  text = λ f. error_text f ++ link_text f.access.link ++ codes "\n";
}
