use Rattle.std.proofs.Common.{[], ◌∷◌}
use Rattle.std.specs.Prelude.{◌≢◌}
use Rattle.ckrt_main.proofs.FreshLemmas.{none_failed}
use Rattle.ckrt_witness.proofs.closed_printed.printed.Goals as goal

pub returns : goal.returns
returns g c = let p = c.held-disk.ensures in (p.0, c.in-Some.ensures tt none_failed p.0 _ (λ none. absurd (cc)) p.1)
