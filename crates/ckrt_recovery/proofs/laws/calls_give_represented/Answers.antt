use Rattle.ckrt_recovery.proofs.ReachedLemmas.{reached_represents, represented_fits}
use Rattle.ckrt_recovery.proofs.laws.calls_give_represented.Goals as goal

pub returns : goal.returns
returns g c = record {
  represents = λ p events r. reached_represents p events c.args.session.now r;
  fits = λ p events r. represented_fits p events c.args.session.now (reached_represents p events c.args.session.now r);
}
