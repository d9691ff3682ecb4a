use Rattle.std.proofs.Common.{sym, subst}
use Rattle.ckrt_gdb_history.specs.Positions.{IsPosition}
use Rattle.ckrt_gdb_history.proofs.AtLemmas.{at_start_of}
use Rattle.ckrt_gdb_playback.proofs.limits.begin_of.Goals as goal

pub returns-clause-is_one : goal.returns-clause-is_one
returns-clause-is_one c =
    let h = c.args.history.now in
    subst (λ p. IsPosition p h.events h.start) (sym c.at_event.ensures) (at_start_of c.args.events h.events h.start c.known.ensures.accepted c.requires)
