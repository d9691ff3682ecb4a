use Rattle.std.proofs.Common.{List, subst, sym}
use Rattle.ckrt_gdb_history.specs.declared.stop.Watch.{Watch}
use Rattle.ckrt_gdb_history.specs.Positions.{History}
use Rattle.ckrt_gdb_history.specs.Stops.{HasMet}
use Rattle.ckrt_gdb_playback.specs.Motions.{IsFirstMet}
use Rattle.ckrt_gdb_playback.proofs.motion.met.Goals as goal

pub watch_of-requires-clause-met : goal.watch_of-requires-clause-met
watch_of-requires-clause-met c =
    let h = c.args.history.now in
    subst (λ (x : History). HasMet c.as_slice.result.now x.position x.events x.start) (sym c.has_met.ensures.history)
    (subst (λ (ws : List Watch). HasMet ws h.position h.events h.start) (sym c.as_slice.ensures.value) (c.has_met.ensures.met.0 c.if-not-has_met.false))

pub returns-clause-first : goal.returns-clause-first
returns-clause-first c =
    let h = c.args.history.now in let w = c.watch_of.result in (
      c.has_met.ensures.met.0 c.if-not-has_met.false,
      subst (λ (ws : List Watch). IsFirstMet w ws h.position h.events h.start) c.as_slice.ensures.value
          (subst (λ (x : History). IsFirstMet w c.as_slice.result.now x.position x.events x.start) c.has_met.ensures.history c.watch_of.ensures.first),
    )
