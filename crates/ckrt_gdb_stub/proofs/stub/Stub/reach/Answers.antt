use Rattle.std.proofs.Common.{◌↔◌, IsTrue, ◌∙◌, ap, refl, sym, subst, ℕ}
use Rattle.ckrt_gdb_history.specs.Positions.{History}
use Rattle.ckrt_gdb_playback.specs.Motions.{at}
use Rattle.ckrt_gdb_playback.specs.Playback.{HasPlace, IsPlayable, position_of}
use Rattle.ckrt_gdb_stub.proofs.SessionLemmas.{reaches}
use Rattle.ckrt_gdb_stub.proofs.stub.Stub.reach.Goals as goal

pub returns-clause-reached : goal.returns-clause-reached
returns-clause-reached c =
    let first = c.args.self.desk.first in let events = c.args.events in let steps = c.args.steps in
    let gone = c.reach-is_there.ensures in let played = c.in_ok-history.ensures.played in
    let replayed : IsPlayable c.args.self.playback × Unit {0} = (c.in_ok-history.ensures.playable, tt) in
    reaches c.reach-is_there.result events steps c.args.self _ (subst (λ (h : History). IsTrue c.reach-is_there.result ↔ HasPlace first events steps h) played gone.has)
    (λ yes. record {
      replayed = replayed;
      history = (gone.there yes).0 ∙ ap (λ (h : History). at (position_of first events steps) h) played;
      view = (gone.there yes).1;
      stops = gone.stops;
      bounds = gone.kept.0;
      first = gone.kept.1;
      recorded = gone.kept.2;
    })
    (λ no. (
      replayed,
      record {
        history = (gone.nowhere no).0 ∙ played;
        view = (gone.nowhere no).1;
        stops = gone.stops;
        bounds_are = gone.kept.0;
        first = gone.kept.1;
        recorded = gone.kept.2;
      },
    ))
