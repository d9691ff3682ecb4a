use Rattle.std.proofs.Common.{◌≡◌, ◌↔◌, true, is_some, refl, subst}
use Rattle.ckrt_gdb_history.specs.Positions.{History}
use Rattle.ckrt_gdb_playback.specs.Playback.{HasPlace, IsPlayable}
use Rattle.ckrt_gdb_stub.proofs.SessionLemmas.{names}
use Rattle.ckrt_gdb_stub.proofs.stub.Stub.name.Goals as goal

pub returns-clause-named : goal.returns-clause-named
returns-clause-named c =
    let first = c.args.self.desk.first in let events = c.args.events in let steps = c.args.steps in
    let set = c.stop_at-there.ensures in let played = c.in_ok-history.ensures.played in
    let replayed : IsPlayable c.args.self.playback × Unit {0} = (c.in_ok-history.ensures.playable, tt) in
    names c.stop_at-there.result events steps c.args.self _
    (subst (λ (h : History). (is_some c.stop_at-there.result ≡ true) ↔ HasPlace first events steps h) played set.has)
    replayed
    record { history = played; view = set.kept.0; stops = set.stops; bounds_are = refl; first = set.kept.1; recorded = set.kept.2 }
    set.there
    set.nowhere
