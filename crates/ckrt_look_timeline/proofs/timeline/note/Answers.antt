use Rattle.std.proofs.Common.{◌+◌, refl}
use Rattle.ckrt_look_timeline.proofs.TrackLemmas.{goes_on}
use Rattle.ckrt_look_timeline.proofs.timeline.note.Goals as goal

pub returns-clause-goes_on : goal.returns-clause-goes_on
returns-clause-goes_on c =
    goes_on c.args.now.now c.args.steps c.args.timeline.now (record { tracks = c.extend_all.new.tracks; steps = c.args.timeline.now.steps + c.args.steps }) c.requires.whole c.in_ok-extend_all.ensures.length
    c.in_ok-extend_all.ensures.extended refl
