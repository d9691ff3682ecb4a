use Rattle.std.proofs.Common.{Ok}
use Rattle.ckrt_look_recording.specs.Recording.{recorded_of}
use Rattle.ckrt_look_calls.specs.Stretches.{RecordsTo}
use Rattle.ckrt_look_calls.proofs.StretchLemmas.{told_of_image}
use Rattle.ckrt_look_calls.proofs.stretch.tell_stretch.Goals as goal

-- what is told of the recording is told of the disk
pub returns-clause-tells : goal.returns-clause-tells
returns-clause-tells g c = λ honest.
    let image = g.D.Disk.content c.args.disk.now in
    let r = c.in_ok-recording.recording in
    let has : RecordsTo c.args.stretch.to image (Ok (recorded_of r)) = c.in_ok-recording.ensures.exact honest in
    told_of_image (g.T.Telling.Tells c.args.telling.now) c.args.stretch image (g.W.Write.contents c.args.out.now) (g.W.Write.contents c.tell_recording.new.out) (recorded_of r) c.tell_recording.result has c.tell_recording.ensures.tells
