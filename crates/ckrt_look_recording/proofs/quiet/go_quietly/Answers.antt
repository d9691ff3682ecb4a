use Rattle.ckrt_look_recording.proofs.QuietLemmas.{went_quietly}
use Rattle.ckrt_look_recording.proofs.quiet.go_quietly.Goals as goal

pub returns : goal.returns
returns c = went_quietly c.args.limit c.go_quietly_to-made.result c.args.hart c.args.machine.now c.go_quietly_to-made.new.machine c.known.ensures c.go_quietly_to-made.ensures
