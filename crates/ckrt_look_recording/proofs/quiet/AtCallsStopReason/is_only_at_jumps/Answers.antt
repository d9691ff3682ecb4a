use Rattle.ckrt_look_recording.proofs.QuietLemmas.{calls_at_jumps}
use Rattle.ckrt_look_recording.proofs.quiet.AtCallsStopReason.is_only_at_jumps.Goals as goal

pub returns : goal.returns
returns c = λ _. calls_at_jumps
