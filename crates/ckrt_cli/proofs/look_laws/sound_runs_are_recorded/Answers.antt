use Rattle.ckrt_cli.proofs.SoundLemmas.{sound_recorded}
use Rattle.ckrt_cli.proofs.look_laws.sound_runs_are_recorded.Goals as goal

pub returns : goal.returns
returns c = λ image newer older parts sound. sound_recorded image newer older parts sound
