use Rattle.ckrt_hunt_looks.proofs.RaceLemmas.{forgotten}
use Rattle.ckrt_hunt_looks.proofs.races.DetectorRunLook.forget.Goals as goal

-- as new
pub returns : goal.returns
returns c = λ room es s is. forgotten room es s c.args.self.now c.clear.new.self c.clear.ensures is
