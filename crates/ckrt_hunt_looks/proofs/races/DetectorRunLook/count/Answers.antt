use Rattle.std.proofs.Common.{◌∙◌, sym}
use Rattle.ckrt_hunt_looks.proofs.RaceLemmas.{counts, fills}
use Rattle.ckrt_hunt_looks.proofs.races.DetectorRunLook.count.Goals as goal

-- the run fills the room
pub returns-then-is_full-clause-full : goal.returns-then-is_full-clause-full
returns-then-is_full-clause-full c = λ room es s is. fills room es s c.args.self.now (sym c.is_full.ensures ∙ c.if-is_full.true) is

-- or it is counted
pub returns-clause-counted : goal.returns-clause-counted
returns-clause-counted c = λ room es s is. counts room es s c.args.self.now c.args.seed c.args.counted.now c.note.new.self (sym c.is_full.ensures ∙ c.if-is_full.false) c.note.ensures is
