use Rattle.std.proofs.Common.{List, ℕ, take}
use Rattle.ckrt_stored.specs.Programs.{RecoversToStart, formatted_program}
use Rattle.ckrt_main.specs.LifePieces.{LivedSoFar}
use Rattle.ckrt_main.proofs.many.lives.Given as goal

abbrev pub invariant-loop-life : goal.invariant-loop-life
invariant-loop-life l = (formatted : List ℕ) × RecoversToStart (formatted_program l.fn.config l.fn.image) formatted × LivedSoFar (formatted_program l.fn.config l.fn.image) formatted (take l.life-index l.list) l.reports.items l.left.items
