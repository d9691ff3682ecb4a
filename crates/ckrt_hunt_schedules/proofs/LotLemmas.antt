-- The lots of a turn, from the state of the generator before them.
use Rattle.std.proofs.Common.{◌≡◌, ℕ, ◌*◌}
use Rattle.ckrt_schedule.specs.Lots.{lot_from}
use Rattle.ckrt_schedule.proofs.LotLemmas.{lots_follow}
use Rattle.ckrt_hunt_schedules.specs.Lots.{lot_at, lots_of}

pub lot_there : (seed turn place : ℕ) → lot_from (lots_of seed turn) place ≡ lot_at seed turn place
lot_there seed turn place = lots_follow seed (128 * turn) place
