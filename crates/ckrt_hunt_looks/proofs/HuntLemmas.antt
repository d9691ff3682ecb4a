-- What runs are looked at for.
use Rattle.std.proofs.Common.{◌≡◌, false}
use Rattle.ckrt_hunt_schedules.specs.Table.{is_closer}
use Rattle.ckrt_hunt_schedules.specs.Tallies.{Hunted}
use Rattle.ckrt_hunt_schedules.specs.declared.seeds.Seeds.{Seeds}
use Rattle.ckrt_hunt_schedules.specs.declared.table.Look.{Look}
use Rattle.ckrt_hunt_schedules.specs.declared.table.Look.TheVariants as look
use Rattle.ckrt_hunt_looks.specs.declared.telling.HuntFound.TheVariants as found
use Rattle.ckrt_hunt_looks.specs.Hunts.{IsFound}

-- their outcomes alone
pub only_outcomes : (l : Look) (h : Hunted) (seeds : Seeds) → is_closer l ≡ false → IsFound h seeds l found.Nothing
only_outcomes look.Outcomes h seeds is = tt
only_outcomes look.Races h seeds is = absurd (cc)
only_outcomes look.Errors h seeds is = absurd (cc)
