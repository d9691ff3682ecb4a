-- What a verdict says of the seeds of a hunt.
use Rattle.std.specs.Prelude.{◌≡◌, ◌≢◌, ◌≤◌, ℕ}
use Rattle.ckrt_hunt_schedules.specs.declared.outcomes.Outcomes.{Outcomes}
use Rattle.ckrt_hunt_schedules.specs.declared.runs.Told.{Told}
use Rattle.ckrt_hunt_schedules.specs.declared.seeds.Seeds.{Seeds}
use Rattle.ckrt_hunt_schedules.specs.declared.verdict.Verdict.TheVariants.{Several}
use Rattle.ckrt_hunt_schedules.specs.Kinds.{kind_of, verdict_by, verdict_of}
use Rattle.ckrt_hunt_schedules.specs.Tallies.{Hunted, IsTallyOf, SeedComesTo}

-- each seed of the range comes to this, and to nothing else
abbrev pub EachComesTo : Hunted → Seeds → Told → Type 0
EachComesTo h seeds told =
    (seed : ℕ) (other : Told) → seeds.first ≤ seed → seed ≤ seeds.last → SeedComesTo h seed other
    → other ≡ told

-- all come to one outcome, with one digest, and the verdict is that on its kind
pub record IsOneOfAll (h : Hunted) (seeds : Seeds) (o : Outcomes) : Type 0 where
  pub told : Told
  pub verdict : verdict_of o.rows.items o.others ≡ verdict_by (kind_of told.outcome)
  pub all : EachComesTo h seeds told

-- where a hunt isn't told to have several outcomes, each of its seeds comes to the one that it has
abbrev pub OneOutcomeIsOfAll : Type 0
OneOutcomeIsOfAll =
    (h : Hunted) (seeds : Seeds) (o : Outcomes) → IsTallyOf h seeds o
    → verdict_of o.rows.items o.others ≢ Several → IsOneOfAll h seeds o
