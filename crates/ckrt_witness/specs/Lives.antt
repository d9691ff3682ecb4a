-- What meets the premises of the promise of many lives.
use Rattle.std.specs.Prelude.{◌≡◌, ◌<◌, ℕ, Some, None, List, [], ◌∷◌, All}
use Rattle.ckrt_stored.specs.Programs.{Program}
use Rattle.ckrt_main.specs.Lives.{AreLives, IsInRangeLife, Releases}
use Rattle.ckrt_main.specs.declared.life.Life.{Life}
use Rattle.ckrt_main.specs.declared.life.LifeReport.{LifeReport}

-- The calls of their disks at which four lives are stopped: the first within a call once it has recovered, the next before it recovers, and the others never.
pub record AreStopped (cut early one other : ℕ) : Type 0 where
  pub behind_recovery : 1 < cut
  pub before_recovery : early ≡ 1
  pub never : one ≡ 0
  pub never_again : other ≡ 0

-- four such lives
pub record FourLives (lives : List Life) : Type 0 where
  pub cut : Life
  pub early : Life
  pub one : Life
  pub other : Life
  pub all : lives ≡ cut ∷ early ∷ one ∷ other ∷ []
  pub in_range : All IsInRangeLife lives
  pub stops : AreStopped cut.stop_at early.stop_at one.stop_at other.stop_at

-- All but the one that was stopped before have recovered. The first was stopped behind the gate of its commit: the third has recovered more events than
-- that one acknowledged. And it acknowledges more than it recovered.
pub record HaveRecovered (cut early one other : LifeReport) : Type 0 where
  pub first : ℕ
  pub cut_recovered : cut.recovered ≡ Some first
  pub early_stopped : early.recovered ≡ None
  pub before : ℕ
  pub one_recovered : one.recovered ≡ Some before
  pub behind : ℕ
  pub other_recovered : other.recovered ≡ Some behind
  pub kept : cut.acknowledged < before
  pub more : before < one.acknowledged

-- what four lives report, of which two have released a byte at one offset
pub record FourReports (reports : List LifeReport) : Type 0 where
  pub cut : LifeReport
  pub early : LifeReport
  pub one : LifeReport
  pub other : LifeReport
  pub all : reports ≡ cut ∷ early ∷ one ∷ other ∷ []
  pub recovered : HaveRecovered cut early one other
  pub offset : ℕ
  pub byte : ℕ
  pub released : Releases one offset byte
  pub again : ℕ
  pub released_again : Releases other offset again

-- four lives of a program, for which all premises hold at once
pub record LivesWitness (p : Program) : Type 0 where
  pub lives : List Life
  pub four : FourLives lives
  pub reports : List LifeReport
  pub reported : FourReports reports
  pub are : AreLives p lives reports
