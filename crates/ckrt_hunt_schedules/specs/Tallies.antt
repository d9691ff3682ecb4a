-- What seeds came to, counted (this project's choice): each outcome once, with how often it came, and the first seed that came to it. Each kind of
-- outcomes has rows of its own.
use Rattle.std.specs.Prelude.{◌≡◌, ◌≢◌, ◌≤◌, ◌<◌, ◌⊎◌, ℕ, zero, suc, ◌+◌, ◌-◌, ◌&&◌, Bool, nat_le, min, if◌then◌else◌, Option, Some, None, List, [], ◌∷◌, ◌++◌, length, slice_get, slice_set, replicate, take, vec_len}
use Rattle.ckrt_memory.specs.Marks.{IsCopyButMarked, Memory}
use Rattle.ckrt_calls.specs.declared.table.Tables.{Tables}
use Rattle.ckrt_machine.specs.Events.{fresh}
use Rattle.ckrt_machine.specs.Steps.{State}
use Rattle.ckrt_hunt_schedules.specs.declared.plan.Input.{Input}
use Rattle.ckrt_hunt_schedules.specs.declared.plan.Plan.{Plan}
use Rattle.ckrt_hunt_schedules.specs.declared.group.Group.{Group}
use Rattle.ckrt_hunt_schedules.specs.declared.group.TheConstants.{GROUP_ROWS}
use Rattle.ckrt_hunt_schedules.specs.declared.kind.Kind.{Kind}
use Rattle.ckrt_hunt_schedules.specs.declared.kind.Kind.TheVariants as kind
use Rattle.ckrt_hunt_schedules.specs.declared.outcomes.Outcomes.{Outcomes}
use Rattle.ckrt_hunt_schedules.specs.declared.runs.Finished.{Finished}
use Rattle.ckrt_hunt_schedules.specs.declared.runs.Told.{Told}
use Rattle.ckrt_hunt_schedules.specs.declared.row.Row.{Row}
use Rattle.ckrt_hunt_schedules.specs.declared.row.TheConstants.{LATER_SEEDS}
use Rattle.ckrt_hunt_schedules.specs.declared.seeds.Seeds.{Seeds}
use Rattle.ckrt_hunt_schedules.specs.declared.table.Asked.{Asked}
use Rattle.ckrt_hunt_schedules.specs.declared.shape.Shape.{Shape}
use Rattle.ckrt_hunt_schedules.specs.declared.tally.Tally.{Tally}
use Rattle.ckrt_hunt_schedules.specs.declared.telling.HuntDone.{HuntDone}
use Rattle.ckrt_hunt_schedules.specs.Kinds.{kind_of}
use Rattle.ckrt_hunt_schedules.specs.Plans.{plan_of}
use Rattle.ckrt_hunt_schedules.specs.Runs.{ComesTo, EndsWith}
use Rattle.ckrt_hunt_schedules.specs.Seeds.{IsBeginning}

-- one more, as far as 64 bits count
abbrev pub one_more : ℕ → ℕ
one_more n = min (n + 1) 18446744073709551615

-- the row of an outcome to which the run of this seed came first
abbrev pub first_row : (seed : ℕ) → Finished → Row
first_row seed run = record { told = run.told; said = run.said; count = 1; first = seed; later = replicate LATER_SEEDS 0 }

-- the same behind the run of one seed more, which is remembered where there is room
abbrev pub counted_again : (seed : ℕ) → Row → Row
counted_again seed r = record r { count = one_more r.count; later = slice_set r.later (r.count - 1) seed }

-- the seeds that came to it next after the first one
abbrev pub later_of : Row → List ℕ
later_of r = take (r.count - 1) r.later

-- none of the first k rows has the outcome
abbrev pub HasNone : Told → List Row → (k : ℕ) → Type 0
HasNone told rows k = (j : ℕ) → j < k → (r : Row) → slice_get rows j ≡ Some r → r.told ≢ told

-- the place is that of the first row with the outcome, and this is its row
pub record IsFirst (told : Told) (rows : List Row) (k : ℕ) (r : Row) : Type 0 where
  pub row : slice_get rows k ≡ Some r
  pub same : r.told ≡ told
  pub before : HasNone told rows k

-- THE OUTCOMES OF ONE KIND

-- no run yet
pub record IsEmpty (g : Group) : Type 0 where
  pub rows : g.rows.items ≡ []
  pub others : g.others ≡ 0

-- the outcome has a row, which counts it once more
pub record CountsAgain (seed : ℕ) (told : Told) (old new : Group) : Type 0 where
  pub place : ℕ
  pub row : Row
  pub is_first : IsFirst told old.rows.items place row
  pub rows : new.rows.items ≡ slice_set old.rows.items place (counted_again seed row)
  pub others : new.others ≡ old.others

-- it has none, and gets one
pub record GetsRow (seed : ℕ) (run : Finished) (old new : Group) : Type 0 where
  pub none : HasNone run.told old.rows.items (length old.rows.items)
  pub room : length old.rows.items < GROUP_ROWS
  pub rows : new.rows.items ≡ old.rows.items ++ first_row seed run ∷ []
  pub others : new.others ≡ old.others

-- it has none, and none is left
pub record LacksRow (told : Told) (old new : Group) : Type 0 where
  pub none : HasNone told old.rows.items (length old.rows.items)
  pub full : GROUP_ROWS ≤ length old.rows.items
  pub rows : new.rows.items ≡ old.rows.items
  pub others : new.others ≡ one_more old.others

-- the run of one more seed was noted
abbrev pub IsNotedIn : (seed : ℕ) → Finished → (old new : Group) → Type 0
IsNotedIn seed run old new =
    CountsAgain seed run.told old new ⊎ GetsRow seed run old new ⊎ LacksRow run.told old new

-- THOSE OF ALL KINDS

abbrev pub group_of : Kind → Tally → Group
group_of kind.Fault t = t.faults
group_of kind.Deadlock t = t.deadlocks
group_of kind.OtherStatus t = t.other_statuses
group_of kind.NoEnd t = t.no_ends
group_of kind.WaitsForInput t = t.input_waits
group_of kind.ExitZero t = t.exits

abbrev pub with_group : Kind → Group → Tally → Tally
with_group kind.Fault g t = record t { faults = g }
with_group kind.Deadlock g t = record t { deadlocks = g }
with_group kind.OtherStatus g t = record t { other_statuses = g }
with_group kind.NoEnd g t = record t { no_ends = g }
with_group kind.WaitsForInput g t = record t { input_waits = g }
with_group kind.ExitZero g t = record t { exits = g }

-- no run yet
abbrev pub AreEmpty : Tally → Type 0
AreEmpty t = (k : Kind) → IsEmpty (group_of k t)

-- one more run was noted, among those of its kind alone
pub record IsNoted (seed : ℕ) (run : Finished) (old new : Tally) : Type 0 where
  pub group : Group
  pub noted : IsNotedIn seed run (group_of (kind_of run.told.outcome) old) group
  pub is : new ≡ with_group (kind_of run.told.outcome) group old

-- the rows of all kinds, those that harm first
abbrev pub rows_of : Tally → List Row
rows_of t =
    t.faults.rows.items ++ t.deadlocks.rows.items ++ t.other_statuses.rows.items ++ t.no_ends.rows.items
    ++ t.input_waits.rows.items
    ++ t.exits.rows.items

abbrev pub plus : ℕ → ℕ → ℕ
plus a b = min (a + b) 18446744073709551615

-- the runs for whose outcomes there was no row left, as far as 64 bits count
abbrev pub others_of : Tally → ℕ
others_of t =
    plus (plus (plus (plus (plus t.faults.others t.deadlocks.others) t.other_statuses.others) t.no_ends.others) t.input_waits.others) t.exits.others

-- the room for the rows of a tally
pub record IsRoom (o : Outcomes) : Type 0 where
  pub rows : o.rows.items ≡ []
  pub len : vec_len o.rows ≡ 0

-- what was counted
pub record AreOutcomesOf (t : Tally) (o : Outcomes) : Type 0 where
  pub rows : o.rows.items ≡ rows_of t
  pub others : o.others ≡ others_of t

-- what a program is run with: its pages, its harts, and how many steps and events a run has at most
abbrev pub numbers_of : Shape → ℕ × ℕ × ℕ
numbers_of s = (s.pages, s.harts, s.limit)

-- the ranges of pages and harts are those of a disk
abbrev pub shape_of : (pages harts limit : ℕ) → Option (ℕ × ℕ × ℕ)
shape_of pages harts limit =
    if nat_le 16 pages && (nat_le pages 65536 && (nat_le 1 harts && nat_le harts 8)) then Some (pages, harts, limit)
    else None

-- a program that is hunted: how many steps and events a run has at most, the state that each begins with, what it is given to read, and
-- whether outcomes that differ in their output alone are one
pub record Hunted : Type 0 where
  pub limit : ℕ
  pub start : State
  pub input : Input
  pub ignores_output : Bool

-- the plan of a seed
abbrev pub plan_in : Hunted → (seed : ℕ) → Plan
plan_in h seed =
    record (plan_of h.limit seed) { input = h.input; ignores_output = h.ignores_output }

-- a memory and tables have the room for a state, which has a hart at least, and the memory is a copy of the state's but for marked pages
pub record IsRoomFor (s : State) (memory : Memory) (tables : Tables) : Type 0 where
  pub size : length memory.bytes ≡ length s.bytes
  pub copy : IsCopyButMarked s.bytes memory
  pub harts : tables.threads.hart_count ≡ s.tables.threads.hart_count
  pub some : 1 ≤ s.tables.threads.hart_count

-- what a seed comes to, from the beginning of the program
abbrev pub SeedComesTo : Hunted → (seed : ℕ) → Told → Type 0
SeedComesTo h seed told = ComesTo (plan_in h seed) h.start told

-- the same with the whole run
abbrev pub SeedEndsWith : Hunted → (seed : ℕ) → Finished → Type 0
SeedEndsWith h seed run = EndsWith (plan_in h seed) h.start run

-- a tally that grew by a seed out of one of which something was so
pub record Grew (WasSo : Tally → Type 0) (h : Hunted) (seed : ℕ) (tally : Tally) : Type 0 where
  pub before : Tally
  pub was_so : WasSo before
  pub run : Finished
  pub ends : SeedEndsWith h seed run
  pub noted : IsNoted seed run before tally

-- n seeds were noted, from one on: each in its turn, with its run
abbrev pub AreNoted : Hunted → (first n : ℕ) → (old new : Tally) → Type 0
AreNoted h first zero old new = new ≡ old
AreNoted h first (suc n) old new = Grew (AreNoted h first n old) h (first + n) new

-- what all seeds of a range came to: each was noted in its turn, from no outcome on
pub record IsTallyOf (h : Hunted) (seeds : Seeds) (outcomes : Outcomes) : Type 0 where
  pub begun : Tally
  pub nothing : AreEmpty begun
  pub counted : Tally
  pub noted : AreNoted h seeds.first (seeds.last - seeds.first + 1) begun counted
  pub told : AreOutcomesOf counted outcomes

-- the program with this image, as it is run with a shape and an input
abbrev pub hunted_of : (image : List ℕ) → Shape → Input → Hunted
hunted_of image s input = record {
  limit = s.limit;
  start = fresh s.pages s.harts image;
  input = input;
  ignores_output = s.ignores_output;
}

-- the program with this image and this input was hunted as it was asked for: by the first seeds of its range, or by all of them
pub record IsHunted (image : List ℕ) (input : Input) (asked : Asked) (done : HuntDone) : Type 0 where
  pub begins : IsBeginning asked.seeds asked.may_end done.seeds
  pub tally : IsTallyOf (hunted_of image asked.shape input) done.seeds done.outcomes
