-- What is kept, with other disks for a path.
use Rattle.std.proofs.Common.{◌≡◌, ◌⊎◌, ℕ, zero, suc, Bool, true, false, List, length, Result, Ok, Err, inl, inr, subst, sym}
use Rattle.ckrt_disk.specs.declared.disk.Disk.{Ghosts}
use Rattle.ckrt_hunt_schedules.specs.Table.{is_closer}
use Rattle.ckrt_hunt_looks.specs.declared.telling.HuntTold.{HuntTold}
use Rattle.ckrt_hunt_schedules.specs.declared.telling.HuntFault.{HuntFault}
use Rattle.ckrt_cli_files.specs.Openings.{Openings, opened, with_making}
use Rattle.ckrt_cli_reports.specs.declared.fault.JobFault.{JobFault}
use Rattle.ckrt_stored.specs.declared.config.Config.{Config}
use Rattle.ckrt_hunt_schedules.specs.Tallies.{Hunted, hunted_of}
use Rattle.ckrt_hunt_schedules.specs.declared.plan.Input.{Input}
use Rattle.ckrt_hunt_schedules.specs.declared.table.Asked.{Asked}
use Rattle.ckrt_hunt_schedules.specs.declared.verdict.Verdict.{Verdict}
use Rattle.ckrt_cli.specs.Hunting.{AreKept, EndsHunt, Folder, Hunter, KeepsAt, KeepsEach, KeepsFound, KeptIfShown, KeptNext, KeptOneMore, LacksPath, NamesRow, Place, Reached, StopsAtRow, config_of, in_folder, is_kept, nowhere, on_disk, place_of, sought_by, wanted_of}
use Rattle.ckrt_cli.specs.Keeping.{Keeping, Keeps, KeepsOn}

-- all disks that one may have the other may have
pub keeps_on_weaker : {D : Type 0} (d : Ghosts D) (it : Keeping D) (Fills : D → Type 0) (asked new : Openings D) (result : Result (Unit {0}) JobFault)
    → ((disk : D) → it.Fills disk → Fills disk) → KeepsOn d it asked new result → KeepsOn d (record it { Fills = Fills }) asked new result
keeps_on_weaker d it Fills asked new result more k = record {
  start = k.start;
  is_made = more k.start k.is_made;
  kept = k.kept;
  keeps = k.keeps;
  same = k.same;
  ends = k.ends;
}

pub keeps_weaker : {D : Type 0} (d : Ghosts D) (it : Keeping D) (Fills : D → Type 0) (old new : Openings D) (result : Result (Unit {0}) JobFault)
    → ((disk : D) → it.Fills disk → Fills disk) → Keeps d it old new result → Keeps d (record it { Fills = Fills }) old new result
keeps_weaker d it Fills old new result more (inl lacks) = inl lacks
keeps_weaker d it Fills old new result more (inr k) = inr (keeps_on_weaker d it Fills _ new result more k)

-- a disk was made for the path
pub keeps_made : {D : Type 0} (d : Ghosts D) (it : Keeping D) (Fills : D → Type 0) (old asked new : Openings D) (result : Result (Unit {0}) JobFault)
    → asked ≡ with_making old (opened it.path) → ((disk : D) → it.Fills disk → Fills disk) → KeepsOn d it asked new result → Keeps d (record it { Fills = Fills }) old new result
keeps_made d it Fills old asked new result is more k =
    inr (subst (λ x. KeepsOn d (record it { Fills = Fills }) x new result) is (keeps_on_weaker d it Fills asked new result more k))

-- A HUNT OF AN IMAGE, WITH OTHER DISKS FOR A PATH

module _ {D : Type 0} (d : Ghosts D) (h : Hunted) (seed : ℕ) (as_drawn : Bool) (config : Config) (guest : List ℕ) (Fills More : List ℕ → D → Type 0) where
  pub found_weaker : (path : List ℕ) (old new : Reached D) (result : Result (Unit {0}) JobFault) → ((at : List ℕ) (disk : D) → Fills at disk → More at disk)
      → KeepsFound d (sought_by h seed as_drawn config guest Fills) path old new result → KeepsFound d (sought_by h seed as_drawn config guest More) path old new result
  found_weaker path old new result more k = record {
    chosen = k.chosen;
    is_chosen = k.is_chosen;
    drawn = k.drawn;
    kept = k.kept;
    keeps = keeps_weaker d ((sought_by h seed as_drawn config guest Fills).keeping k.chosen.found.plan path) (More path) old.openings new.openings k.kept (more path) k.keeps;
    tells = k.tells;
  }

  -- the next outcome: nothing is said of which disks may be made for it
  next_same : (shown : Bool) (folder : Folder) (n : ℕ) (Was Is : Reached D → Type 0) (new : Reached D) → ((r : Reached D) → Was r → Is r)
      → KeptNext shown (λ W a. KeptOneMore d (sought_by h seed as_drawn config guest Fills) folder n W a) Was new → KeptNext shown (λ W a. KeptOneMore d (sought_by h seed as_drawn config guest More) folder n W a) Is new
  next_same true folder n Was Is new more k = record {
    before = k.before;
    was_so = more k.before k.was_so;
    row = k.row;
    is_row = k.is_row;
    keeps = k.keeps;
  }
  next_same false folder n Was Is new more k = more new k

  pub are_same : (folder : Folder) (n : ℕ) (old new : Reached D) → AreKept d (sought_by h seed as_drawn config guest Fills) folder n old new → AreKept d (sought_by h seed as_drawn config guest More) folder n old new
  are_same folder zero old new k = k
  are_same folder (suc n) old new k =
      next_same (is_kept folder n) folder n (AreKept d (sought_by h seed as_drawn config guest Fills) folder n old) (AreKept d (sought_by h seed as_drawn config guest More) folder n old) new (are_same folder n old) k

  -- one outcome more, which was kept with other disks
  pub kept_on : (folder : Folder) (n m : ℕ) (old mid new : Reached D) → m ≡ suc n → AreKept d (sought_by h seed as_drawn config guest More) folder n old mid
      → KeptIfShown d (sought_by h seed as_drawn config guest Fills) folder n (λ r. r ≡ mid) new → AreKept d (sought_by h seed as_drawn config guest More) folder m old new
  kept_on folder n m old mid new e a k =
      let on : AreKept d (sought_by h seed as_drawn config guest More) folder (suc n) old new = next_same (is_kept folder n) folder n (λ r. r ≡ mid) (AreKept d (sought_by h seed as_drawn config guest More) folder n old) new (λ r is. subst (λ x. AreKept d (sought_by h seed as_drawn config guest More) folder n old x) (sym is) a) k in
      subst (λ j. AreKept d (sought_by h seed as_drawn config guest More) folder j old new) (sym e) on

  stops_same : (folder : Folder) (place : ℕ) (before new : Reached D) (result : Result (Unit {0}) JobFault)
      → LacksPath before new result ⊎ ((named : NamesRow d (sought_by h seed as_drawn config guest Fills) folder place before new) × (named.result ≡ result))
      → LacksPath before new result ⊎ ((named : NamesRow d (sought_by h seed as_drawn config guest More) folder place before new) × (named.result ≡ result))
  stops_same folder place before new result (inl lacks) = inl lacks
  stops_same folder place before new result (inr (named, is)) = inr (
    record {
      failed = named.failed;
      row = named.row;
      is_row = named.is_row;
      why = named.why;
      fails = named.fails;
      result = named.result;
      unasked = named.unasked;
      tells = named.tells;
    },
    is,
  )

  -- an outcome that isn't kept ends it
  pub stopped : (folder : Folder) (place : ℕ) (old before new : Reached D) (result : Result (Unit {0}) JobFault) → AreKept d (sought_by h seed as_drawn config guest More) folder place old before
      → LacksPath before new result ⊎ ((named : NamesRow d (sought_by h seed as_drawn config guest Fills) folder place before new) × (named.result ≡ result))
      → StopsAtRow d (sought_by h seed as_drawn config guest More) folder old new result
  stopped folder place old before new result a s = record {
    place = place;
    before = before;
    kept = a;
    stops = stops_same folder place before new result s;
  }

  each_same : (folder : Folder) (old new : Reached D) (result : Result (Unit {0}) JobFault) → KeepsEach d (sought_by h seed as_drawn config guest Fills) folder old new result → KeepsEach d (sought_by h seed as_drawn config guest More) folder old new result
  each_same folder old new result (inl (is, a)) = inl (is, are_same folder (length folder.rows) old new a)
  each_same folder old new result (inr s) = inr (stopped folder s.place old s.before new result (are_same folder s.place old s.before s.kept) s.stops)

  pub at_weaker : (place : Place) (old new : Reached D) (result : Result (Unit {0}) JobFault) → ((at : List ℕ) (disk : D) → Fills at disk → More at disk)
      → KeepsAt d (sought_by h seed as_drawn config guest Fills) old new result place → KeepsAt d (sought_by h seed as_drawn config guest More) old new result place
  at_weaker nowhere old new result more k = k
  at_weaker (on_disk path) old new result more (inl lacks) = inl lacks
  at_weaker (on_disk path) old new result more (inr k) = inr (found_weaker path old new result more k)
  at_weaker (in_folder folder) old new result more (inl lacks) = inl lacks
  at_weaker (in_folder folder) old new result more (inr k) = inr (each_same folder old new result k)

pub ends_weaker : {D : Type 0} (d : Ghosts D) (it : Hunter D) (More : List ℕ → D → Type 0) (guest : List ℕ) (input : Input) (asked : Asked) (old new : Reached D) (told : Result HuntTold HuntFault) (result : Result Verdict JobFault)
    → ((at : List ℕ) (disk : D) → it.Fills at disk → More at disk) → EndsHunt d (wanted_of it guest input asked) old new told result → EndsHunt d (wanted_of (record it { Fills = More }) guest input asked) old new told result
ends_weaker d it More guest input asked old new (Ok told) result more e = record {
  kept = e.kept;
  keeps = at_weaker d (hunted_of guest asked.shape input) asked.seeds.first (is_closer asked.look) (config_of it.asked) guest it.Fills More (place_of it.asked.keep asked.all_rows told.done.outcomes.rows.items) old new e.kept more e.keeps;
  gives = e.gives;
}
ends_weaker d it More guest input asked old new (Err f) result more e = e
