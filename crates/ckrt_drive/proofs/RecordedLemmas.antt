-- What an image has recorded of its events, where its bytes change.
use Rattle.std.proofs.Common.{◌≡◌, ◌⊎◌, inl, inr, ⊎_elim, ℕ, ◌+◌, ◌-◌, ◌≤◌, not, Bool, true, false, cond, nat_eq, List, [], ◌++◌, length, take, drop, Result, Ok, Err, refl, sym, ◌∙◌, ap, subst, arith, append_assoc}
use Rattle.std.proofs.lemmas.Bool.Decides.{nat_tests}
use Rattle.std.proofs.lemmas.List.{append-nil}
use Rattle.std.proofs.lemmas.Grind.{flat_map-append}
use Rattle.ckrt_disk.specs.Disk.{IsWithin}
use Rattle.ckrt_disk.specs.Frame.{IsSameOutside}
use Rattle.ckrt_disk.specs.Lists.{IsBeginningOf}
use Rattle.ckrt_disk.proofs.Images.{part_same}
use Rattle.ckrt_events.specs.declared.event.Event.{Event}
use Rattle.ckrt_events.specs.Bytes.{events_in}
use Rattle.ckrt_journal.specs.Append.{HasAppended, IsInJournal, MayHaveAppended}
use Rattle.ckrt_journal.specs.Chain.{batches_of, gate_behind, journal_bytes}
use Rattle.ckrt_journal.specs.declared.fault.JournalFault.{JournalFault}
use Rattle.ckrt_journal.specs.declared.journal.Journal.{Journal}
use Rattle.ckrt_machine.specs.Events.{fold}
use Rattle.ckrt_machine.specs.Steps.{State}
use Rattle.ckrt_stored.specs.declared.area.Area.{Area}
use Rattle.ckrt_stored.specs.declared.area_fault.AreaFault.{AreaFault}
use Rattle.ckrt_stored.specs.declared.area_fault.AreaFault.TheVariants.{Damaged, Version}
use Rattle.ckrt_stored.specs.declared.config.Config.{Config}
use Rattle.ckrt_stored.specs.declared.header.Header.{Header}
use Rattle.ckrt_stored.specs.declared.progress.Progress.{Progress}
use Rattle.ckrt_stored.specs.Areas.{checked_area, is_in_range, is_known_version}
use Rattle.ckrt_stored.specs.Frame.{BelongsTo, IsSpare, in_other_area}
use Rattle.ckrt_stored.specs.Layout.{area_at, area_size, header_in, header_of, journal_at, journal_of, memory_at, memory_of, memory_size, tables_at, tables_of}
use Rattle.ckrt_stored.specs.Programs.{Program, formatted, state_after}
use Rattle.ckrt_stored.specs.Progress.{IsBehind, IsOtherLeft, recovered_of}
use Rattle.ckrt_stored.specs.Recorded.{BeginsRecorded, HasRecorded, HasRecordedIn, IsOlder, IsWrittenWith, RecordedAsRecovered}
use Rattle.ckrt_stored.specs.Recovery.{Recovered, Recovers, events_of_batches, in_use}
use Rattle.ckrt_stored.specs.Write.{WritesAt}
use Rattle.ckrt_stored.proofs.AreaLemmas.{is_in_use}
use Rattle.ckrt_stored.proofs.GrowthLemmas.{area_0_or_1, journal_spared, kept_area, spare_free, uses}
use Rattle.ckrt_stored.proofs.PickLemmas.{area_end}
use Rattle.ckrt_stored.proofs.RecoverLemmas.{HasSameArea, IsKnown, found, known, same_found}
use Rattle.ckrt_drive.proofs.FedLemmas.{area_of, counted, counted_all, no_batches, one_of_two, used_is, with_any, with_more}

-- AN AREA THAT A RECOVERY TAKES

passed : (a b c : Bool) (x y : Area) → ◌≡◌ {A = Result Area AreaFault} (cond a (Err Damaged) (cond b (Err Version) (cond c (Ok x) (Err Damaged)))) (Ok y) → (a ≡ false) × (c ≡ true)
passed true b c x y e = absurd (cc)
passed false true c x y e = absurd (cc)
passed false false true x y e = (refl, refl)
passed false false false x y e = absurd (cc)

-- its tables have room there, and its generation is one at least
pub taken : (area : Area) → checked_area area ≡ Ok area → (area.header.tables ≤ 98304) × (1 ≤ area.header.generation)
taken area is =
    let p = passed (nat_eq area.header.generation 0) (not (is_known_version area.header.version)) (is_in_range area.header) area area is in
    (grind (arith, nat_tests, p.1), grind (arith, nat_tests, p.0))

-- ONE AREA

-- an area and its journal lie outside a region
abbrev pub IsApart : Config → ℕ → (ℕ → Type 0) → Type 0
IsApart c index region = (i : ℕ) → BelongsTo c index i → ¬ region i

-- with the same tables and the same memory it was written with the same
pub written_same : (c : Config) (area : Area) (before image : List ℕ) (s : State) → tables_of c area image ≡ tables_of c area before → memory_of c area.index image ≡ memory_of c area.index before
    → IsWrittenWith c area before s → IsWrittenWith c area image s
written_same c area before image s tables memory is = record {
  saved = is.saved;
  decodes = rw tables is.decodes;
  in_range = is.in_range;
  state = is.state ∙ ap (λ (m : List ℕ). record { bytes = m; tables = is.saved.tables }) (sym memory);
}

-- an area outside the bytes that change
module _ (c : Config) (before image : List ℕ) (region : ℕ → Type 0) (same : IsSameOutside region before image) where
  part : (n at : ℕ) → ((i : ℕ) → IsWithin at n i → ¬ region i) → take n (drop at image) ≡ take n (drop at before)
  part n at out = part_same n at image before same.size (λ i w. same.same i (out i w))

  header_stays : (index : ℕ) → IsApart c index region → header_of c index image ≡ header_of c index before
  header_stays index apart = ap header_in (part 40 (area_at c index) (λ i w. apart i (inl (w.0, omega (arith, w.1)))))

  -- it has recorded the same
  recorded_stays : (p : Program) (events : List Event) (area : Area) → area.header.tables ≤ 98304 → IsApart c area.index region → HasRecordedIn p events c area before → HasRecordedIn p events c area image
  recorded_stays p events area few apart is = record {
    saved = is.saved;
    count = is.count;
    written = written_same c area before image (state_after p is.saved)
        (part area.header.tables (tables_at c area.index) (λ i w. apart i (inl (omega (arith, w.0), omega (arith, w.1, few)))))
        (part (memory_size c) (memory_at c area.index) (λ i w. apart i (inl (omega (arith, w.0), omega (arith, w.0, w.1))))) is.written;
    batches = is.batches;
    chain = ap (λ (l : List ℕ). batches_of area.header.version l) (part c.journal (journal_at c area.index) (λ i w. apart i (inr w))) ∙ is.chain;
    all = is.all;
  }

-- BOTH AREAS

-- what the area beside has, where it was written right before this one: a beginning of the events that this one was written behind
abbrev pub Older : Program → (saved : List Event) → Config → Area → List ℕ → Type 0
Older p saved c area image = (other : Area) → IsOlder c area image other → (front : List Event) × IsBeginningOf front saved × HasRecordedIn p front c other image

-- it stays so outside the bytes that change
older_stays : (p : Program) (saved : List Event) (c : Config) (area : Area) (before image : List ℕ) (region : ℕ → Type 0) → IsSameOutside region before image → IsApart c (1 - area.index) region
    → Older p saved c area before → Older p saved c area image
older_stays p saved c area before image region same apart older other is =
    let header = header_stays c before image region same (1 - area.index) apart in
    let there : IsOlder c area before other = record { is = is.is ∙ ap (λ (h : Header). record { index = 1 - area.index; header = h }) header; sound = is.sound } in
    let apart_there : IsApart c other.index region = subst (λ n. IsApart c n region) (sym (ap (λ (a : Area). a.index) is.is)) apart in
    let had = older other there in
    (had.0, had.1, recorded_stays c before image region same p had.0 other (taken other is.sound.checked).0 apart_there had.2)

-- both, of an area in use
abbrev pub Both : Program → List Event → Config → Area → List ℕ → Type 0
Both p events c area image = (newer : HasRecordedIn p events c area image) × Older p newer.saved c area image

pub both_of : (p : Program) (events : List Event) (image : List ℕ) (c : Config) (area : Area) → HasRecorded p events image → in_use image ≡ found c area → Both p events c area image
both_of p events image c area is used = subst (λ (u : Config × Area). Both p events u.0 u.1 image) (same_found is.config c is.area area (sym is.used ∙ used)) (is.newer, is.older)

pub other_of_two : (index : ℕ) → (index ≡ 0) ⊎ (index ≡ 1) → (1 - index ≡ 0) ⊎ (1 - index ≡ 1)
other_of_two index which = ⊎_elim (λ is. inr (omega (arith, is))) (λ is. inl (omega (arith, is))) which

-- what is known of an image that recovers, and has recorded events
module _ (p : Program) (events : List Event) (image : List ℕ) (r : Recovered) (recovers : Recovers image (Ok r)) (is : HasRecorded p events image) where
  both : Both p events r.config (area_of r image) image
  both = both_of p events image r.config (area_of r image) is (used_is image r recovers)

  room : (area_of r image).header.tables ≤ 98304
  room = (taken (area_of r image) (is_in_use r.config image (area_of r image) (uses r.config (area_of r image) image (used_is image r recovers)).area).checked).0

-- its generation is that of the area in use
generation_is : (image : List ℕ) (r : Recovered) → Recovers image (Ok r) → (area_of r image).header.generation ≡ r.generation
generation_is image r recovers =
    let was = known image r recovers in
    let same = same_found r.config was.config (area_of r image) was.area (sym (used_is image r recovers) ∙ was.used) in
    ap (λ (u : Config × Area). u.1.header.generation) same ∙ ap (λ (x : Recovered). x.generation) was.is_replayed

-- BYTES OUTSIDE BOTH AREAS

-- bytes change outside both areas and their journals, and the image recovers as before
pub apart_recorded : (p : Program) (events : List Event) (before image : List ℕ) (r : Recovered) (region : ℕ → Type 0) → Recovers before (Ok r) → Recovers image (Ok r) → IsSameOutside region before image
    → IsApart r.config r.area region → IsApart r.config (1 - r.area) region → HasRecorded p events before → HasRecorded p events image
unfolding recorded_stays both
apart_recorded p events before image r region recovers still same apart other is =
    let had = both p events before r recovers is in
    let header : header_of r.config r.area image ≡ header_of r.config r.area before = header_stays r.config before image region same r.area apart in
    record {
      config = r.config;
      area = area_of r before;
      used = used_is image r still ∙ ap (λ (h : Header). found r.config (record { index = r.area; header = h })) header;
      newer = recorded_stays r.config before image region same p events (area_of r before) (room p events before r recovers is) apart had.0;
      older = older_stays p had.0.saved r.config (area_of r before) before image region same other had.1;
    }

spared : (c : Config) (index : ℕ) → (index ≡ 0) ⊎ (index ≡ 1) → IsApart c index (IsSpare c)
spared c index which i belongs spare = ⊎_elim (λ (w : IsWithin (area_at c index) (area_size c) i). omega (arith, w.1, spare, area_end c index which)) (λ w. journal_spared c index which i w spare) belongs

-- bytes change behind those that the format has
pub spared_recorded : (p : Program) (events : List Event) (before image : List ℕ) (r : Recovered) → Recovers before (Ok r) → IsSameOutside (IsSpare r.config) before image → HasRecorded p events before → HasRecorded p events image
spared_recorded p events before image r recovers same is =
    let which = one_of_two before r recovers in
    apart_recorded p events before image r (IsSpare r.config) recovers (spare_free before image r recovers same) same (spared r.config r.area which) (spared r.config (1 - r.area) (other_of_two r.area which)) is

-- A JOURNAL THAT CHANGES

module _ (p : Program) (events : List Event) (before image : List ℕ) (r : Recovered) (recovers : Recovers before (Ok r)) (same : IsSameOutside (IsInJournal r.journal) before image) (is : HasRecorded p events before) where
  abbrev old : IsKnown before r
  old = known before r recovers

  kept : HasSameArea old.config old.area before image
  kept = kept_area before image r recovers same

  had : Both p events old.config old.area before
  had = both_of p events before old.config old.area is old.used

  batches : had.0.batches ≡ old.batches
  batches = let e : ◌≡◌ {A = Result (List (List ℕ)) JournalFault} (Ok had.0.batches) (Ok old.batches) = sym had.0.chain ∙ old.chain in cc

  journal : r.journal ≡ record (journal_of old.config old.area.index old.area.header.version) { next_gate = 0 + gate_behind old.batches }
  journal = ap (λ (x : Recovered). x.journal) (sym old.is_replayed)

  -- the other area and its journal lie outside this journal
  apart : IsApart old.config (1 - old.area.index) (IsInJournal r.journal)
  apart i belongs w =
      (area_0_or_1 old.config old.area.index (1 - old.area.index) (is_in_use old.config before old.area (uses old.config old.area before old.used).area).index refl i belongs).2
      (subst (λ (j : Journal). IsInJournal j i) journal w)

  -- with some batches more
  grown_recorded : (more : List (List ℕ)) → batches_of r.journal.version (journal_bytes r.journal image) ≡ Ok (old.batches ++ more) → HasRecorded p (events ++ events_of_batches more) image
  grown_recorded more chain = record {
    config = old.config;
    area = old.area;
    used = kept.used;
    newer = record {
      saved = had.0.saved;
      count = had.0.count;
      written = written_same old.config old.area before image (state_after p had.0.saved) kept.tables kept.memory had.0.written;
      batches = old.batches ++ more;
      chain = ap (λ (j : Journal). batches_of j.version (journal_bytes j image)) (sym journal) ∙ chain;
      all = ap (λ (es : List Event). es ++ events_of_batches more) (had.0.all ∙ ap (λ (l : List (List ℕ)). had.0.saved ++ events_of_batches l) batches)
          ∙ append_assoc had.0.saved (events_of_batches old.batches) (events_of_batches more)
          ∙ ap (λ (es : List Event). had.0.saved ++ es) (sym (flat_map-append events_in old.batches more));
    };
    older = older_stays p had.0.saved old.config old.area before image (IsInJournal r.journal) same apart had.1;
  }

-- the journal in use may have got a batch
pub appending_recorded : (p : Program) (events : List Event) (before image : List ℕ) (r : Recovered) (batch : List ℕ) → Recovers before (Ok r) → HasRecorded p events before → MayHaveAppended r.journal batch before image
    → HasRecorded p events image ⊎ HasRecorded p (events ++ events_in batch) image
appending_recorded p events before image r batch recovers is may =
    with_any (λ (es : List Event). HasRecorded p es image) events before image r recovers batch (grown_recorded p events before image r recovers may.outside is) may

-- and has it, where the append went well
pub appended_recorded : (p : Program) (events : List Event) (before image : List ℕ) (r : Recovered) (batch : List ℕ) → Recovers before (Ok r) → HasRecorded p events before → HasAppended r.journal batch before image
    → HasRecorded p (events ++ events_in batch) image
appended_recorded p events before image r batch recovers is has =
    with_more (λ (es : List Event). HasRecorded p es image) events before image r recovers batch (grown_recorded p events before image r recovers has.outside is) has

-- A SAVE

-- the area in use lies outside the other one
not_other : (c : Config) (index : ℕ) → (index ≡ 0) ⊎ (index ≡ 1) → IsApart c index (BelongsTo c (1 - index))
not_other c index which i belongs other =
    let out = area_0_or_1 c index (1 - index) which refl i other in
    ⊎_elim (λ w. out.1 w) (λ w. out.2 w) belongs

-- what a save writes belongs to an area
pub written_belongs : (q : Progress) (index i : ℕ) → WritesAt q.config index i → BelongsTo q.config index i
written_belongs q index i w =
    let valid = q.valid in
    let some : 1 ≤ q.config.journal = grind (arith, nat_tests, valid) in
    ⊎_elim (λ gate. inl (gate.0, omega (arith, gate.1)))
    (λ fill. ⊎_elim (λ inside. inl (omega (arith, inside.0), omega (arith, inside.0, inside.1))) (λ first. inr (first.0, omega (arith, first.1, some))) fill) w

module _ (p : Program) (events : List Event) (q : Progress) (before image : List ℕ) (r : Recovered) (behind : IsBehind q before r) (same : IsSameOutside (WritesAt q.config (1 - q.area)) before image) (is : HasRecorded p events before) where
  abbrev written : ℕ → Type 0
  written = WritesAt q.config (1 - q.area)

  -- the area that was in use lies outside what is written
  untouched : IsApart r.config r.area written
  untouched i belongs w =
      let pair : ◌≡◌ {A = Config × ℕ} (q.config, 1 - q.area) (r.config, 1 - r.area) = let c = behind.config in let a = behind.area in cc in
      not_other r.config r.area (one_of_two before r behind.recovers) i belongs (subst (λ (u : Config × ℕ). BelongsTo u.0 u.1 i) pair (written_belongs q (1 - q.area) i w))

  header_kept : header_of r.config r.area image ≡ header_of r.config r.area before
  header_kept = header_stays r.config before image written same r.area untouched

  area_kept : area_of r image ≡ area_of r before
  area_kept = ap (λ (h : Header). record { index = r.area; header = h }) header_kept

  -- so it is the one beside that one
  beside : (c : Config) (index : ℕ) → c ≡ r.config → 1 - index ≡ r.area → record { index = 1 - index; header = header_of c (1 - index) image } ≡ area_of r before
  beside c index config back =
      ap (λ d. record { index = 1 - index; header = header_of d (1 - index) image }) config ∙ ap (λ i. record { index = i; header = header_of r.config i image }) back ∙ area_kept

  before_both : Both p events r.config (area_of r before) before
  before_both = both p events before r behind.recovers is

  -- it has recorded the same
  newer_kept : HasRecordedIn p events r.config (area_of r before) image
  newer_kept = recorded_stays r.config before image written same p events (area_of r before) (room p events before r behind.recovers is) untouched before_both.0

  module _ (still : Recovers image (Ok r)) where
    -- where no area was written right before it
    alone : ((other : Area) → IsOlder r.config (area_of r before) image other → ⊥) → HasRecorded p events image
    alone none = record {
      config = r.config;
      area = area_of r before;
      used = used_is image r still ∙ ap (found r.config) area_kept;
      newer = newer_kept;
      older = λ other older. absurd (none other older);
    }

    other_header : (other : Area) → IsOlder r.config (area_of r before) image other → other.header ≡ header_of q.config (1 - q.area) image
    other_header other older =
        ap (λ (a : Area). a.header) older.is ∙ ap (λ c. header_of c (1 - r.area) image) behind.config ∙ ap (λ n. header_of q.config (1 - n) image) behind.area

    closed : (header_of q.config (1 - q.area) image).is_open ≡ false → (other : Area) → IsOlder r.config (area_of r before) image other → ⊥
    closed shut other older = let no : true ≡ false = sym older.sound.opened ∙ ap (λ (h : Header). h.is_open) (other_header other older) ∙ shut in absurd (cc)

    later : (header_of q.config (1 - q.area) image).generation ≡ q.generation + 1 → (other : Area) → IsOlder r.config (area_of r before) image other → ⊥
    later one_more other older =
        let there : other.header.generation ≡ q.generation + 1 = ap (λ (h : Header). h.generation) (other_header other older) ∙ one_more in
        omega (arith, there, older.sound.generation_before, generation_is before r behind.recovers, behind.generation)

    unsaved : IsOtherLeft q before image → HasRecorded p events image
    unsaved left = ⊎_elim (λ shut. alone (closed shut)) (λ more. ⊎_elim (λ as_before. subst (HasRecorded p events) (sym as_before) is) (λ one_more. alone (later one_more)) more) left

-- a save: the image recovers as before
pub unsaved_recorded : (p : Program) (events : List Event) (q : Progress) (before image : List ℕ) (r : Recovered) → IsBehind q before r → Recovers image (Ok r)
    → IsSameOutside (WritesAt q.config (1 - q.area)) before image → IsOtherLeft q before image → HasRecorded p events before → HasRecorded p events image
unsaved_recorded p events q before image r behind still same left is = unsaved p events q before image r behind same is still left

-- AN AREA THAT WAS JUST WRITTEN

module _ (p : Program) (events : List Event) (image : List ℕ) (r : Recovered) (recovers : Recovers image (Ok r)) (start : r.journal.next_gate ≡ 0) (number : r.count ≡ length events) (state : r.state ≡ state_after p events) where
  abbrev now : IsKnown image r
  now = known image r recovers

  none : now.batches ≡ []
  none = no_batches image r recovers start events number

  -- its events are those that it was written behind
  fresh_recorded : HasRecordedIn p events now.config now.area image
  fresh_recorded =
      let replayed : (fold (events_of_batches now.batches) (record { bytes = memory_of now.config now.area.index image; tables = now.saved.tables })).state ≡ r.state = ap (λ (x : Recovered). x.state) now.is_replayed in
      record {
        saved = events;
        count = counted image r recovers start events number;
        written = record {
          saved = now.saved;
          decodes = now.decodes;
          in_range = now.in_range;
          state = sym state ∙ sym replayed ∙ ap (λ (l : List (List ℕ)). (fold (events_of_batches l) (record { bytes = memory_of now.config now.area.index image; tables = now.saved.tables })).state) none;
        };
        batches = now.batches;
        chain = now.chain;
        all = sym (ap (λ (l : List (List ℕ)). events ++ events_of_batches l) none ∙ append-nil events);
      }

-- or to the program as it is now, whose events go on from those
pub saved_recorded : (p : Program) (events all : List Event) (q : Progress) (before image : List ℕ) (r : Recovered) → IsBehind q before r → Recovers image (Ok (in_other_area (recovered_of q)))
    → IsSameOutside (WritesAt q.config (1 - q.area)) before image → IsBeginningOf events all → q.count ≡ length all → q.machine.state ≡ state_after p all → HasRecorded p events before → HasRecorded p all image
unfolding fresh_recorded
saved_recorded p events all q before image r behind recovers same beginning number state is =
    let n : Recovered = in_other_area (recovered_of q) in
    let now = known image n recovers in
    let config : now.config ≡ r.config = ap (λ (x : Recovered). x.config) now.is_replayed ∙ sym behind.config in
    let index : now.area.index ≡ 1 - q.area = ap (λ (x : Recovered). x.area) now.is_replayed in
    let one = q.one_area in
    let back : 1 - now.area.index ≡ r.area = omega (arith, index, one, behind.area) in
    record {
      config = now.config;
      area = now.area;
      used = now.used;
      newer = fresh_recorded p all image n recovers refl number state;
      older = λ other older.
          let there : other ≡ area_of r before = older.is ∙ beside p events q before image r behind same is now.config now.area.index config back in
          let pair : ◌≡◌ {A = Config × Area} (r.config, area_of r before) (now.config, other) = cc in
          (events, beginning, subst (λ (u : Config × Area). HasRecordedIn p events u.0 u.1 image) pair (newer_kept p events q before image r behind same is));
    }

-- LAWS

-- a freshly formatted disk has recorded that there is no event
pub begins_recorded : BeginsRecorded
begins_recorded p image recovers =
    let now = known image (formatted p) recovers in
    let generation : now.area.header.generation ≡ 1 = ap (λ (x : Recovered). x.generation) now.is_replayed in
    record {
      config = now.config;
      area = now.area;
      used = now.used;
      newer = fresh_recorded p [] image (formatted p) recovers refl refl refl;
      older = λ other older. absurd (omega (arith, generation, older.sound.generation_before, (taken other older.sound.checked).1));
    }

-- what an image has recorded are as many events as it recovers to
pub recorded_as_recovered : RecordedAsRecovered
recorded_as_recovered p xs ys limit image to is =
    sym to.has_events.count ∙ counted_all image to.recovered to.recovers is.config is.area is.newer.saved ys is.newer.batches is.used is.newer.count is.newer.chain is.newer.all
