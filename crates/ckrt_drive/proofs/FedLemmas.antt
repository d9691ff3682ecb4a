-- What an image keeps of the input, where its bytes change.
use Rattle.std.proofs.Common.{◌≡◌, ◌⊎◌, inl, inr, ⊎_elim, ℕ, ◌+◌, ◌&&◌, Bool, true, false, nat_eq, if◌then◌else◌, List, [], ◌∷◌, ◌++◌, length, take, drop, Option, Some, Result, Ok, refl, sym, ◌∙◌, ap, subst, arith, append_assoc, length-append}
use Rattle.std.proofs.lemmas.Bool.Decides.{nat_tests}
use Rattle.std.proofs.lemmas.List.{append-nil}
use Rattle.std.proofs.lemmas.Grind.{flat_map-append}
use Rattle.ckrt_disk.specs.Disk.{IsWithin}
use Rattle.ckrt_disk.specs.Frame.{IsSameOutside}
use Rattle.ckrt_disk.proofs.Images.{part_same}
use Rattle.ckrt_events.specs.declared.event.Event.{Event}
use Rattle.ckrt_events.specs.Bytes.{events_in}
use Rattle.ckrt_journal.specs.Append.{HasChain, IsInJournal, MayHaveAppended, HasAppended, after_batch}
use Rattle.ckrt_journal.specs.Chain.{batches_of, gate_behind, journal_bytes}
use Rattle.ckrt_journal.specs.declared.fault.JournalFault.{JournalFault}
use Rattle.ckrt_journal.specs.declared.journal.Journal.{Journal}
use Rattle.ckrt_stored.specs.declared.area.Area.{Area}
use Rattle.ckrt_stored.specs.declared.config.Config.{Config}
use Rattle.ckrt_stored.specs.declared.header.Header.{Header}
use Rattle.ckrt_stored.specs.Layout.{area_at, header_in, header_of, journal_at, journal_of}
use Rattle.ckrt_stored.specs.declared.fault.RecoverFault.{RecoverFault}
use Rattle.ckrt_stored.specs.Programs.{formatted}
use Rattle.ckrt_stored.specs.Recovery.{◌>>=◌, Recovered, Recovers, events_of_batches, in_use}
use Rattle.ckrt_stored.proofs.AreaLemmas.{IsInUse, is_in_use}
use Rattle.ckrt_stored.proofs.RecoverLemmas.{IsKnown, found, known, same_found}
use Rattle.ckrt_stored.proofs.GrowthLemmas.{had_chain, kept_area, uses}
use Rattle.ckrt_schedule.specs.Taken.{bytes_of, input_of, taken_by}
use Rattle.ckrt_drive.specs.declared.slot.Slot.{Slot}
use Rattle.ckrt_drive.specs.Slot.{slot_at, slot_of}
use Rattle.ckrt_drive.specs.Offset.{is_first, journaled, recorded_in, saved_offset, taken_in, with_saved}
use Rattle.ckrt_drive.specs.Fed.{BeginsFed, FedAsRecovered, IsFed, IsFedIn, TellsOffset}
use Rattle.ckrt_drive.proofs.SlotLemmas.{slot_stays}

-- WHAT EVENTS TOOK

pub taken-append : (xs ys : List Event) → taken_by (xs ++ ys) ≡ taken_by xs + taken_by ys
taken-append xs ys = ap length (flat_map-append bytes_of xs ys) ∙ length-append (input_of xs) (input_of ys)

-- THE AREA IN USE

-- that of an image that recovers: the one at its index, by the header that stands there
abbrev pub area_of : Recovered → List ℕ → Area
area_of r image = record { index = r.area; header = header_of r.config r.area image }

module _ (image : List ℕ) (r : Recovered) (recovers : Recovers image (Ok r)) where
  was : IsKnown image r
  was = known image r recovers

  there : IsInUse was.config was.area image
  there = is_in_use was.config image was.area (uses was.config was.area image was.used).area

  config : was.config ≡ r.config
  config = ap (λ (x : Recovered). x.config) was.is_replayed

  index : was.area.index ≡ r.area
  index = ap (λ (x : Recovered). x.area) was.is_replayed

  pub one_of_two : (r.area ≡ 0) ⊎ (r.area ≡ 1)
  one_of_two = subst (λ n. (n ≡ 0) ⊎ (n ≡ 1)) index there.index

  header : was.area.header ≡ header_of r.config r.area image
  header = sym there.header ∙ ap (λ (c : Config). header_of c was.area.index image) config ∙ ap (λ i. header_of r.config i image) index

  pub used_is : in_use image ≡ found r.config (area_of r image)
  used_is =
      was.used ∙ ap (λ (c : Config). found c was.area) config ∙ ap (λ i. found r.config (record { index = i; header = was.area.header })) index
      ∙ ap (λ (h : Header). found r.config (record { index = r.area; header = h })) header

  -- what it keeps, of that area
  pub fed_there : (events : List Event) → IsFed events image → IsFedIn events r.config (area_of r image) image
  fed_there events is = subst (λ (u : Config × Area). IsFedIn events u.0 u.1 image) (same_found is.config r.config is.area (area_of r image) (sym is.used ∙ used_is)) is.fed

  -- how many events it has, by those that led to its area's state and its journal's batches
  pub counted_all : (c : Config) (area : Area) (saved events : List Event) (batches : List (List ℕ)) → in_use image ≡ found c area → area.header.count ≡ length saved
      → batches_of area.header.version (journal_bytes (journal_of c area.index area.header.version) image) ≡ Ok batches → events ≡ saved ++ events_of_batches batches → r.count ≡ length events
  counted_all c area saved events batches used count chain all =
      let same = same_found c was.config area was.area (sym used ∙ was.used) in
      let there : batches_of was.area.header.version (journal_bytes (journal_of was.config was.area.index was.area.header.version) image) ≡ Ok batches =
      subst (λ (u : Config × Area). batches_of u.1.header.version (journal_bytes (journal_of u.0 u.1.index u.1.header.version) image) ≡ Ok batches) same chain in
      let front : was.area.header.count ≡ length saved = subst (λ (u : Config × Area). u.1.header.count ≡ length saved) same count in
      let they : batches ≡ was.batches = let e : ◌≡◌ {A = Result (List (List ℕ)) JournalFault} (Ok batches) (Ok was.batches) = sym there ∙ was.chain in cc in
      sym (ap (λ (x : Recovered). x.count) was.is_replayed) ∙ ap (λ (l : List (List ℕ)). was.area.header.count + length (events_of_batches l)) (sym they)
      ∙ ap (λ n. n + length (events_of_batches batches)) front ∙ sym (ap length all ∙ length-append saved (events_of_batches batches))

  fed_count : (events : List Event) → IsFed events image → r.count ≡ length events
  fed_count events is = counted_all is.config is.area is.fed.saved events is.fed.batches is.used is.fed.count is.fed.chain is.fed.all

-- BYTES THAT CHANGE ELSEWHERE

-- header, journal and slot of the area in use stay
pub stays_fed : (events : List Event) (before image : List ℕ) (r : Recovered) → Recovers before (Ok r) → Recovers image (Ok r) → (region : ℕ → Type 0) → IsSameOutside region before image
    → ((i : ℕ) → IsWithin (area_at r.config r.area) 40 i → ¬ region i) → ((i : ℕ) → IsWithin (journal_at r.config r.area) r.config.journal i → ¬ region i) → ((i : ℕ) → IsWithin (slot_at r.config r.area) 40 i → ¬ region i)
    → IsFed events before → IsFed events image
stays_fed events before image r recovers still region same header_apart journal_apart slot_apart is =
    let f = fed_there before r recovers events is in
    let header : header_of r.config r.area image ≡ header_of r.config r.area before = ap header_in (part_same 40 (area_at r.config r.area) image before same.size (λ i w. same.same i (header_apart i w))) in
    let area : area_of r image ≡ area_of r before = ap (λ (h : Header). record { index = r.area; header = h }) header in
    let bytes : take r.config.journal (drop (journal_at r.config r.area) image) ≡ take r.config.journal (drop (journal_at r.config r.area) before) =
    part_same r.config.journal (journal_at r.config r.area) image before same.size (λ i w. same.same i (journal_apart i w)) in
    record {
      config = r.config;
      area = area_of r before;
      used = used_is image r still ∙ ap (found r.config) area;
      fed = record {
        saved = f.saved;
        count = f.count;
        known = ap (λ (o : Option Slot). if is_first (area_of r before) then Some 0 else recorded_in (area_of r before) o) (slot_stays r.config r.area region before image same slot_apart) ∙ f.known;
        batches = f.batches;
        chain = ap (batches_of (area_of r before).header.version) bytes ∙ f.chain;
        all = f.all;
      };
    }

-- A JOURNAL THAT CHANGES

-- what goes on with the batches of the journal in use goes on as those do
module _ (Has : List Event → Type 0) (events : List Event) (before image : List ℕ) (r : Recovered) (recovers : Recovers before (Ok r)) where
  abbrev batches_before : List (List ℕ)
  batches_before = (known before r recovers).batches

  -- the image has what goes with some batches more, where its journal has them
  abbrev pub GoesOn : Type 0
  GoesOn = (more : List (List ℕ)) → batches_of r.journal.version (journal_bytes r.journal image) ≡ Ok (batches_before ++ more) → Has (events ++ events_of_batches more)

  with_none : GoesOn → HasChain r.journal image batches_before → Has events
  with_none on has = subst Has (append-nil events) (on [] (has.chain ∙ ap (λ (l : List (List ℕ)). Ok l) (sym (append-nil batches_before))))

  with_one : (batch : List ℕ) → GoesOn → HasChain (after_batch r.journal batch) image (batches_before ++ batch ∷ []) → Has (events ++ events_in batch)
  with_one batch on has = subst (λ (es : List Event). Has (events ++ es)) (append-nil (events_in batch)) (on (batch ∷ []) has.chain)

  pub with_any : (batch : List ℕ) → GoesOn → MayHaveAppended r.journal batch before image → Has events ⊎ Has (events ++ events_in batch)
  with_any batch on may = elim (may.chain batches_before (had_chain before image r recovers may.outside)) [
    | inl kept ↦ inl (with_none on kept)
    | inr more ↦ inr (with_one batch on more)
  ]

  pub with_more : (batch : List ℕ) → GoesOn → HasAppended r.journal batch before image → Has (events ++ events_in batch)
  with_more batch on has = with_one batch on (has.chain batches_before (had_chain before image r recovers has.outside))

-- a journal ends before the slots
before_slots : (c : Config) (area other : ℕ) → (area ≡ 0) ⊎ (area ≡ 1) → (i : ℕ) → IsWithin (slot_at c other) 40 i → ¬ IsWithin (journal_at c area) c.journal i
before_slots c area other which i slot w = ⊎_elim
    (λ (is : area ≡ 0). let v = subst (λ k. IsWithin (journal_at c k) c.journal i) is w in omega (arith, v.1, slot.0))
    (λ (is : area ≡ 1). let v = subst (λ k. IsWithin (journal_at c k) c.journal i) is w in omega (arith, v.1, slot.0)) which

module _ (events : List Event) (before image : List ℕ) (r : Recovered) (recovers : Recovers before (Ok r)) (same : IsSameOutside (IsInJournal r.journal) before image) (is : IsFed events before) where
  abbrev old : IsKnown before r
  old = known before r recovers

  f : IsFedIn events old.config old.area before
  f = subst (λ (u : Config × Area). IsFedIn events u.0 u.1 before) (same_found is.config old.config is.area old.area (sym is.used ∙ old.used)) is.fed

  batches : f.batches ≡ old.batches
  batches = let e : ◌≡◌ {A = Result (List (List ℕ)) JournalFault} (Ok f.batches) (Ok old.batches) = sym f.chain ∙ old.chain in cc

  journal : r.journal ≡ record (journal_of old.config old.area.index old.area.header.version) { next_gate = 0 + gate_behind old.batches }
  journal = ap (λ (x : Recovered). x.journal) (sym old.is_replayed)

  apart : (i : ℕ) → IsWithin (slot_at old.config old.area.index) 40 i → ¬ IsInJournal r.journal i
  apart i slot w = before_slots old.config old.area.index old.area.index (is_in_use old.config before old.area (uses old.config old.area before old.used).area).index i slot
      (subst (λ (j : Journal). IsInJournal j i) journal w)

  -- with some batches more
  pub grown_fed : (more : List (List ℕ)) → batches_of r.journal.version (journal_bytes r.journal image) ≡ Ok (old.batches ++ more) → IsFed (events ++ events_of_batches more) image
  grown_fed more chain = record {
    config = old.config;
    area = old.area;
    used = (kept_area before image r recovers same).used;
    fed = record {
      saved = f.saved;
      count = f.count;
      known = ap (λ (o : Option Slot). if is_first old.area then Some 0 else recorded_in old.area o) (slot_stays old.config old.area.index (IsInJournal r.journal) before image same apart) ∙ f.known;
      batches = old.batches ++ more;
      chain = ap (λ (j : Journal). batches_of j.version (journal_bytes j image)) (sym journal) ∙ chain;
      all = ap (λ (es : List Event). es ++ events_of_batches more) (f.all ∙ ap (λ (l : List (List ℕ)). f.saved ++ events_of_batches l) batches)
          ∙ append_assoc f.saved (events_of_batches old.batches) (events_of_batches more)
          ∙ ap (λ (es : List Event). f.saved ++ es) (sym (flat_map-append events_in old.batches more));
    };
  }

-- what a stop of an append leaves
pub appending_fed : (events : List Event) (before image : List ℕ) (r : Recovered) (batch : List ℕ) → Recovers before (Ok r) → IsFed events before → MayHaveAppended r.journal batch before image
    → IsFed events image ⊎ IsFed (events ++ events_in batch) image
appending_fed events before image r batch recovers is may =
    with_any (λ (es : List Event). IsFed es image) events before image r recovers batch (grown_fed events before image r recovers may.outside is) may

pub appended_fed : (events : List Event) (before image : List ℕ) (r : Recovered) (batch : List ℕ) → Recovers before (Ok r) → IsFed events before → HasAppended r.journal batch before image → IsFed (events ++ events_in batch) image
appended_fed events before image r batch recovers is has =
    with_more (λ (es : List Event). IsFed es image) events before image r recovers batch (grown_fed events before image r recovers has.outside is) has

-- AN AREA WITHOUT A JOURNAL

no_gate : (batches : List (List ℕ)) → gate_behind batches ≡ 0 → batches ≡ []
no_gate [] is = refl
no_gate (b ∷ bs) is = absurd (omega (arith, is))

none_taken : (events : List Event) → length events ≡ 0 → taken_by events ≡ 0
none_taken [] is = refl
none_taken (e ∷ es) is = absurd (omega (arith, is))

said : (a : Area) (s : Slot) (events : List Event) → s.generation ≡ a.header.generation → s.count ≡ a.header.count → a.header.count ≡ length events → s.taken ≡ taken_by events
    → (if is_first a then Some 0 else recorded_in a (Some s)) ≡ Some (taken_by events)
said a s events generation count number taken = by_first (is_first a) refl
  where
    same : (nat_eq s.generation a.header.generation && nat_eq s.count a.header.count) ≡ true
    same = grind (arith, nat_tests, generation, count)

    by_first : (b : Bool) → is_first a ≡ b → (if b then Some 0 else recorded_in a (Some s)) ≡ Some (taken_by events)
    by_first true is = ap (λ n. Some n) (sym (none_taken events (let none : a.header.count ≡ 0 = grind (arith, nat_tests, is) in omega (arith, none, number))))
    by_first false is = rw same (ap (λ n. Some n) taken)

module _ (image : List ℕ) (r : Recovered) (recovers : Recovers image (Ok r)) (start : r.journal.next_gate ≡ 0) (events : List Event) (number : r.count ≡ length events) where
  abbrev now : IsKnown image r
  now = known image r recovers

  pub no_batches : now.batches ≡ []
  no_batches = no_gate now.batches (let n : 0 + gate_behind now.batches ≡ r.journal.next_gate = ap (λ (x : Recovered). x.journal.next_gate) now.is_replayed in omega (arith, n, start))

  pub counted : now.area.header.count ≡ length events
  counted =
      let n : now.area.header.count + length (events_of_batches now.batches) ≡ r.count = ap (λ (x : Recovered). x.count) now.is_replayed in
      let none : length (events_of_batches now.batches) ≡ 0 = ap (λ (l : List (List ℕ)). length (events_of_batches l)) no_batches in
      omega (arith, n, none, number)

  -- where it is known what the area's events took
  pub fresh_fed : saved_offset now.config now.area image ≡ Some (taken_by events) → IsFed events image
  fresh_fed known = record {
    config = now.config;
    area = now.area;
    used = now.used;
    fed = record {
      saved = events;
      count = counted;
      known = known;
      batches = now.batches;
      chain = now.chain;
      all = sym (ap (λ (l : List (List ℕ)). events ++ events_of_batches l) no_batches ∙ append-nil events);
    };
  }

  -- by its slot
  pub slot_fed : slot_of r.config r.area image ≡ Some (record { generation = r.generation; count = r.count; taken = taken_by events }) → IsFed events image
  slot_fed has =
      let s : Slot = record { generation = r.generation; count = r.count; taken = taken_by events } in
      let config : now.config ≡ r.config = ap (λ (x : Recovered). x.config) now.is_replayed in
      let index : now.area.index ≡ r.area = ap (λ (x : Recovered). x.area) now.is_replayed in
      let there : slot_of now.config now.area.index image ≡ Some s = ap (λ (c : Config). slot_of c now.area.index image) config ∙ ap (λ i. slot_of r.config i image) index ∙ has in
      let generation : now.area.header.generation ≡ r.generation = ap (λ (x : Recovered). x.generation) now.is_replayed in
      fresh_fed (ap (λ (o : Option Slot). if is_first now.area then Some 0 else recorded_in now.area o) there ∙ said now.area s events (sym generation) (number ∙ sym counted) counted refl)

-- LAWS

pub tells : TellsOffset
tells events image is =
    let f = is.fed in
    ap (λ (u : Result (Config × Area) RecoverFault). u >>= λ used. taken_in (journaled used.0 used.1 image) >>= λ more. Ok (with_saved (saved_offset used.0 used.1 image) more)) is.used
    ∙ ap (λ (j : Result (List (List ℕ)) JournalFault). taken_in j >>= λ more. Ok (with_saved (saved_offset is.config is.area image) more)) f.chain
    ∙ ap (λ (o : Option ℕ). Ok (with_saved o (taken_by (events_of_batches f.batches)))) f.known
    ∙ ap (λ n. Ok (Some n)) (sym (ap taken_by f.all ∙ taken-append f.saved (events_of_batches f.batches)))

pub begins : BeginsFed
begins p image recovers =
    let now = known image (formatted p) recovers in
    let generation : now.area.header.generation ≡ 1 = ap (λ (x : Recovered). x.generation) now.is_replayed in
    let count : now.area.header.count ≡ 0 = counted image (formatted p) recovers refl [] refl in
    let first : is_first now.area ≡ true = grind (arith, nat_tests, generation, count) in
    fresh_fed image (formatted p) recovers refl [] refl (ap (λ b. if b then Some 0 else recorded_in now.area (slot_of now.config now.area.index image)) first)

pub as_recovered : FedAsRecovered
as_recovered p xs ys limit image to is = sym to.has_events.count ∙ fed_count image to.recovered to.recovers ys is
