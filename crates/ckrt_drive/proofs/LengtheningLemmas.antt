-- An image with zeros after its bytes, and with a schedule noted: what it recovers to, and what it tells.
use Rattle.std.proofs.Common.{◌≡◌, ◌⊎◌, inl, inr, ⊎_elim, ℕ, ◌+◌, ◌*◌, ◌-◌, ◌≤◌, ◌&&◌, not, Bool, true, false, cond, nat_eq, nat_lt, nat_le, if◌then◌else◌, List, [], ◌∷◌, ◌++◌, length, take, drop, Option, Some, None, Result, Ok, Err, refl, sym, ◌∙◌, ap, subst, arith, length-append, length-drop}
use Rattle.std.specs.Prelude.{replicate}
use Rattle.std.proofs.lemmas.Bool.{cases_lt}
use Rattle.std.proofs.lemmas.Bool.Decides.{nat_tests}
use Rattle.std.proofs.lemmas.List.{append-nil, append_assoc, drop-append-le, get_or_append_left, get_or-append_right, replicate-append-replicate, take-append-le}
use Rattle.ckrt_disk.specs.Disk.{IsImage}
use Rattle.ckrt_disk.specs.Frame.{IsOnlyRead, IsSameOutside, MayBeLeft}
use Rattle.ckrt_disk.specs.declared.disk.Disk.{Ghosts}
use Rattle.ckrt_events.specs.declared.event.Event.{Event}
use Rattle.ckrt_journal.specs.Chain.{batches_of, journal_bytes}
use Rattle.ckrt_stored.specs.declared.area.Area.{Area}
use Rattle.ckrt_stored.specs.declared.config.Config.{Config}
use Rattle.ckrt_stored.specs.declared.header.Header.{Header}
use Rattle.ckrt_stored.specs.Areas.{area_of, newest_area}
use Rattle.ckrt_stored.specs.Layout.{area_at, area_size, header_in, header_of, is_open, is_valid, journal_at, journal_of, memory_at, memory_size, number_at, size_needed, tables_at}
use Rattle.ckrt_stored.proofs.PickLemmas.{area_end}
use Rattle.ckrt_stored.specs.declared.fault.RecoverFault.{RecoverFault}
use Rattle.ckrt_stored.specs.declared.fault.RecoverFault.TheVariants.{NotFormatted, Version, Damaged}
use Rattle.ckrt_drive.specs.Stages.{Stage}
use Rattle.ckrt_schedule.specs.Taken.{taken_by}
use Rattle.ckrt_stored.specs.Programs.{Program, RecoversTo, state_after}
use Rattle.ckrt_stored.specs.Recorded.{HasRecorded, HasRecordedIn, IsOlder, RecoversRecorded}
use Rattle.ckrt_stored.specs.Recovery.{◌>>=◌, Recovered, Recovers, in_use}
use Rattle.ckrt_stored.specs.Schedules.{IsFieldless, NotesAt}
use Rattle.ckrt_stored.specs.Superblock.{MAGIC, is_known_superblock, superblock_in, superblock_of}
use Rattle.ckrt_disk.proofs.Images.{image_of_image, wider_image}
use Rattle.ckrt_stored.proofs.FieldlessLemmas as fieldless
use Rattle.ckrt_stored.proofs.AreaLemmas.{IsInUse, is_in_use}
use Rattle.ckrt_stored.proofs.GrowthLemmas.{area_0_or_1, used_by, uses}
use Rattle.ckrt_stored.proofs.RecoverLemmas.{IsKnown, known, same_found, stays_by}
use Rattle.ckrt_drive.specs.Fed.{IsFed, IsFedIn, RecoversFed}
use Rattle.ckrt_drive.specs.Offset.{is_first, journaled, offset_from, or_said, recorded_in, saved_offset, taken_in, with_saved}
use Rattle.ckrt_drive.specs.declared.slot.Slot.{Slot}
use Rattle.ckrt_drive.specs.Slot.{SLOT_BYTES, slot_at, slot_in, slot_of}
use Rattle.ckrt_drive.proofs.FedLemmas.{one_of_two}
use Rattle.ckrt_drive.proofs.RecordedLemmas.{IsApart, apart_recorded, both_of, other_of_two, taken, written_same}
use Rattle.ckrt_drive.specs.Drives.{StopLeaves}
use Rattle.ckrt_drive.specs.Lengthening.{IsLonger, IsReadied, LengthenedTells, LengtheningKeeps, RecoverReadied}
use Rattle.ckrt_drive.specs.Together.{IsLeftSince, Past, StandTogether, StandsFed, StandsRecorded}
use Rattle.ckrt_drive.proofs.TakenLemmas.{tells_from}
use Rattle.ckrt_drive.proofs.LeftLemmas.{left_again}

-- PARTS OF IT

part : (n at : ℕ) (short tail : List ℕ) → at + n ≤ length short → take n (drop at (short ++ tail)) ≡ take n (drop at short)
part n at short tail within =
    let first : at ≤ length short = omega (arith, within) in
    let second : n ≤ length (drop at short) = omega (arith, within, length-drop at short) in
    ap (take n) (drop-append-le at short tail first) ∙ take-append-le n (drop at short) tail second

-- THE SUPERBLOCK

abbrev chosen : (a o m v w : Bool) → Config → Result Config RecoverFault
chosen a o m v w c = cond a (Err NotFormatted) (cond (not o) (Err NotFormatted) (cond (not m) (Err NotFormatted) (cond (not v) (Err Version) (cond w (Ok c) (Err Damaged)))))

-- its tests, where it gives a configuration
record HasPassed (a o m v w : Bool) (x c : Config) : Type 0 where
  pub long : a ≡ false
  pub opened : o ≡ true
  pub magic : m ≡ true
  pub version : v ≡ true
  pub within : w ≡ true
  pub is : x ≡ c

has_passed : (a o m v w : Bool) (x c : Config) → chosen a o m v w x ≡ Ok c → HasPassed a o m v w x c
has_passed true o m v w x c e = absurd (cc)
has_passed false false m v w x c e = absurd (cc)
has_passed false true false v w x c e = absurd (cc)
has_passed false true true false w x c e = absurd (cc)
has_passed false true true true false x c e = absurd (cc)
has_passed false true true true true x c e = record { long = refl; opened = refl; magic = refl; version = refl; within = refl; is = cc }

passes : (a o m v w : Bool) (x c : Config) → HasPassed a o m v w x c → chosen a o m v w x ≡ Ok c
passes true o m v w x c h = let no = h.long in absurd (cc)
passes false false m v w x c h = let no = h.opened in absurd (cc)
passes false true false v w x c h = let no = h.magic in absurd (cc)
passes false true true false w x c h = let no = h.version in absurd (cc)
passes false true true true false x c h = let no = h.within in absurd (cc)
passes false true true true true x c h = ap (λ (y : Config). Ok y) h.is

-- a size that is within one is within a greater one
record IsWithinBoth (v : Bool) (n s t : ℕ) : Type 0 where
  pub valid : v ≡ true
  pub fits : n ≤ s
  pub still : (v && nat_le n t) ≡ true

within_both : (v : Bool) (n s t : ℕ) → s ≤ t → (v && nat_le n s) ≡ true → IsWithinBoth v n s t
within_both false n s t le e = absurd (cc)
within_both true n s t le e = record { valid = refl; fits = grind (arith, nat_tests, e); still = grind (arith, nat_tests, e, le) }

not_short : (n : ℕ) → nat_lt n 32 ≡ false → 32 ≤ n
not_short n e = grind (arith, nat_tests, e)

still_long : (n m : ℕ) → 32 ≤ n → n ≤ m → nat_lt m 32 ≡ false
still_long n m long le = grind (arith, nat_tests, long, le)

abbrev config_in : List ℕ → Config
config_in block = record { pages = number_at 4 20 block; harts = number_at 4 24 block; journal = number_at 4 28 block }

record KeepsSuperblock (short image : List ℕ) (c : Config) : Type 0 where
  pub valid : is_valid c ≡ true
  pub fits : size_needed c ≤ length short
  pub stays : superblock_of image ≡ Ok c

module _ (short tail : List ℕ) where
  abbrev whole : List ℕ
  whole = short ++ tail

  no_shorter : length short ≤ length whole
  no_shorter = omega (arith, length-append short tail)

  superblock_stays : (c : Config) → superblock_of short ≡ Ok c → KeepsSuperblock short whole c
  superblock_stays c is =
      let b = take 32 short in
      let x : Config = config_in b in
      let h = has_passed (nat_lt (length short) 32) (is_open b) (nat_eq (number_at 8 8 b) MAGIC) (is_known_superblock (number_at 4 16 b)) (is_valid x && nat_le (size_needed x) (length short)) x c is in
      let long : 32 ≤ length short = not_short (length short) h.long in
      let both = within_both (is_valid x) (size_needed x) (length short) (length whole) no_shorter h.within in
      record {
        valid = subst (λ (y : Config). is_valid y ≡ true) h.is both.valid;
        fits = subst (λ (y : Config). size_needed y ≤ length short) h.is both.fits;
        stays = ap (λ (l : List ℕ). if nat_lt (length whole) 32 then Err NotFormatted else superblock_in (length whole) l) (take-append-le 32 short tail long)
            ∙ passes (nat_lt (length whole) 32) (is_open b) (nat_eq (number_at 8 8 b) MAGIC) (is_known_superblock (number_at 4 16 b)) (is_valid x && nat_le (size_needed x) (length whole)) x c
            (record { long = still_long (length short) (length whole) long no_shorter; opened = h.opened; magic = h.magic; version = h.version; within = both.still; is = h.is });
      }

-- THE AREA IN USE

-- the places of an area and a journal lie within the format's bytes
record LieWithin (c : Config) (index tables : ℕ) : Type 0 where
  pub area : area_at c index + area_size c ≤ 4096 + 2 * area_size c
  pub tables_end : tables_at c index + tables ≤ size_needed c
  pub memory_end : memory_at c index + memory_size c ≤ size_needed c
  pub journal_end : journal_at c index + c.journal ≤ size_needed c

lie_at : (c : Config) (index tables : ℕ) → 1 ≤ c.pages → tables ≤ 98304 → area_at c index + area_size c ≤ 4096 + 2 * area_size c → journal_at c index + c.journal ≤ size_needed c → LieWithin c index tables
lie_at c index tables pages few area journal = record {
  area = area;
  tables_end = omega (arith, few, area);
  memory_end = omega (arith, pages, area);
  journal_end = journal;
}

journal_fits : (c : Config) (index : ℕ) → (index ≡ 0) ⊎ (index ≡ 1) → journal_at c index + c.journal ≤ size_needed c
journal_fits c index (inl zeroth) = subst (λ i. journal_at c i + c.journal ≤ size_needed c) (sym zeroth) (omega arith)
journal_fits c index (inr first) = subst (λ i. journal_at c i + c.journal ≤ size_needed c) (sym first) (omega arith)

few_tables : (a : Area) (n : ℕ) → (nat_lt a.header.count n && (nat_lt a.header.offset n && nat_le a.header.tables 98304)) ≡ true → a.header.tables ≤ 98304
few_tables a n in_range = grind (arith, nat_tests, in_range)

some_pages : (c : Config) → is_valid c ≡ true → 1 ≤ c.pages
some_pages c valid = let many : 16 ≤ c.pages = grind (arith, nat_tests, valid) in omega (arith, many)

module _ (short tail : List ℕ) (r : Recovered) (recovers : Recovers short (Ok r)) where
  abbrev was : IsKnown short r
  was = known short r recovers

  abbrev after : List ℕ
  after = short ++ tail

  kept : KeepsSuperblock short after was.config
  kept = superblock_stays short tail was.config (uses was.config was.area short was.used).superblock

  there : IsInUse was.config was.area short
  there = is_in_use was.config short was.area (uses was.config was.area short was.used).area

  lies : LieWithin was.config was.area.index was.area.header.tables
  lies = lie_at was.config was.area.index was.area.header.tables (some_pages was.config kept.valid) (few_tables was.area _ there.in_range) (area_end was.config was.area.index there.index) (journal_fits was.config was.area.index there.index)

  header_stays : (index : ℕ) → (index ≡ 0) ⊎ (index ≡ 1) → header_of was.config index after ≡ header_of was.config index short
  header_stays index which = ap header_in (part 40 (area_at was.config index) short tail (omega (arith, area_end was.config index which, kept.fits)))

  area_stays : area_of was.config after ≡ area_of was.config short
  area_stays = ap (λ (h : Header). newest_area h (header_of was.config 1 after)) (header_stays 0 (inl refl)) ∙ ap (λ (h : Header). newest_area (header_of was.config 0 short) h) (header_stays 1 (inr refl))

  used_longer : in_use after ≡ Ok (was.config, was.area)
  used_longer = used_by was.config was.area after kept.stays (area_stays ∙ (uses was.config was.area short was.used).area)

  chain_longer : batches_of was.area.header.version (journal_bytes (journal_of was.config was.area.index was.area.header.version) after) ≡ Ok was.batches
  chain_longer = ap (batches_of was.area.header.version) (part was.config.journal (journal_at was.config was.area.index) short tail (omega (arith, lies.journal_end, kept.fits))) ∙ was.chain

  recovers_longer : Recovers after (Ok r)
  recovers_longer = stays_by short after r was (record {
    used = used_longer;
    tables = part was.area.header.tables (tables_at was.config was.area.index) short tail (omega (arith, lies.tables_end, kept.fits));
    memory = part (memory_size was.config) (memory_at was.config was.area.index) short tail (omega (arith, lies.memory_end, kept.fits));
  }) chain_longer

-- A SCHEDULE THAT IS NOTED

-- bytes put behind both leave them the same
append_same : (region : ℕ → Type 0) (a b t : List ℕ) → IsSameOutside region a b → IsSameOutside region (a ++ t) (b ++ t)
append_same region a b t same = record {
  size = omega (arith, length-append a t, length-append b t, same.size);
  same = λ i out. elim (cases_lt i (length a)) [
    | inl lt ↦ get_or_append_left b t 0 i (omega (arith, same.size, lt)) ∙ same.same i out ∙ sym (get_or_append_left a t 0 i lt)
    | inr past ↦ get_or-append_right b t (length a) i 0 same.size past ∙ sym (get_or-append_right a t (length a) i 0 refl past)
  ];
}

itself : (region : ℕ → Type 0) (image : List ℕ) → IsSameOutside region image image
itself region image = record { size = refl; same = λ i out. refl }

-- with no zero behind it
pub noted_only : (short image : List ℕ) → IsSameOutside NotesAt short image → IsReadied short image
noted_only short image same = record { zeros = 0; same = subst (λ (l : List ℕ). IsSameOutside NotesAt l image) (sym (append-nil short)) same }

pub as_it_was : (image : List ℕ) → IsReadied image image
as_it_was image = noted_only image image (itself NotesAt image)

-- with nothing noted
pub zeros_only : (short image : List ℕ) → IsLonger short image → IsReadied short image
zeros_only short image longer = record { zeros = longer.zeros; same = subst (λ (l : List ℕ). IsSameOutside NotesAt l image) longer.is (itself NotesAt image) }

-- one after another
pub readied_through : (short mid image : List ℕ) → IsReadied short mid → IsReadied mid image → IsReadied short image
readied_through short mid image first second =
    let z : List ℕ = replicate first.zeros 0 in let w : List ℕ = replicate second.zeros 0 in
    let both : (short ++ z) ++ w ≡ short ++ replicate (first.zeros + second.zeros) 0 = append_assoc short z w ∙ ap (λ l. short ++ l) (replicate-append-replicate first.zeros second.zeros 0) in
    record {
      zeros = first.zeros + second.zeros;
      same = subst (λ (l : List ℕ). IsSameOutside NotesAt l image) both (image_of_image NotesAt ((short ++ z) ++ w) (mid ++ w) image (append_same NotesAt (short ++ z) mid w first.same) second.same);
    }

-- notes are no fields
pub no_fields : (before image : List ℕ) → IsSameOutside NotesAt before image → IsSameOutside IsFieldless before image
no_fields before image same = wider_image NotesAt IsFieldless before image (λ i notes. (omega (arith, notes.0), omega (arith, notes.1))) same

pub recover_readied : RecoverReadied
recover_readied short image r ready recovers =
    let longer : List ℕ = short ++ replicate ready.zeros 0 in
    fieldless.recovers_same longer image (no_fields longer image ready.same) (Ok r) (recovers_longer short (replicate ready.zeros 0) r recovers)

-- THE RECORD

no_slot : (b : Bool) (x : Option Slot) (s : Slot) → (if b then None else x) ≡ Some s → (b ≡ false) × (x ≡ Some s)
no_slot true x s e = absurd (cc)
no_slot false x s e = (refl, e)

slot_longer : (c : Config) (index : ℕ) (short tail : List ℕ) (s : Slot) → slot_of c index short ≡ Some s → slot_of c index (short ++ tail) ≡ Some s
slot_longer c index short tail s is =
    let at = slot_at c index in
    let p = no_slot (nat_lt (length short) (at + SLOT_BYTES)) (slot_in (take SLOT_BYTES (drop at short))) s is in
    let long : at + SLOT_BYTES ≤ length short = grind (arith, nat_tests, p.0) in
    let longer : nat_lt (length (short ++ tail)) (at + SLOT_BYTES) ≡ false = grind (arith, nat_tests, long, length-append short tail) in
    ap (λ b. if b then None else slot_in (take SLOT_BYTES (drop at (short ++ tail)))) longer ∙ ap slot_in (part SLOT_BYTES at short tail long) ∙ p.1

saved_longer : (c : Config) (area : Area) (short tail : List ℕ) (n : ℕ) → saved_offset c area short ≡ Some n → saved_offset c area (short ++ tail) ≡ Some n
saved_longer c area short tail n known = by_first (is_first area) known
  where
    by_slot : (o : Option Slot) → slot_of c area.index short ≡ o → recorded_in area o ≡ Some n → recorded_in area (slot_of c area.index (short ++ tail)) ≡ Some n
    by_slot None is e = absurd (cc)
    by_slot (Some s) is e = ap (recorded_in area) (slot_longer c area.index short tail s is) ∙ e

    by_first : (b : Bool) → (if b then Some 0 else recorded_in area (slot_of c area.index short)) ≡ Some n → (if b then Some 0 else recorded_in area (slot_of c area.index (short ++ tail))) ≡ Some n
    by_first true e = e
    by_first false e = by_slot (slot_of c area.index short) refl e

fed_longer : (short tail : List ℕ) (r : Recovered) → Recovers short (Ok r) → (events : List Event) → IsFed events short → IsFed events (short ++ tail)
fed_longer short tail r recovers events is =
    let k = known short r recovers in
    let f : IsFedIn events k.config k.area short = subst (λ (u : Config × Area). IsFedIn events u.0 u.1 short) (same_found is.config k.config is.area k.area (sym is.used ∙ k.used)) is.fed in
    let l = lies short tail r recovers in
    record {
      config = k.config;
      area = k.area;
      used = used_longer short tail r recovers;
      fed = record {
        saved = f.saved;
        count = f.count;
        known = saved_longer k.config k.area short tail (taken_by f.saved) f.known;
        batches = f.batches;
        chain = ap (batches_of k.area.header.version) (part k.config.journal (journal_at k.config k.area.index) short tail (omega (arith, l.journal_end, (kept short tail r recovers).fits))) ∙ f.chain;
        all = f.all;
      };
    }

-- where bytes have changed that are no fields of the superblock
module _ (before image : List ℕ) (same : IsSameOutside IsFieldless before image) where
  slot_same : (c : Config) (index : ℕ) → slot_of c index image ≡ slot_of c index before
  slot_same c index =
      let at = slot_at c index in
      ap (λ n. if nat_lt n (at + SLOT_BYTES) then None else slot_in (take SLOT_BYTES (drop at image))) same.size
      ∙ ap (λ l. if nat_lt (length before) (at + SLOT_BYTES) then None else slot_in l) (fieldless.part before image same SLOT_BYTES at (omega arith))

  saved_same : (c : Config) (area : Area) → saved_offset c area image ≡ saved_offset c area before
  saved_same c area = ap (λ o. if is_first area then Some 0 else recorded_in area o) (slot_same c area.index)

  journaled_same : (c : Config) (area : Area) → journaled c area image ≡ journaled c area before
  journaled_same c area = ap (λ (l : List ℕ). batches_of area.header.version l) (fieldless.journal_same before image same c area)

  fed_same : (events : List Event) → IsFed events before → IsFed events image
  fed_same events is = record {
    config = is.config;
    area = is.area;
    used = fieldless.used_same before image same ∙ is.used;
    fed = record {
      saved = is.fed.saved;
      count = is.fed.count;
      known = saved_same is.config is.area ∙ is.fed.known;
      batches = is.fed.batches;
      chain = journaled_same is.config is.area ∙ is.fed.chain;
      all = is.fed.all;
    };
  }

  told_same : (said : Option ℕ) (r : Result (Config × Area) RecoverFault)
      → (r >>= λ u. taken_in (journaled u.0 u.1 image) >>= λ more. Ok (with_saved (or_said (saved_offset u.0 u.1 image) said) more)) ≡ (r >>= λ u. taken_in (journaled u.0 u.1 before) >>= λ more. Ok (with_saved (or_said (saved_offset u.0 u.1 before) said) more))
  told_same said (Err e) = refl
  told_same said (Ok u) =
      ap (λ j. taken_in j >>= λ more. Ok (with_saved (or_said (saved_offset u.0 u.1 image) said) more)) (journaled_same u.0 u.1)
      ∙ ap (λ o. taken_in (journaled u.0 u.1 before) >>= λ more. Ok (with_saved (or_said o said) more)) (saved_same u.0 u.1)

  -- the disk tells as much of its input
  pub tells_same : (said : Option ℕ) → offset_from said image ≡ offset_from said before
  tells_same said =
      ap (λ (r : Result (Config × Area) RecoverFault). r >>= λ u. taken_in (journaled u.0 u.1 image) >>= λ more. Ok (with_saved (or_said (saved_offset u.0 u.1 image) said) more)) (fieldless.used_same before image same)
      ∙ told_same said (in_use before)

-- WHAT IS RECORDED

-- an area and its journal have the same where bytes stand behind
recorded_in_longer : (p : Program) (events : List Event) (c : Config) (area : Area) (short tail : List ℕ) → is_valid c ≡ true → size_needed c ≤ length short → (area.index ≡ 0) ⊎ (area.index ≡ 1) → area.header.tables ≤ 98304
    → HasRecordedIn p events c area short → HasRecordedIn p events c area (short ++ tail)
recorded_in_longer p events c area short tail valid fits which few is =
    let l = lie_at c area.index area.header.tables (some_pages c valid) few (area_end c area.index which) (journal_fits c area.index which) in
    record {
      saved = is.saved;
      count = is.count;
      written = written_same c area short (short ++ tail) (state_after p is.saved)
          (part area.header.tables (tables_at c area.index) short tail (omega (arith, l.tables_end, fits)))
          (part (memory_size c) (memory_at c area.index) short tail (omega (arith, l.memory_end, fits))) is.written;
      batches = is.batches;
      chain = ap (batches_of area.header.version) (part c.journal (journal_at c area.index) short tail (omega (arith, l.journal_end, fits))) ∙ is.chain;
      all = is.all;
    }

recorded_longer : (p : Program) (events : List Event) (short tail : List ℕ) (r : Recovered) → Recovers short (Ok r) → HasRecorded p events short → HasRecorded p events (short ++ tail)
unfolding recorded_in_longer
recorded_longer p events short tail r recovers is =
    let k = known short r recovers in
    let block = kept short tail r recovers in
    let placed = there short tail r recovers in
    let had = both_of p events short k.config k.area is k.used in
    let which = other_of_two k.area.index placed.index in
    record {
      config = k.config;
      area = k.area;
      used = used_longer short tail r recovers;
      newer = recorded_in_longer p events k.config k.area short tail block.valid block.fits placed.index (taken k.area placed.checked).0 had.0;
      older = λ other older.
          let header = header_stays short tail r recovers (1 - k.area.index) which in
          let was_older : IsOlder k.config k.area short other = record { is = older.is ∙ ap (λ (h : Header). record { index = 1 - k.area.index; header = h }) header; sound = older.sound } in
          let found = had.1 other was_older in
          let one = subst (λ n. (n ≡ 0) ⊎ (n ≡ 1)) (sym (ap (λ (a : Area). a.index) older.is)) which in
          (found.0, found.1, recorded_in_longer p found.0 k.config other short tail block.valid block.fits one (taken other older.sound.checked).0 found.2);
    }

-- what is no field of the superblock lies before both areas
fieldless_apart : (c : Config) (index : ℕ) → (index ≡ 0) ⊎ (index ≡ 1) → IsApart c index IsFieldless
fieldless_apart c index which i belongs notes =
    let back : index ≡ 1 - (1 - index) = ⊎_elim (λ is. omega (arith, is)) (λ is. omega (arith, is)) which in
    let low = (area_0_or_1 c (1 - index) index (other_of_two index which) back i belongs).0 in
    omega (arith, low, notes.1)

-- A DISK THAT IS MADE READY

to_readied : (p : Program) (events : List Event) (limit : ℕ) (short image : List ℕ) → IsReadied short image → RecoversTo p events limit short → RecoversTo p events limit image
to_readied p events limit short image ready to = record { recovered = to.recovered; recovers = recover_readied short image to.recovered ready to.recovers; has_events = to.has_events; held_from = to.held_from }

fed_to_readied : (p : Program) (events : List Event) (limit : ℕ) (short image : List ℕ) → IsReadied short image → RecoversFed p events limit short → RecoversFed p events limit image
fed_to_readied p events limit short image ready fed =
    let longer : List ℕ = short ++ replicate ready.zeros 0 in (
      to_readied p events limit short image ready fed.0,
      fed_same longer image (no_fields longer image ready.same) events (fed_longer short (replicate ready.zeros 0) fed.0.recovered fed.0.recovers events fed.1),
    )

recorded_to_readied : (p : Program) (events : List Event) (limit : ℕ) (short image : List ℕ) → IsReadied short image → RecoversRecorded p events limit short → RecoversRecorded p events limit image
recorded_to_readied p events limit short image ready is =
    let tail : List ℕ = replicate ready.zeros 0 in
    let r = is.0.recovered in
    let whole = recovers_longer short tail r is.0.recovers in
    let which = one_of_two (short ++ tail) r whole in (
      to_readied p events limit short image ready is.0,
      apart_recorded p events (short ++ tail) image r IsFieldless whole (recover_readied short image r ready is.0.recovers) (no_fields (short ++ tail) image ready.same)
          (fieldless_apart r.config r.area which) (fieldless_apart r.config (1 - r.area) (other_of_two r.area which)) (recorded_longer p events short tail r is.0.recovers is.1),
    )

-- whatever may be left of a disk is what might have been left of another one, made ready
abbrev pub AreReadied : {D : Type 0} → Ghosts D → (old left : D) → Type 0
AreReadied d old left = (image : List ℕ) → MayBeLeft d left image → (short : List ℕ) × MayBeLeft d old short × IsReadied short image

module _ {D O : Type 0} (d : Ghosts D) (o : Ghosts O) where
  pub stands_readied : (h : Past) (old left : D) (output : O) → AreReadied d old left → StandTogether d o h old output → StandTogether d o h left output
  stands_readied h old left output is stand = record {
    images = λ image may.
        let was = is image may in
        let t = stand.images was.0 was.1 in
        record { all = t.all; begins = t.begins; within = t.within; to = t.to; recovers = to_readied h.program t.all t.to was.0 image was.2 t.recovers; reached = t.reached; has = t.has; spares = t.spares };
    inside = stand.inside;
  }

  pub fed_stands_readied : (h : Past) (file : Option (List ℕ)) (old left : D) → AreReadied d old left → StandsFed d file h old → StandsFed d file h left
  fed_stands_readied h None old left is stand = tt
  fed_stands_readied h (Some bytes) old left is stand = λ image may.
      let was = is image may in
      let k = stand was.0 was.1 in
      record { all = k.all; begins = k.begins; within = k.within; to = k.to; held = fed_to_readied h.program k.all k.to was.0 image was.2 k.held }

  pub recorded_stands_readied : (h : Past) (old left : D) → AreReadied d old left → StandsRecorded d h old → StandsRecorded d h left
  recorded_stands_readied h old left is stand = λ image may.
      let was = is image may in
      let k = stand was.0 was.1 in
      record { all = k.all; begins = k.begins; within = k.within; to = k.to; held = recorded_to_readied h.program k.all k.to was.0 image was.2 k.held }

  pub keeps_longer : LengtheningKeeps d o
  keeps_longer h file old left output is stand fed = (stands_readied h old left output is.images stand, fed_stands_readied h file old left is.images fed)

pub tells_longer : {D : Type 0} (d : Ghosts D) → ((disk : D) → d.is_honest disk → IsImage (d.content disk) (d.pending disk) (d.content disk)) → LengthenedTells d
tells_longer d reads h file old longer honest fed is said =
    let k = fed (d.content old) (reads old honest) in
    let more = fed_to_readied h.program k.all k.to (d.content old) (d.content longer) is k.held in
    tells_from said k.all (d.content longer) more.1 ∙ sym (tells_from said k.all (d.content old) k.held.1)

-- READS BEFORE RECOVERY

module _ {D : Type 0} (d : Ghosts D) (law : (disk : D) (image : List ℕ) → d.is_honest disk → d.left_since disk (d.moment disk) image → IsImage (d.content disk) (d.pending disk) image) where
  left_by_reads : (old new start end left : D) (failed : Bool) → IsOnlyRead d start end failed → d.is_honest end → IsLeftSince d old new start → IsLeftSince d start end left → IsLeftSince d old new left
  left_by_reads old new start end left failed read honest first second = record {
    images = λ image may. first.images image (⊎_elim
        (λ (past : _). law start image (read.same.honest honest) past)
        (λ (none : ⊥). absurd none)
        ((read.any_moment honest).each (d.moment start) image (omega arith) (second.images image may)));
    inside = second.inside;
  }

module _ {D O : Type 0} (d : Ghosts D) (o : Ghosts O) (law : (disk : D) (image : List ℕ) → d.is_honest disk → d.left_since disk (d.moment disk) image → IsImage (d.content disk) (d.pending disk) image)
    (output_law : (disk : O) (image : List ℕ) → o.is_honest disk → o.left_since disk (o.moment disk) image → IsImage (o.content disk) (o.pending disk) image) where
  pub stop_in_reads : (stages : List (Stage d o)) (x at : Stage d o) (start end left : D) (output other : O) (failed : Bool) → StopLeaves stages x at start output → IsOnlyRead d start end failed → d.is_honest end → o.is_honest output
      → IsLeftSince d start end left → IsLeftSince o output output other → StopLeaves stages x at left other
  stop_in_reads [] x at start end left output other failed h read honest whole there same =
      (h.0, left_by_reads d law x.session.disk x.session.disk start end left failed read honest h.1 there, left_again o output_law x.output x.output output other whole h.2 same)
  stop_in_reads (z ∷ more) x at start end left output other failed (inl h) read honest whole there same =
      inl (h.0, left_by_reads d law x.session.disk z.session.disk start end left failed read honest h.1 there, left_again o output_law x.output z.output output other whole h.2 same)
  stop_in_reads (z ∷ more) x at start end left output other failed (inr h) read honest whole there same = inr (stop_in_reads more z at start end left output other failed h read honest whole there same)
