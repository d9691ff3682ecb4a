-- What areas and journals have recorded depends on their bytes alone.
use Rattle.std.proofs.Common.{◌≡◌, ◌⊎◌, inl, inr, ⊎_elim, ℕ, ◌+◌, ◌-◌, ◌^◌, ◌≤◌, ◌&&◌, not, Bool, true, false, cond, nat_eq, nat_lt, nat_le, List, take, drop, Some, Result, Ok, Err, refl, sym, ◌∙◌, ap, subst, arith}
use Rattle.std.proofs.lemmas.Bool.{cases_lt}
use Rattle.std.proofs.lemmas.Bool.Decides.{nat_tests}
use Rattle.ckrt_journal.specs.Chain.{batches_of, journal_bytes}
use Rattle.ckrt_tables.specs.Decoding.{DecodesTo}
use Rattle.ckrt_stored.specs.declared.area.Area.{Area}
use Rattle.ckrt_stored.specs.declared.area_fault.AreaFault.{AreaFault}
use Rattle.ckrt_stored.specs.declared.area_fault.AreaFault.TheVariants.{Version, Damaged}
use Rattle.ckrt_stored.specs.declared.config.Config.{Config}
use Rattle.ckrt_stored.specs.declared.header.Header.{Header}
use Rattle.ckrt_stored.specs.Areas.{area_of, checked_area, is_in_range, is_known_version, newest_area}
use Rattle.ckrt_stored.specs.Layout.{area_at, header_in, header_of, is_valid, journal_at, journal_of, memory_at, memory_of, memory_size, size_needed, tables_at, tables_of}
use Rattle.ckrt_stored.proofs.AreaLemmas.{IsInUse, is_in_use}
use Rattle.ckrt_stored.proofs.WriteLemmas.{area_within, some_pages}
use Rattle.ckrt_stored.specs.Recorded.{IsOlder}
use Rattle.ckrt_look_recording.specs.Recording.{BeginsNewer, BeginsOlder, HasBefore, HasInArea, Recorded, RecordsFrom}

-- two images have the same parts in the bytes of areas and journals
abbrev pub HaveSameParts : Config → (old new : List ℕ) → Type 0
HaveSameParts c old new = (n at : ℕ) → 4096 ≤ at → at + n ≤ size_needed c → take n (drop at new) ≡ take n (drop at old)

pub same_back : (c : Config) (old new : List ℕ) → HaveSameParts c old new → HaveSameParts c new old
same_back c old new same = λ n at far in_bytes. sym (same n at far in_bytes)

checked_is : (a b c : Bool) (x y : Area) → ◌≡◌ {A = Result Area AreaFault} (cond a (Err Damaged) (cond b (Err Version) (cond c (Ok x) (Err Damaged)))) (Ok y) → c ≡ true
checked_is true b c x y e = absurd (cc)
checked_is false true c x y e = absurd (cc)
checked_is false false true x y e = refl
checked_is false false false x y e = absurd (cc)

few_tables : (a : Area) (n : ℕ) → (nat_lt a.header.count n && (nat_lt a.header.offset n && nat_le a.header.tables 98304)) ≡ true → a.header.tables ≤ 98304
few_tables a n in_range = grind (arith, nat_tests, in_range)

-- the tables of an area that was checked have room
checked_few : (a : Area) → checked_area a ≡ Ok a → a.header.tables ≤ 98304
checked_few a is = few_tables a (2 ^ 62) (checked_is (nat_eq a.header.generation 0) (not (is_known_version a.header.version)) (is_in_range a.header) a a is)

journal_within : (c : Config) (index : ℕ) → index ≤ 1 → journal_at c index + c.journal ≤ size_needed c
journal_within c index low = elim (cases_lt index 1) [
  | inl lt ↦ subst (λ i. journal_at c i + c.journal ≤ size_needed c) (let e : 0 ≡ index = omega (arith, lt) in e) (omega arith)
  | inr le ↦ subst (λ i. journal_at c i + c.journal ≤ size_needed c) (let e : 1 ≡ index = omega (arith, le, low) in e) (omega arith)
]

-- AN AREA

module _ (c : Config) (valid : is_valid c ≡ true) (old new : List ℕ) (same : HaveSameParts c old new) where
  header_same : (index : ℕ) → index ≤ 1 → header_of c index new ≡ header_of c index old
  header_same index low = ap header_in (same 40 (area_at c index) (omega arith) (omega (arith, area_within c index low)))

  tables_same : (a : Area) → a.index ≤ 1 → a.header.tables ≤ 98304 → tables_of c a new ≡ tables_of c a old
  tables_same a low few = same a.header.tables (tables_at c a.index) (omega arith) (omega (arith, area_within c a.index low, few))

  memory_same : (index : ℕ) → index ≤ 1 → memory_of c index new ≡ memory_of c index old
  memory_same index low = same (memory_size c) (memory_at c index) (omega arith) (omega (arith, area_within c index low, some_pages c valid))

  journal_same : (a : Area) → a.index ≤ 1 → journal_bytes (journal_of c a.index a.header.version) new ≡ journal_bytes (journal_of c a.index a.header.version) old
  journal_same a low = same c.journal (journal_at c a.index) (omega arith) (journal_within c a.index low)

  pub area_same : area_of c new ≡ area_of c old
  area_same = ap (λ h. newest_area h (header_of c 1 new)) (header_same 0 (omega arith)) ∙ ap (λ h. newest_area (header_of c 0 old) h) (header_same 1 (omega arith))

  has_same : (a : Area) (r : Recorded) → a.index ≤ 1 → a.header.tables ≤ 98304 → HasInArea c a old r → HasInArea c a new r
  has_same a r low few has = record {
    first = has.first;
    start = record {
      saved = has.start.saved;
      decodes = subst (λ (l : List ℕ). DecodesTo a.header.version c.harts l (Some has.start.saved)) (sym (tables_same a low few)) has.start.decodes;
      in_range = has.start.in_range;
      state = has.start.state ∙ ap (λ (m : List ℕ). record { bytes = m; tables = has.start.saved.tables }) (sym (memory_same a.index low));
    };
    batches = has.batches;
    chain = ap (λ (l : List ℕ). batches_of a.header.version l) (journal_same a low) ∙ has.chain;
    events = has.events;
  }

  older_same : (a other : Area) → IsOlder c a old other → IsOlder c a new other
  older_same a other is = record {
    is = is.is ∙ ap (λ (h : Header). record { index = 1 - a.index; header = h }) (sym (header_same (1 - a.index) (omega arith)));
    sound = is.sound;
  }

  before_same : (a : Area) (newer r : Recorded) → HasBefore c a old newer r → HasBefore c a new newer r
  before_same a newer r before =
      let index : before.other.index ≡ 1 - a.index = ap (λ (o : Area). o.index) before.is_older.is in
      record {
        other = before.other;
        is_older = older_same a before.other before.is_older;
        has = has_same before.other r (omega (arith, index)) (checked_few before.other before.is_older.sound.checked) before.has;
        leads = before.leads;
      }

-- BOTH

module _ (c : Config) (valid : is_valid c ≡ true) (old new : List ℕ) (same : HaveSameParts c old new) where
  begins_same : (a : Area) (newer r : Recorded) → BeginsOlder c a old newer r ⊎ BeginsNewer c a old newer r → BeginsOlder c a new newer r ⊎ BeginsNewer c a new newer r
  begins_same a newer r (inl x) = inl (x.0, before_same c valid old new same a newer x.0 x.1, x.2)
  begins_same a newer r (inr x) = inr ((λ older before. x.0 older (before_same c valid new old (same_back c old new same) a newer older before)), x.1)

  -- what is recorded where an area is in use is so of both images
  pub records_same : (a : Area) (r : Recorded) → area_of c old ≡ Ok a → RecordsFrom c a old r → RecordsFrom c a new r
  records_same a r used records =
      let is : IsInUse c a old = is_in_use c old a used in
      let low : a.index ≤ 1 = ⊎_elim (λ zeroth. let l : a.index ≤ 1 = omega (arith, zeroth) in l) (λ first. let l : a.index ≤ 1 = omega (arith, first) in l) is.index in
      record {
        newer = records.newer;
        has = has_same c valid old new same a records.newer low (few_tables a (2 ^ 62) is.in_range) records.has;
        in_range = records.in_range;
        begins = begins_same a records.newer r records.begins;
      }
