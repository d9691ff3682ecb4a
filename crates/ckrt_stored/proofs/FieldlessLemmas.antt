-- What an image recovers to, where bytes have changed that are no fields of its superblock.
use Rattle.std.proofs.Common.{◌≡◌, ℕ, ◌+◌, ◌≤◌, Bool, true, false, cond, nat_lt, if◌then◌else◌, List, length, take, drop, Option, Some, None, Result, Ok, Err, refl, sym, ◌∙◌, ap, subst, arith}
use Rattle.ckrt_disk.specs.Frame.{IsSameOutside}
use Rattle.ckrt_disk.proofs.Images.{part_same, wider_image}
use Rattle.ckrt_journal.specs.Chain.{batches_of, journal_bytes}
use Rattle.ckrt_tables.specs.Decoding.{DecodesTo, Saved}
use Rattle.ckrt_stored.specs.declared.area.Area.{Area}
use Rattle.ckrt_stored.specs.declared.config.Config.{Config}
use Rattle.ckrt_stored.specs.declared.area_fault.AreaFault.{AreaFault}
use Rattle.ckrt_stored.specs.declared.fault.RecoverFault.{RecoverFault}
use Rattle.ckrt_stored.specs.declared.fault.RecoverFault.TheVariants.{NotFormatted, Damaged}
use Rattle.ckrt_stored.specs.Areas.{area_of, newest_area}
use Rattle.ckrt_stored.specs.Layout.{area_at, header_in, header_of, journal_at, journal_of, memory_at, memory_of, memory_size, tables_at, tables_of}
use Rattle.ckrt_stored.specs.Recovery.{Recovered, Recovers, ◌>>=◌, area_in_use, area_state, as_recovery, in_use, is_end_in_range, recovery_by, replayed_area, replayed_batches, replayed_journal, unreplayed}
use Rattle.ckrt_stored.specs.Schedules.{AreFieldlessFree, IsFieldless}
use Rattle.ckrt_stored.specs.Superblock.{superblock_in, superblock_of}
use Rattle.ckrt_stored.proofs.NoteLemmas.{note_apart}
use Rattle.ckrt_stored.proofs.RecoverLemmas.{found, ok, recovery_is}

module _ (before image : List ℕ) (same : IsSameOutside IsFieldless before image) where
  pub part : (n at : ℕ) → 4096 ≤ at → take n (drop at image) ≡ take n (drop at before)
  part n at far = part_same n at image before same.size (λ i w. same.same i (λ fieldless. omega (arith, far, w.0, fieldless.1)))

  superblock_same : superblock_of image ≡ superblock_of before
  superblock_same =
      let front : take 32 image ≡ take 32 before = part_same 32 0 image before same.size (λ i w. same.same i (λ fieldless. omega (arith, w.1, fieldless.0))) in
      ap (λ n. if nat_lt n 32 then Err NotFormatted else superblock_in n (take 32 image)) same.size
      ∙ ap (λ (l : List ℕ). if nat_lt (length before) 32 then Err NotFormatted else superblock_in (length before) l) front

  header_same : (c : Config) (index : ℕ) → header_of c index image ≡ header_of c index before
  header_same c index = ap header_in (part 40 (area_at c index) (omega arith))

  area_same : (c : Config) → area_of c image ≡ area_of c before
  area_same c = ap (λ h. newest_area h (header_of c 1 image)) (header_same c 0) ∙ ap (λ h. newest_area (header_of c 0 before) h) (header_same c 1)

  areas_same : (r : Result Config RecoverFault) → (r >>= λ c. area_in_use c image >>= λ a. found c a) ≡ (r >>= λ c. area_in_use c before >>= λ a. found c a)
  areas_same (Err e) = refl
  areas_same (Ok c) = ap (λ (q : Result Area AreaFault). as_recovery q >>= λ a. found c a) (area_same c)

  pub used_same : in_use image ≡ in_use before
  used_same = ap (λ (r : Result Config RecoverFault). r >>= λ c. area_in_use c image >>= λ a. found c a) superblock_same ∙ areas_same (superblock_of before)

  pub tables_same : (c : Config) (a : Area) → tables_of c a image ≡ tables_of c a before
  tables_same c a = part a.header.tables (tables_at c a.index) (omega arith)

  pub memory_same : (c : Config) (index : ℕ) → memory_of c index image ≡ memory_of c index before
  memory_same c index = part (memory_size c) (memory_at c index) (omega arith)

  pub journal_same : (c : Config) (a : Area) → journal_bytes (journal_of c a.index a.header.version) image ≡ journal_bytes (journal_of c a.index a.header.version) before
  journal_same c a = part c.journal (journal_at c a.index) (omega arith)

  state_same : (c : Config) (a : Area) (s : Saved) (b : Bool)
      → ((cond b (ok (unreplayed c a (memory_of c a.index image) s)) (Err Damaged)) >>= replayed_journal image) ≡ ((cond b (ok (unreplayed c a (memory_of c a.index before) s)) (Err Damaged)) >>= replayed_journal before)
  state_same c a s false = refl
  state_same c a s true =
      ap (λ (m : List ℕ). replayed_journal image (unreplayed c a m s)) (memory_same c a.index)
      ∙ ap (λ (l : List ℕ). replayed_batches (unreplayed c a (memory_of c a.index before) s) (batches_of a.header.version l)) (journal_same c a)

  area_replayed : (c : Config) (a : Area) (saved : Option Saved) → replayed_area c a image saved ≡ replayed_area c a before saved
  area_replayed c a None = refl
  area_replayed c a (Some s) = state_same c a s (is_end_in_range a s.held)

  replayed_same : (saved : Option Saved) (r : Result (Config × Area) RecoverFault) → (r >>= λ u. replayed_area u.0 u.1 image saved) ≡ (r >>= λ u. replayed_area u.0 u.1 before saved)
  replayed_same saved (Err e) = refl
  replayed_same saved (Ok u) = area_replayed u.0 u.1 saved

  pub recovery_same : (saved : Option Saved) → recovery_by saved image ≡ recovery_by saved before
  recovery_same saved =
      recovery_is saved image
      ∙ ap (λ (r : Result (Config × Area) RecoverFault). r >>= λ u. replayed_area u.0 u.1 image saved) used_same
      ∙ replayed_same saved (in_use before)
      ∙ sym (recovery_is saved before)

  pub recovers_same : (result : Result Recovered RecoverFault) → Recovers before result → Recovers image result
  recovers_same result was = record {
    saved = was.saved;
    decodes = λ c a is. subst (λ (l : List ℕ). DecodesTo a.header.version c.harts l was.saved) (sym (tables_same c a)) (was.decodes c a (sym used_same ∙ is));
    gives = recovery_same was.saved ∙ was.gives;
  }

pub fieldless_free : AreFieldlessFree
fieldless_free = record {
  recovers = λ before image result same was. recovers_same before image same result was;
  program = λ before image same. note_apart before image (wider_image IsFieldless (λ i. 72 ≤ i) before image (λ i fieldless. fieldless.0) same);
}
