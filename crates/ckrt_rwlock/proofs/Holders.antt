-- Who holds a lock after a small change of it.
use Rattle.std.proofs.Common.{◌≡◌, ℕ, zero, suc, [], ◌∷◌, slice_index_or, slice_set, ◌-◌, ◌≤◌, ◌<◌, eqb, nat_lt, true, false, List, length, Option, Some, None, is_some, refl, arith}
use Rattle.std.proofs.lemmas.Bool.Decides.{nat_tests}
use Rattle.ckrt_thread.specs.State.{holds}
use Rattle.ckrt_objects.proofs.Waits.{either}
use Rattle.ckrt_rwlock.specs.declared.records.RwLock.{RwLock}
use Rattle.ckrt_rwlock.specs.RwLock.{read_count, is_writer, is_reader, is_holder, is_written, is_read, is_held, is_proper, is_exclusive, with_writer, with_read_count, given_up}
use Rattle.ckrt_rwlock.proofs.Counts.{other_count, any_count, any_set, proper_set, proper_count, proper_size}

written_by_some : (t : ℕ) (o : Option ℕ) → holds t o ≡ true → is_some o ≡ true
written_by_some t None h = absurd (cc)
written_by_some t (Some u) h = refl

pub writer_writes : (t : ℕ) (l : RwLock) → is_writer t l ≡ true → is_written l ≡ true
writer_writes t l h = written_by_some t l.writer h

pub reader_reads : (t : ℕ) (l : RwLock) → is_reader t l ≡ true → is_read l ≡ true
reader_reads t l h = any_count l.readers t h

pub holder_holds : (t : ℕ) (l : RwLock) → is_holder t l ≡ true → is_held l ≡ true
holder_holds t l h = grind (arith, nat_tests, writer_writes t l, reader_reads t l)

-- ONE READ LOCK OR MORE of a thread

pub proper_reads : (l : RwLock) (t n : ℕ) → is_proper l ≡ true → 0 < t → n ≤ 65535 → is_proper (with_read_count t n l) ≡ true
proper_reads l t n p k m = grind (arith, nat_tests, proper_set l.readers t n, k, m)

pub exclusive_unwritten : (l : RwLock) → is_written l ≡ false → is_exclusive l ≡ true
exclusive_unwritten l h = grind (arith, nat_tests)

pub reads : (l : RwLock) (t n : ℕ) → is_proper l ≡ true → t ≤ 64 → 0 < n → is_held (with_read_count t n l) ≡ true
reads l t n p k m =
    let size : length l.readers ≡ 65 = proper_size l.readers (grind (arith, nat_tests)) in
    let any = any_set l.readers t n (omega (arith, size)) m in
    grind (arith, nat_tests, any)

pub other_reads : (l : RwLock) (t u n : ℕ) → eqb t u ≡ false → is_holder u l ≡ false → is_holder u (with_read_count t n l) ≡ false
other_reads l t u n e h = grind (arith, nat_tests, other_count l.readers t u n e)

-- A WRITER

pub proper_written : (l : RwLock) (t : ℕ) → is_proper l ≡ true → 0 < t → t ≤ 64 → is_proper (with_writer (Some t) l) ≡ true
proper_written l t p k m = grind (arith, nat_tests)

pub exclusive_written : (l : RwLock) (t : ℕ) → is_held l ≡ false → is_exclusive (with_writer (Some t) l) ≡ true
exclusive_written l t h = grind (arith, nat_tests)

pub other_writes : (l : RwLock) (t u : ℕ) → eqb t u ≡ false → is_holder u l ≡ false → is_holder u (with_writer (Some t) l) ≡ false
other_writes l t u e h = grind (arith, nat_tests)

-- A LOCK GIVEN UP once

unwritten_reader : (l : RwLock) (t : ℕ) → is_exclusive l ≡ true → is_reader t l ≡ true → is_written l ≡ false
unwritten_reader l t x r = grind (arith, nat_tests, reader_reads t l r)

pub reader_unwritten : (l : RwLock) (t : ℕ) → is_exclusive l ≡ true → is_holder t l ≡ true → is_writer t l ≡ false → is_written l ≡ false
reader_unwritten l t x h w = unwritten_reader l t x (grind (arith, nat_tests))

pub proper_given_up : (l : RwLock) (t : ℕ) → is_proper l ≡ true → 0 < t → is_proper (given_up t l) ≡ true
proper_given_up l t p k =
    either (λ m. is_proper m ≡ true) (is_writer t l) (with_writer None l) (with_read_count t (read_count t l - 1) l)
    (λ _. grind (arith, nat_tests))
    (λ _. proper_reads l t (read_count t l - 1) p k (let c = proper_count l.readers t (grind (arith, nat_tests)) in omega (arith, c)))

pub exclusive_given_up : (l : RwLock) (t : ℕ) → is_exclusive l ≡ true → is_holder t l ≡ true → is_exclusive (given_up t l) ≡ true
exclusive_given_up l t x h =
    either (λ m. is_exclusive m ≡ true) (is_writer t l) (with_writer None l) (with_read_count t (read_count t l - 1) l)
    (λ _. refl)
    (λ w. exclusive_unwritten (with_read_count t (read_count t l - 1) l) (reader_unwritten l t x h w))

less_count : (ns : List ℕ) (t u : ℕ) → eqb t u ≡ true → nat_lt 0 (slice_index_or ns u 0) ≡ false → nat_lt 0 (slice_index_or (slice_set ns t (slice_index_or ns t 0 - 1)) u 0) ≡ false
less_count [] t u e h = grind (arith, nat_tests)
less_count (m ∷ ns) zero zero e h = grind (arith, nat_tests)
less_count (m ∷ ns) zero (suc u) e h = absurd (grind (arith, nat_tests))
less_count (m ∷ ns) (suc t) zero e h = absurd (grind (arith, nat_tests))
less_count (m ∷ ns) (suc t) (suc u) e h = less_count ns t u (grind (arith, nat_tests)) h

less_read : (l : RwLock) (t u : ℕ) → is_holder u l ≡ false → is_holder u (with_read_count t (read_count t l - 1) l) ≡ false
less_read l t u h =
    elim (eqb t u) as (λ b. eqb t u ≡ b → is_holder u (with_read_count t (read_count t l - 1) l) ≡ false) [
      | true ↦ λ e. grind (arith, nat_tests, less_count l.readers t u e)
      | false ↦ λ e. other_reads l t u (read_count t l - 1) e h
    ] refl

-- nobody holds it who did not
pub other_given_up : (l : RwLock) (t u : ℕ) → is_holder u l ≡ false → is_holder u (given_up t l) ≡ false
other_given_up l t u h =
    either (λ m. is_holder u m ≡ false) (is_writer t l) (with_writer None l) (with_read_count t (read_count t l - 1) l)
    (λ _. grind (arith, nat_tests))
    (λ _. less_read l t u h)
