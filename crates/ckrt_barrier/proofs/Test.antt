-- The test of each barrier and of each wait says that threads and barriers are well-formed together.
use Rattle.std.proofs.Common.{◌≡◌, ℕ, eqb, nat_lt, Bool, true, false, List, [], ◌∷◌, ◌++◌, length, None, is_some, refl, sym, ap, ◌∙◌, arith}
use Rattle.std.specs.List.{list_all, filter}
use Rattle.std.proofs.lemmas.Bool.Decides.{nat_tests}
use Rattle.ckrt_thread.specs.declared.records.Wait.{Wait}
use Rattle.ckrt_thread.specs.declared.records.Reason.{Reason}
use Rattle.ckrt_thread.specs.declared.records.Reason.TheVariants as reason
use Rattle.ckrt_thread.specs.declared.records.Object.TheVariants as object
use Rattle.ckrt_thread.specs.Waits.{is_for, is_reason_for}
use Rattle.ckrt_thread.specs.State.{State}
use Rattle.ckrt_objects.specs.declared.address_map.Entry.{Entry}
use Rattle.ckrt_objects.specs.AddressMap.{has_entry, lookup}
use Rattle.ckrt_objects.proofs.AddressMap.{no_lookup, all_entries, all_found}
use Rattle.ckrt_objects.proofs.Appended.{rising_beginning, all_beginning, size_beginning}
use Rattle.ckrt_objects.proofs.InUse.{lookup_is_some}
use Rattle.ckrt_objects.proofs.Waits.{first_left_out, rest_left_out}
use Rattle.ckrt_barrier.specs.declared.barrier.Barrier.{Barrier}
use Rattle.ckrt_barrier.specs.Rows.{waiters}
use Rattle.ckrt_barrier.specs.WellFormed.{IsTable, IsWellFormedWith, awaits_more, waits_where_a_barrier_is, is_where_a_barrier_is}

-- each beginning of a table is one
pub table_beginning : (xs ys : List (Entry Barrier)) → IsTable (xs ++ ys) → IsTable xs
table_beginning xs ys t = record {
  rising = rising_beginning xs ys t.rising;
  at_most_64 = size_beginning 64 xs ys t.at_most_64;
  counts = all_beginning (λ e. nat_lt 0 e.value.count) xs ys t.counts;
}

-- WHERE NO BARRIER IS

elsewhere : (b : ℕ) (bs : List (Entry Barrier)) (r : Reason) → has_entry b bs ≡ false → is_where_a_barrier_is bs r ≡ true → is_reason_for (object.Barrier b) r ≡ false
elsewhere b bs (reason.Barrier d) n h =
    elim (eqb b d) as (λ v. eqb b d ≡ v → eqb b d ≡ false) [
      | true ↦ λ e. (let same : b ≡ d = grind (arith, nat_tests, e) in let there = ap (λ a. has_entry a bs) same in absurd (cc))
      | false ↦ λ e. e
    ] refl
elsewhere b bs reason.Input n h = refl
elsewhere b bs reason.Sleep n h = refl
elsewhere b bs (reason.Join i) n h = refl
elsewhere b bs (reason.Lock m) n h = refl
elsewhere b bs (reason.Retake m v) n h = refl
elsewhere b bs (reason.Condition c m) n h = refl
elsewhere b bs (reason.Read l) n h = refl
elsewhere b bs (reason.Write l) n h = refl

nobody_there : (b : ℕ) (bs : List (Entry Barrier)) (ws : List Wait) → has_entry b bs ≡ false → list_all (waits_where_a_barrier_is bs) ws ≡ true → filter (is_for (object.Barrier b)) ws ≡ []
nobody_there b bs [] n h = refl
nobody_there b bs (w ∷ ws) n h =
    let first : is_for (object.Barrier b) w ≡ false = elsewhere b bs w.reason n (grind (arith, nat_tests, h)) in
    let rest = nobody_there b bs ws n (grind (arith, nat_tests, h)) in
    grind (arith, nat_tests, first, rest)

one_there : (bs : List (Entry Barrier)) (r : Reason) → ((b : ℕ) → has_entry b bs ≡ false → is_reason_for (object.Barrier b) r ≡ false) → is_where_a_barrier_is bs r ≡ true
one_there bs (reason.Barrier d) f =
    elim (has_entry d bs) as (λ v. has_entry d bs ≡ v → has_entry d bs ≡ true) [
      | true ↦ λ e. e
      | false ↦ λ e. (let other = f d e in absurd (grind (arith, nat_tests, other)))
    ] refl
one_there bs reason.Input f = refl
one_there bs reason.Sleep f = refl
one_there bs (reason.Join i) f = refl
one_there bs (reason.Lock m) f = refl
one_there bs (reason.Retake m v) f = refl
one_there bs (reason.Condition c m) f = refl
one_there bs (reason.Read l) f = refl
one_there bs (reason.Write l) f = refl

each_there : (bs : List (Entry Barrier)) (ws : List Wait) → ((b : ℕ) → has_entry b bs ≡ false → filter (is_for (object.Barrier b)) ws ≡ []) → list_all (waits_where_a_barrier_is bs) ws ≡ true
each_there bs [] f = refl
each_there bs (w ∷ ws) f =
    let first = one_there bs w.reason (λ b n. first_left_out (is_for (object.Barrier b)) w ws (f b n)) in
    let rest = each_there bs ws (λ b n. rest_left_out (is_for (object.Barrier b)) w ws (f b n)) in
    grind (arith, nat_tests, first, rest)

no_entry : (b : ℕ) (bs : List (Entry Barrier)) → lookup b bs ≡ None → has_entry b bs ≡ false
no_entry b bs e = sym (lookup_is_some b bs) ∙ ap is_some e

-- THE TEST

abbrev fewer_wait : State → ℕ → Barrier → Bool
fewer_wait s b barrier = nat_lt (length (waiters b s)) barrier.count

pub tested : (s : State) (bs : List (Entry Barrier)) → IsTable bs → list_all (awaits_more s) bs ≡ true → list_all (waits_where_a_barrier_is bs) s.waits ≡ true → IsWellFormedWith s bs
tested s bs t fewer there = record {
  table = t;
  fewer_wait_than_the_count = (λ b barrier l. let f = all_found (fewer_wait s) bs fewer b barrier l in grind (arith, nat_tests, f));
  nobody_waits_where_no_barrier_is = (λ b l. nobody_there b bs s.waits (no_entry b bs l) there);
}

pub more_awaited : (s : State) (bs : List (Entry Barrier)) → IsWellFormedWith s bs → list_all (awaits_more s) bs ≡ true
more_awaited s bs h = all_entries (fewer_wait s) bs h.table.rising (λ b barrier l. let f = h.fewer_wait_than_the_count b barrier l in grind (arith, nat_tests, f))

pub barriers_there : (s : State) (bs : List (Entry Barrier)) → IsWellFormedWith s bs → list_all (waits_where_a_barrier_is bs) s.waits ≡ true
barriers_there s bs h = each_there bs s.waits (λ b n. h.nobody_waits_where_no_barrier_is b (no_lookup b bs n))
