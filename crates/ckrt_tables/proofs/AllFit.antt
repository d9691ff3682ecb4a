-- Numbers that fit because tables are well-formed, or because their types have no others.
use Rattle.std.proofs.Common.{◌≡◌, ℕ, zero, suc, ◌+◌, ◌*◌, ◌<◌, ◌≤◌, eqb, Bool, true, Option, Some, None, List, [], ◌∷◌, ◌++◌, length, get_or, replicate, take, refl, sym, ap, ◌∙◌, arith}
use Rattle.std.specs.Prelude.{slice_get, slice_set}
use Rattle.std.specs.List.{list_all, list_any}
use Rattle.std.specs.Option.{option_flatten}
use Rattle.std.proofs.lemmas.Bool.Decides.{nat_tests}
use Rattle.std.proofs.lemmas.List.{take_more}
use Rattle.std.proofs.lemmas.List.Folds.{list_all-append}
use Rattle.ckrt_thread.specs.declared.records.Thread.{Thread}
use Rattle.ckrt_thread.specs.Abi.{RA, SP, PROGRAM_START, RETURN_GATE}
use Rattle.ckrt_thread.specs.State.{State, IsWellFormed, holds, is_live, is_on_hart, is_proper_slot, first_of_program}
use Rattle.ckrt_thread.proofs.Counting.{count_of_some}
use Rattle.ckrt_thread.proofs.Known.{live_range}
use Rattle.ckrt_calls.specs.Beginnings.{fresh, with_keys_off}
use Rattle.ckrt_calls.proofs.Beginnings.{well_formed_fresh, well_formed_keys_off}
use Rattle.ckrt_tables.specs.Savable.{if_there, is_id, is_word, fit_registers, fits_slot, Fit, CanBeSaved}

-- LISTS

pub all_at : {X : Type 0} (p : X → Bool) (xs : List X) (i : ℕ) (d : X) → list_all p xs ≡ true → i < length xs → p (get_or xs i d) ≡ true
all_at p [] i d all lt = absurd (omega (arith, lt))
all_at p (x ∷ xs) zero d all lt = grind (arith, all)
all_at p (x ∷ xs) (suc i) d all lt = let all_xs : list_all p xs ≡ true = grind (arith, all) in all_at p xs i d all_xs (omega arith)

pub all_from : {X : Type 0} (p : X → Bool) (xs : List X) (d : X) → ((i : ℕ) → i < length xs → p (get_or xs i d) ≡ true) → list_all p xs ≡ true
all_from p [] d each = refl
all_from p (x ∷ xs) d each =
    let here : p x ≡ true = each 0 (omega arith) in
    let there = all_from p xs d (λ i lt. each (suc i) (omega (arith, lt))) in
    grind (arith, here, there)

-- one more of them
pub all_more : {X : Type 0} (p : X → Bool) (xs : List X) (i : ℕ) (d : X) → i < length xs → list_all p (take i xs) ≡ true → p (get_or xs i d) ≡ true → list_all p (take (i + 1) xs) ≡ true
all_more p xs i d lt so_far one =
    ap (list_all p) (take_more xs i d lt) ∙ list_all-append p (take i xs) (get_or xs i d ∷ []) ∙ grind (arith, so_far, one)

pub all_true : {X : Type 0} (xs : List X) → list_all (λ x. true) xs ≡ true
all_true [] = refl
all_true (x ∷ xs) = all_true xs

-- of a list that lies in two slices
pub all_of_two : {X : Type 0} (p : X → Bool) (xs ys all : List X) → xs ++ ys ≡ all → list_all p xs ≡ true → list_all p ys ≡ true → list_all p all ≡ true
all_of_two p xs ys all e first second = ap (list_all p) (sym e) ∙ list_all-append p xs ys ∙ grind (arith, first, second)

-- THREADS

slots_from : (slots : List (Option Thread)) → ((i : ℕ) → is_proper_slot (option_flatten (slice_get slots i)) ≡ true) → list_all is_proper_slot slots ≡ true
slots_from [] each = refl
slots_from (slot ∷ slots) each =
    let here : is_proper_slot slot ≡ true = each 0 in
    let there = slots_from slots (λ i. each (suc i)) in
    grind (arith, here, there)

pub proper_slots : (s : State) → IsWellFormed s → list_all is_proper_slot s.threads ≡ true
proper_slots s h = slots_from s.threads h.proper

-- who is on a hart is a thread
on_hart_id : (s : State) (t : ℕ) → IsWellFormed s → is_on_hart s t ≡ true → is_id t ≡ true
on_hart_id s t h e =
    let live : is_live s t ≡ true = grind (arith, nat_tests, h.placed t, count_of_some (holds t) s.harts e) in
    let in_range = live_range s t h live in
    grind (arith, nat_tests, in_range)

harts_from : (harts : List (Option ℕ)) → ((t : ℕ) → list_any (holds t) harts ≡ true → is_id t ≡ true) → list_all (if_there is_id) harts ≡ true
harts_from [] each = refl
harts_from (None ∷ harts) each = harts_from harts (λ t e. each t (grind (arith, nat_tests, e)))
harts_from (Some u ∷ harts) each =
    let same : eqb u u ≡ true = grind (arith, nat_tests) in
    let here : is_id u ≡ true = each u (grind (arith, nat_tests, same)) in
    let there = harts_from harts (λ t e. each t (grind (arith, nat_tests, e))) in
    grind (arith, here, there)

pub harts_fit : (s : State) → IsWellFormed s → list_all (if_there is_id) s.harts ≡ true
harts_fit s h = harts_from s.harts (λ t e. on_hart_id s t h e)

-- THE TABLES OF A PROGRAM THAT HASN'T BEGUN

all_set : {X : Type 0} (p : X → Bool) (xs : List X) (i : ℕ) (x : X) → list_all p xs ≡ true → p x ≡ true → list_all p (slice_set xs i x) ≡ true
all_set p [] i x all one = refl
all_set p (y ∷ xs) zero x all one = grind (arith, all, one)
all_set p (y ∷ xs) (suc i) x all one =
    let there : list_all p xs ≡ true = grind (arith, all) in
    let rest = all_set p xs i x there one in
    grind (arith, all, rest)

fresh_registers_fit : (stack : ℕ) → is_word stack ≡ true → fit_registers (record { pc = PROGRAM_START; x = slice_set (slice_set (replicate 32 0) RA RETURN_GATE) SP stack }) ≡ true
fresh_registers_fit stack small =
    all_set is_word (slice_set (replicate 32 0) RA RETURN_GATE) SP stack (all_set is_word (replicate 32 0) RA RETURN_GATE refl refl) small

fresh_fits : (pages harts : ℕ) → pages ≤ 65536 → Fit (fresh pages harts)
fresh_fits pages harts few =
    let small : is_word (4096 * pages) ≡ true = grind (arith, nat_tests, few) in
    let registers = fresh_registers_fit (4096 * pages) small in
    let first : fits_slot (Some (first_of_program (4096 * pages))) ≡ true = grind (arith, registers) in
    record {
      clock = refl;
      status = refl;
      harts = refl;
      threads = all_set fits_slot (replicate 65 None) 1 (Some (first_of_program (4096 * pages))) refl first;
      waits = refl;
      keys = refl;
      mutexes = refl;
      barriers = refl;
      rwlocks = refl;
      input = refl;
    }

pub fresh_savable : (pages harts : ℕ) → pages ≤ 65536 → harts ≤ 8 → CanBeSaved 2 harts (fresh pages harts) []
fresh_savable pages harts few_pages few_harts = record {
  well_formed = well_formed_fresh pages harts few_harts;
  fit = fresh_fits pages harts few_pages;
  said = λ e. absurd (cc);
  hart_count = refl;
  is_held = omega arith;
  held_bytes = refl;
}

fresh_fits_1 : (pages harts : ℕ) → pages ≤ 65536 → Fit (with_keys_off (fresh pages harts))
fresh_fits_1 pages harts few =
    let on = fresh_fits pages harts few in
    record {
      clock = on.clock;
      status = on.status;
      harts = on.harts;
      threads = on.threads;
      waits = on.waits;
      keys = refl;
      mutexes = on.mutexes;
      barriers = on.barriers;
      rwlocks = on.rwlocks;
      input = on.input;
    }

pub fresh_savable_1 : (pages harts : ℕ) → pages ≤ 65536 → harts ≤ 8 → CanBeSaved 1 harts (with_keys_off (fresh pages harts)) []
fresh_savable_1 pages harts few_pages few_harts = record {
  well_formed = well_formed_keys_off pages harts few_harts;
  fit = fresh_fits_1 pages harts few_pages;
  said = λ e. refl;
  hart_count = refl;
  is_held = omega arith;
  held_bytes = refl;
}
