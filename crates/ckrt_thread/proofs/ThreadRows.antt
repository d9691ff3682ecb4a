-- The rows of the threads: found again among the slots, one more behind them, and that the state is known by its rows.
use Rattle.std.proofs.Common.{◌≡◌, ℕ, zero, suc, ◌+◌, ◌≤◌, ◌<◌, List, [], ◌∷◌, ◌++◌, length, drop, Option, Some, None, is_some, refl, sym, ap, subst, ◌∙◌, arith, slice_get, slice_set, get_or, option_map}
use Rattle.std.specs.List.{filter}
use Rattle.std.specs.Option.{option_flatten}
use Rattle.std.proofs.lemmas.List.{length-set}
use Rattle.std.proofs.Math.Seq.{drop-cons}
use Rattle.ckrt_thread.specs.declared.records.Thread.{Thread}
use Rattle.ckrt_thread.specs.State.{State, IsWellFormed, thread_of}
use Rattle.ckrt_thread.specs.Contents.{ThreadRow, rows_of, rows_from, thread_rows, thread_appended, GoesOnWithThread, HaveSameRows}

-- what stands at a place of some slots
abbrev pub at : List (Option Thread) → ℕ → Option Thread
at slots i = option_flatten (slice_get slots i)

-- COUNTED AND FOUND

-- there are as many rows as slots that have a thread
pub length_rows : (k : ℕ) (slots : List (Option Thread)) → length (rows_from k slots) ≡ length (filter is_some slots)
length_rows k [] = refl
length_rows k (None ∷ slots) = length_rows (suc k) slots
length_rows k (Some x ∷ slots) = ap suc (length_rows (suc k) slots)

pub few_rows : (k : ℕ) (slots : List (Option Thread)) → length (rows_from k slots) ≤ length slots
few_rows k [] = omega arith
few_rows k (None ∷ slots) = (let r = few_rows (suc k) slots in omega (arith, r))
few_rows k (Some x ∷ slots) = (let r = few_rows (suc k) slots in omega (arith, r))

-- nothing stands at 0, so there is one row less than slots at most
pub few_threads : (s : State) → IsWellFormed s → length (thread_rows s) ≤ 64
few_threads s h = first_free s.threads h.size h.zero where
  first_free : (slots : List (Option Thread)) → length slots ≡ 65 → at slots 0 ≡ None → length (rows_from 0 slots) ≤ 64
  first_free [] n z = omega arith
  first_free (None ∷ slots) n z = (let r = few_rows 1 slots in omega (arith, r, n))
  first_free (Some x ∷ slots) n z = absurd (cc)

-- the rows of the slots from a place on
pub rows_at : (slots : List (Option Thread)) (i : ℕ) → i < length slots → rows_from i (drop i slots) ≡ rows_of i (get_or slots i None) ++ rows_from (suc i) (drop (suc i) slots)
rows_at slots i l = ap (rows_from i) (drop-cons slots i None l)

-- a row is that of a slot
pub found_row : (k : ℕ) (slots : List (Option Thread)) (place : ℕ) (r : ThreadRow) → slice_get (rows_from k slots) place ≡ Some r → (j : ℕ) × ((r.id ≡ k + j) × (at slots j ≡ Some r.thread))
found_row k [] place r e = absurd (cc)
found_row k (None ∷ slots) place r e = (let f = found_row (suc k) slots place r e in (suc f.0, (let i = f.1.0 in omega (arith, i), f.1.1)))
found_row k (Some x ∷ slots) zero r e = (let same : record { id = k; thread = x } ≡ r = cc in (0, (let i : k ≡ r.id = ap (λ q. q.id) same in omega (arith, i), ap (λ q. Some q.thread) same)))
found_row k (Some x ∷ slots) (suc place) r e = (let f = found_row (suc k) slots place r e in (suc f.0, (let i = f.1.0 in omega (arith, i), f.1.1)))

-- a row of a state is that of its id
pub row_of_id : (s : State) (place : ℕ) (r : ThreadRow) → slice_get (thread_rows s) place ≡ Some r → thread_of s r.id ≡ Some r.thread
row_of_id s place r e =
    let f = found_row 0 s.threads place r e in
    let i = f.1.0 in
    let same : f.0 ≡ r.id = omega (arith, i) in
    subst (λ (j : ℕ). at s.threads j ≡ Some r.thread) same f.1.1

-- a thread that stands for the id at a place is the one of the row there
pub row_there : (s : State) (place id : ℕ) (x : Thread) → option_map (λ r. r.id) (slice_get (thread_rows s) place) ≡ Some id → thread_of s id ≡ Some x → slice_get (thread_rows s) place ≡ Some (record { id = id; thread = x })
row_there s place id x =
    elim (slice_get (thread_rows s) place) as (λ o. slice_get (thread_rows s) place ≡ o → option_map (λ r. r.id) o ≡ Some id → thread_of s id ≡ Some x → o ≡ Some (record { id = id; thread = x })) [
      | None ↦ λ e i t. absurd (cc)
      | Some r ↦ λ e i t.
          let same : r.id ≡ id = cc in
          let here : thread_of s id ≡ Some r.thread = subst (λ j. thread_of s j ≡ Some r.thread) same (row_of_id s place r e) in
          let thread : r.thread ≡ x = cc in
          let row : record { id = r.id; thread = r.thread } ≡ record { id = id; thread = x } = rw (same, thread) refl in
          ap (λ q. Some q) row
    ] refl

-- a thread stands for the id at a place
pub none_there : (s : State) (place id : ℕ) → option_map (λ r. r.id) (slice_get (thread_rows s) place) ≡ Some id → thread_of s id ≡ None → slice_get (thread_rows s) place ≡ None
none_there s place id =
    elim (slice_get (thread_rows s) place) as (λ o. slice_get (thread_rows s) place ≡ o → option_map (λ r. r.id) o ≡ Some id → thread_of s id ≡ None → o ≡ None) [
      | None ↦ λ e i t. refl
      | Some r ↦ λ e i t.
          let same : r.id ≡ id = cc in
          let here : thread_of s id ≡ Some r.thread = subst (λ j. thread_of s j ≡ Some r.thread) same (row_of_id s place r e) in
          absurd (cc)
    ] refl

-- THE STATE IS KNOWN BY ITS ROWS

-- the first row of slots isn't that of an id before theirs
pub later : (k n : ℕ) (slots : List (Option Thread)) (r : ThreadRow) (more : List ThreadRow) → n < k → rows_from k slots ≡ r ∷ more → n < r.id
later k n [] r more l e = absurd (cc)
later k n (None ∷ slots) r more l e = later (suc k) n slots r more (omega arith) e
later k n (Some x ∷ slots) r more l e = (let same : record { id = k; thread = x } ≡ r = cc in let i : k ≡ r.id = ap (λ q. q.id) same in omega (arith, i))

pub known_slots : (k : ℕ) (xs ys : List (Option Thread)) → length xs ≡ length ys → rows_from k xs ≡ rows_from k ys → xs ≡ ys
known_slots k [] [] n e = refl
known_slots k [] (y ∷ ys) n e = absurd (omega arith)
known_slots k (x ∷ xs) [] n e = absurd (omega arith)
known_slots k (None ∷ xs) (None ∷ ys) n e = ap (λ zs. None ∷ zs) (known_slots (suc k) xs ys (omega arith) e)
known_slots k (None ∷ xs) (Some y ∷ ys) n e = absurd (let l = later (suc k) k xs (record { id = k; thread = y }) (rows_from (suc k) ys) (omega arith) e in omega (arith, l))
known_slots k (Some x ∷ xs) (None ∷ ys) n e = absurd (let l = later (suc k) k ys (record { id = k; thread = x }) (rows_from (suc k) xs) (omega arith) (sym e) in omega (arith, l))
known_slots k (Some x ∷ xs) (Some y ∷ ys) n e =
    let row : record { id = k; thread = x } ≡ record { id = k; thread = y } = cc in
    let rest : rows_from (suc k) xs ≡ rows_from (suc k) ys = cc in
    let here : x ≡ y = ap (λ (q : ThreadRow). q.thread) row in
    let there = known_slots (suc k) xs ys (omega arith) rest in
    rw (here, there) refl

pub same_threads : (r s : State) → IsWellFormed r → IsWellFormed s → thread_rows r ≡ thread_rows s → r.threads ≡ s.threads
same_threads r s h k e = known_slots 0 r.threads s.threads (h.size ∙ sym k.size) e

pub known_by_rows : (r s : State) → IsWellFormed r → IsWellFormed s → HaveSameRows r s → r ≡ s
known_by_rows r s h k e =
    let fields : record { threads = r.threads; waits = r.waits; harts = r.harts; hart_count = r.hart_count; keys = r.keys } ≡ s = rw (same_threads r s h k e.threads, e.waits, e.harts, e.hart_count, e.keys) refl in
    fields

-- A THREAD BEHIND THE OTHERS

-- there is no row where there is no thread, and the other way round
pub no_rows : (k : ℕ) (slots : List (Option Thread)) → ((i : ℕ) → at slots i ≡ None) → rows_from k slots ≡ []
no_rows k [] n = refl
no_rows k (None ∷ slots) n = no_rows (suc k) slots (λ i. n (suc i))
no_rows k (Some x ∷ slots) n = absurd (let e = n 0 in cc)

pub no_threads : (k : ℕ) (slots : List (Option Thread)) → rows_from k slots ≡ [] → (i : ℕ) → at slots i ≡ None
no_threads k [] e i = refl
no_threads k (None ∷ slots) e zero = refl
no_threads k (None ∷ slots) e (suc i) = no_threads (suc k) slots e i
no_threads k (Some x ∷ slots) e i = absurd (cc)

row_behind : (k : ℕ) (slots : List (Option Thread)) (j : ℕ) (r : ThreadRow) → r.id ≡ k + j → j < length slots → ((i : ℕ) → j ≤ i → at slots i ≡ None) → rows_from k (slice_set slots j (Some r.thread)) ≡ rows_from k slots ++ r ∷ []
row_behind k [] j r e l f = absurd (omega arith)
row_behind k (None ∷ slots) zero r e l f =
    let i : k ≡ r.id = omega (arith, e) in
    let none = no_rows (suc k) slots (λ i. f (suc i) (omega arith)) in
    rw (none, i) refl
row_behind k (Some x ∷ slots) zero r e l f = absurd (let z = f 0 (omega arith) in cc)
row_behind k (None ∷ slots) (suc j) r e l f = row_behind (suc k) slots j r (omega (arith, e)) (omega arith) (λ i m. f (suc i) (omega arith))
row_behind k (Some x ∷ slots) (suc j) r e l f =
    ap (λ rs. (record { id = k; thread = x }) ∷ rs) (row_behind (suc k) slots j r (omega (arith, e)) (omega arith) (λ i m. f (suc i) (omega arith)))

pub thread_behind : (r : ThreadRow) (s : State) → GoesOnWithThread r s → thread_rows (thread_appended r s) ≡ thread_rows s ++ r ∷ []
thread_behind r s g =
    let n = g.well_formed.size in
    let m = length-set s.threads r.id (Some r.thread) in
    let w = g.within in
    row_behind 0 s.threads r.id r (omega arith) (omega (arith, n, m, w)) (λ i l. g.above i l)
