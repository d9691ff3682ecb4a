-- Each step counts once: sums of lists of which one item counts one more.
use Rattle.std.proofs.Common.{◌≡◌, ◌<◌, ℕ, zero, suc, ◌+◌, ◌*◌, ◌==◌, Bool, true, false, if◌then◌else◌, nat_lt, List, [], ◌∷◌, ◌++◌, length, get_or, slice_get, slice_set, replicate, Option, Some, None, refl, sym, ap, ◌∙◌, subst, arith}
use Rattle.std.proofs.lemmas.Bool.Decides.{nat_tests}
use Rattle.std.proofs.lemmas.List.Sums.{sum_by-append, sum_by-cons}
use Rattle.std.proofs.lemmas.List.Folds.{sum_by-replicate}
use Rattle.std.proofs.lemmas.Option.{slice_get-get_or}
use Rattle.std.proofs.lemmas.List.{length-set}
use Rattle.std.specs.List.{sum_by}
use Rattle.ckrt_look_profile.specs.declared.counts.Note.{Note}
use Rattle.ckrt_look_profile.specs.declared.counts.Note.TheVariants as note
use Rattle.ckrt_look_profile.specs.declared.counts.Step.{Step}
use Rattle.ckrt_look_profile.specs.declared.row.Base.{Base}
use Rattle.ckrt_look_profile.specs.declared.row.Base.TheVariants as base
use Rattle.ckrt_look_profile.specs.declared.row.Row.{Row}
use Rattle.ckrt_look_profile.specs.declared.row.Position.{Position}
use Rattle.ckrt_look_profile.specs.declared.row.TheConstants.{ROWS}
use Rattle.ckrt_look_profile.specs.declared.stacks.Frame.{Frame}
use Rattle.ckrt_look_profile.specs.declared.stacks.TheConstants.{THREADS}
use Rattle.ckrt_look_profile.specs.declared.turn.Turn.{Turn}
use Rattle.ckrt_look_profile.specs.declared.turn.Turn.TheVariants as turn
use Rattle.ckrt_look_profile.specs.Stacks as stacks
use Rattle.ckrt_look_profile.specs.Stacks.{Counted, Entered, Stacks, arrived, begin, bottom, counted, counted_at, entered, entered_at, first_row, frame_of, left, met_frame, next_frame, no_stacks, one_more, place_of, row_at, stepped, together, with_row}
use Rattle.ckrt_look_profile.specs.Counts.{Counts, behind, behind_all, nothing, number_of}
use Rattle.ckrt_look_profile.specs.CountLaws.{CountsSteps, EachStepCountsOnce, steps_in}

-- one more is one more while it fits
more_is : (n : ℕ) → n < 18446744073709551615 → one_more n ≡ suc n
more_is n lt = omega (arith, lt)

-- AN ITEM THAT COUNTS ONE MORE, of a list whose sum fits
module _ {X : Type 0} (f : X → ℕ) where
  pub set_sum : (xs : List X) (i : ℕ) (x y : X) → slice_get xs i ≡ Some x → f y ≡ one_more (f x) → sum_by f xs < 18446744073709551615 → sum_by f (slice_set xs i y) ≡ suc (sum_by f xs)
  set_sum [] i x y there is lt = absurd (cc)
  set_sum (z ∷ zs) zero x y there is lt =
      let same : z ≡ x = cc in
      let fz : f z ≡ f x = ap f same in
      let all : sum_by f (z ∷ zs) ≡ f z + sum_by f zs = sum_by-cons f z zs in
      let more : f y ≡ suc (f x) = is ∙ more_is (f x) (omega (arith, lt, fz, all)) in
      sum_by-cons f y zs ∙ omega (arith, more, fz, all)
  set_sum (z ∷ zs) (suc i) x y there is lt =
      let all : sum_by f (z ∷ zs) ≡ f z + sum_by f zs = sum_by-cons f z zs in
      let rest : sum_by f (slice_set zs i y) ≡ suc (sum_by f zs) = set_sum zs i x y there is (omega (arith, lt, all)) in
      sum_by-cons f z (slice_set zs i y) ∙ omega (arith, rest, all)

  -- and one that counts as before
  pub set_same : (xs : List X) (i : ℕ) (x y : X) → slice_get xs i ≡ Some x → f y ≡ f x → sum_by f (slice_set xs i y) ≡ sum_by f xs
  set_same [] i x y there is = absurd (cc)
  set_same (z ∷ zs) zero x y there is = (let same : z ≡ x = cc in sum_by-cons f y zs ∙ ap (λ n. n + sum_by f zs) (is ∙ sym (ap f same)) ∙ sym (sum_by-cons f z zs))
  set_same (z ∷ zs) (suc i) x y there is = sum_by-cons f z (slice_set zs i y) ∙ ap (λ n. f z + n) (set_same zs i x y there is) ∙ sym (sum_by-cons f z zs)

  none_sum : (n : ℕ) (x : X) → f x ≡ 0 → sum_by f (replicate n x) ≡ 0
  none_sum n x is = sum_by-replicate f n x ∙ ap (λ m. n * m) is ∙ omega arith

-- THE SUMS

abbrev pub row_steps : List Row → ℕ
row_steps rs = sum_by (λ (r : Row). r.steps) rs

abbrev pub frame_steps : List Frame → ℕ
frame_steps fs = sum_by (λ (f : Frame). f.steps) fs

-- A CALL makes no step

entered_same : (b : Base) (p k : ℕ) (o : Option Row) (rows : List Row) → slice_get rows k ≡ o → row_steps (entered_at b p k o rows).rows ≡ row_steps rows
entered_same b p k (Some r) rows there = set_same (λ (x : Row). x.steps) rows k r (record r { calls = one_more r.calls }) there refl
entered_same b p k None rows there = go (nat_lt (length rows) ROWS)
  where
    yes : Entered
    yes = record { rows = rows ++ first_row b p ∷ []; position = stacks.at_row (length rows) }

    no : Entered
    no = record { rows = rows; position = record { base = b; lost = 1 } }

    go : (t : Bool) → row_steps (if◌then◌else◌ {A = Entered} t yes no).rows ≡ row_steps rows
    go true = (let e = sum_by-append (λ (x : Row). x.steps) rows (first_row b p ∷ []) in e ∙ omega arith)
    go false = refl

entry_same : (q : Position) (p : ℕ) (rows : List Row) → row_steps (entered q p rows).rows ≡ row_steps rows
entry_same q p rows = go (q.lost == 0)
  where
    yes : Entered
    yes = entered_at q.base p (place_of q.base p rows) (slice_get rows (place_of q.base p rows)) rows

    no : Entered
    no = record { rows = rows; position = record q { lost = one_more q.lost } }

    go : (t : Bool) → row_steps (if◌then◌else◌ {A = Entered} t yes no).rows ≡ row_steps rows
    go true = entered_same q.base p (place_of q.base p rows) (slice_get rows (place_of q.base p rows)) rows refl
    go false = refl

arrival_same : (t p : ℕ) (q : Position) (o : Option Turn) (rows : List Row) → row_steps (arrived t p q o rows).rows ≡ row_steps rows
arrival_same t p q None rows = entry_same (bottom t) p rows
arrival_same t p q (Some turn.Onward) rows = refl
arrival_same t p q (Some turn.Call) rows = entry_same q p rows
arrival_same t p q (Some turn.Return) rows = refl
arrival_same t p q (Some turn.Swap) rows = entry_same (left q rows) p rows
arrival_same t p q (Some (turn.Runtime e)) rows = go (e == p)
  where
    go : (b : Bool) → row_steps (if◌then◌else◌ {A = Entered} b (stacks.stays q rows) (entered (bottom t) p rows)).rows ≡ row_steps rows
    go true = refl
    go false = entry_same (bottom t) p rows

-- A STEP counts once

abbrev total_of : Counted → ℕ
total_of c = row_steps c.rows + c.unkept

unkept_once : (rows : List Row) (n : ℕ) → row_steps rows + n < 18446744073709551615 → row_steps rows + one_more n ≡ suc (row_steps rows + n)
unkept_once rows n lt = (let one : one_more n ≡ suc n = more_is n (omega (arith, lt)) in omega (arith, one))

count_at_once : (b : Base) (o : Option Row) (rows : List Row) (n : ℕ) → row_at b rows ≡ o → row_steps rows + n < 18446744073709551615 → total_of (counted_at 1 b o rows n) ≡ suc (row_steps rows + n)
count_at_once (base.Row k) (Some r) rows n there lt =
    let one : row_steps (slice_set rows k (record r { steps = one_more r.steps })) ≡ suc (row_steps rows) =
    set_sum (λ (x : Row). x.steps) rows k r (record r { steps = one_more r.steps }) there refl (omega (arith, lt)) in
    ap (λ m. m + n) one ∙ omega arith
count_at_once (base.Row k) None rows n there lt = unkept_once rows n lt
count_at_once (base.Thread t) (Some r) rows n there lt = unkept_once rows n lt
count_at_once (base.Thread t) None rows n there lt = unkept_once rows n lt

count_once : (q : Position) (rows : List Row) (n : ℕ) → row_steps rows + n < 18446744073709551615 → total_of (counted 1 q rows n) ≡ suc (row_steps rows + n)
count_once q rows n lt = go (q.lost == 0)
  where
    go : (t : Bool) → total_of (if◌then◌else◌ {A = Counted} t (counted_at 1 q.base (row_at q.base rows) rows n) (record { rows = rows; unkept = one_more n })) ≡ suc (row_steps rows + n)
    go true = count_at_once q.base (row_at q.base rows) rows n refl lt
    go false = unkept_once rows n lt

-- ALL STEPS

-- so many so far, of 65 threads
pub record IsCounted (c : Counts) (n : ℕ) : Type 0 where
  pub sums : CountsSteps c n
  pub threads : length c.stacks.frames ≡ THREADS

pub number_small : (t : ℕ) → number_of t < THREADS
number_small t = go (nat_lt t THREADS) refl
  where
    go : (b : Bool) → nat_lt t THREADS ≡ b → (if b then t else 0) < THREADS
    go true e = grind (arith, nat_tests, e)
    go false e = omega arith

read_frame : (fs : List Frame) (i : ℕ) → i < length fs → slice_get fs i ≡ Some (get_or fs i begin)
read_frame fs i lt = slice_get-get_or fs i begin lt

stacks_once : (t p : ℕ) (u : Turn) (s : Stacks) (n : ℕ) → t < length s.frames → n < 18446744073709551615 → row_steps s.rows + s.unkept ≡ n → frame_steps s.frames ≡ n
    → (row_steps (stepped 1 t p u s).rows + (stepped 1 t p u s).unkept ≡ suc n) × (frame_steps (stepped 1 t p u s).frames ≡ suc n)
stacks_once t p u s n lt less rows frames =
    let f = frame_of t s in
    let e = arrived t p f.position f.last s.rows in
    let same : row_steps e.rows ≡ row_steps s.rows = arrival_same t p f.position f.last s.rows in
    let now : row_steps e.rows + s.unkept ≡ n = ap (λ m. m + s.unkept) same ∙ rows in (
      count_once e.position e.rows s.unkept (omega (arith, now, less)) ∙ ap suc now,
      set_sum (λ (x : Frame). x.steps) s.frames t f (next_frame 1 f e.position u) (read_frame s.frames t lt) refl (omega (arith, frames, less)) ∙ ap suc frames,
    )

step_once : (s : Step) (c : Counts) (n : ℕ) → n < 18446744073709551615 → IsCounted c n → IsCounted (behind (note.Step s) c) (suc n)
step_once s c n less is =
    let t = number_of s.thread in
    let f = frame_of t c.stacks in
    let there : t < length c.stacks.frames = omega (arith, number_small s.thread, is.threads) in
    let both = stacks_once t s.pc s.turn c.stacks n there less is.sums.by_stack is.sums.by_thread in
    record {
      sums = record { by_stack = both.0; by_thread = both.1 };
      threads = length-set c.stacks.frames t (next_frame 1 f (arrived t s.pc f.position f.last c.stacks.rows).position s.turn) ∙ is.threads;
    }

-- a thread that is met makes no step
met_same : (t p : ℕ) (c : Counts) (n : ℕ) → IsCounted c n → IsCounted (behind (note.Met t p) c) n
met_same thread p c n is =
    let t = number_of thread in
    let f = frame_of t c.stacks in
    let e = entered (bottom t) p c.stacks.rows in
    let there : t < length c.stacks.frames = omega (arith, number_small thread, is.threads) in
    record {
      sums = record {
        by_stack = ap (λ m. m + c.stacks.unkept) (entry_same (bottom t) p c.stacks.rows) ∙ is.sums.by_stack;
        by_thread = set_same (λ (x : Frame). x.steps) c.stacks.frames t f (met_frame f e.position p) (read_frame c.stacks.frames t there) refl ∙ is.sums.by_thread;
      };
      threads = length-set c.stacks.frames t (met_frame f e.position p) ∙ is.threads;
    }

all_once : (ns : List Note) (c : Counts) (n : ℕ) → n + steps_in ns < 18446744073709551616 → IsCounted c n → IsCounted (behind_all ns c) (n + steps_in ns)
all_once [] c n less is = subst (IsCounted c) (omega arith) is
all_once (note.Met t p ∷ ns) c n less is = all_once ns (behind (note.Met t p) c) n less (met_same t p c n is)
all_once (note.Step s ∷ ns) c n less is =
    subst (IsCounted (behind_all ns (behind (note.Step s) c))) (omega arith)
    (all_once ns (behind (note.Step s) c) (suc n) (omega (arith, less)) (step_once s c n (omega (arith, less)) is))
all_once (note.Wait t a ∷ ns) c n less is = all_once ns (behind (note.Wait t a) c) n less (record { sums = record { by_stack = is.sums.by_stack; by_thread = is.sums.by_thread }; threads = is.threads })
all_once (note.Looked ∷ ns) c n less is = all_once ns (behind note.Looked c) n less (record { sums = record { by_stack = is.sums.by_stack; by_thread = is.sums.by_thread }; threads = is.threads })

begin_counted : IsCounted nothing 0
begin_counted = record {
  sums = record {
    by_stack = refl;
    by_thread = none_sum (λ (f : Frame). f.steps) 65 begin refl;
  };
  threads = refl;
}

pub each_counts_once : EachStepCountsOnce
each_counts_once ns less = (subst (IsCounted (behind_all ns nothing)) (omega arith) (all_once ns nothing 0 (omega (arith, less)) begin_counted)).sums
