-- The stack of calls of each thread, and how many steps were made on each stack (this project's choice): a call puts a function onto
-- the stack, a return takes one away, and each step counts to the stack on which it is made.
use Rattle.std.specs.Prelude.{ℕ, suc, ◌+◌, ◌-◌, ◌==◌, nat_lt, min, Bool, false, ◌&&◌, if◌then◌else◌, List, [], ◌∷◌, ◌++◌, length, get_or, slice_get, slice_set, replicate, Option, Some, None}
use Rattle.ckrt_look_profile.specs.declared.row.Base.{Base}
use Rattle.ckrt_look_profile.specs.declared.row.Base.TheVariants as base
use Rattle.ckrt_look_profile.specs.declared.row.Row.{Row}
use Rattle.ckrt_look_profile.specs.declared.row.Position.{Position}
use Rattle.ckrt_look_profile.specs.declared.row.TheConstants.{ROWS}
use Rattle.ckrt_look_profile.specs.declared.stacks.Frame.{Frame}
use Rattle.ckrt_look_profile.specs.declared.turn.Turn.{Turn}
use Rattle.ckrt_look_profile.specs.declared.turn.Turn.TheVariants as turn

-- two together, as far as 64 bits count
abbrev pub together : ℕ → ℕ → ℕ
together n m = min (n + m) 18446744073709551615

abbrev pub one_more : ℕ → ℕ
one_more n = together n 1

-- ROWS: the row of a function on its base

abbrev pub is_base : Base → Base → Bool
is_base (base.Thread t) (base.Thread u) = t == u
is_base (base.Row i) (base.Row j) = i == j
is_base (base.Thread t) (base.Row j) = false
is_base (base.Row i) (base.Thread u) = false

abbrev pub is_row : Base → (entry : ℕ) → Row → Bool
is_row b p r = r.entry == p && is_base b r.base

-- the number of its row, or that of all rows
abbrev pub place_of : Base → (entry : ℕ) → List Row → ℕ
place_of b p [] = 0
place_of b p (r ∷ rs) = if is_row b p r then 0 else suc (place_of b p rs)

abbrev pub at_row : ℕ → Position
at_row k = record { base = base.Row k; lost = 0 }

abbrev pub first_row : Base → (entry : ℕ) → Row
first_row b p = record { base = b; entry = p; calls = 1; steps = 0 }

-- A CALL of the function at an address: the rows behind it, and where the thread is

pub record Entered : Type 0 where
  pub rows : List Row
  pub position : Position

abbrev pub with_row : Base → (entry : ℕ) → List Row → Entered
with_row b p rows =
    if nat_lt (length rows) ROWS
    then record { rows = rows ++ first_row b p ∷ []; position = at_row (length rows) }
    else record { rows = rows; position = record { base = b; lost = 1 } }

-- where its row has this number, and is there or not
abbrev pub entered_at : Base → (entry place : ℕ) → Option Row → List Row → Entered
entered_at b p k None rows = with_row b p rows
entered_at b p k (Some r) rows = record {
  rows = slice_set rows k (record r { calls = one_more r.calls });
  position = at_row k;
}

-- beyond the calls for which no row was left there are more
abbrev pub entered : Position → (entry : ℕ) → List Row → Entered
entered q p rows =
    if q.lost == 0
    then entered_at q.base p (place_of q.base p rows) (slice_get rows (place_of q.base p rows)) rows
    else record { rows = rows; position = record q { lost = one_more q.lost } }

-- A RETURN takes one function away; the first of a thread stays

abbrev pub row_at : Base → List Row → Option Row
row_at (base.Thread t) rows = None
row_at (base.Row k) rows = slice_get rows k

abbrev pub on_base : Position → Base → Position
on_base q (base.Thread t) = q
on_base q (base.Row k) = at_row k

abbrev pub below : Position → Option Row → Position
below q None = q
below q (Some r) = on_base q r.base

abbrev pub left : Position → List Row → Position
left q rows = if q.lost == 0 then below q (row_at q.base rows) else record q { lost = q.lost - 1 }

-- STEPS, so many on one stack, count to its row, or to those without

pub record Counted : Type 0 where
  pub rows : List Row
  pub unkept : ℕ

abbrev pub counted_at : (m : ℕ) → Base → Option Row → List Row → (unkept : ℕ) → Counted
counted_at m (base.Row k) (Some r) rows n =
    record { rows = slice_set rows k (record r { steps = together r.steps m }); unkept = n }
counted_at m (base.Row k) None rows n = record { rows = rows; unkept = together n m }
counted_at m (base.Thread t) o rows n = record { rows = rows; unkept = together n m }

abbrev pub counted : (m : ℕ) → Position → List Row → (unkept : ℕ) → Counted
counted m q rows n =
    if q.lost == 0 then counted_at m q.base (row_at q.base rows) rows n
    else record { rows = rows; unkept = together n m }

-- WHERE A THREAD COMES TO, by how it went on from its step before. A thread begins a stack anew with its first step, and where the runtime
-- lets it go on elsewhere than behind its call: in a clean-up handler or a destructor, or as another thread of the same number.

abbrev pub bottom : (t : ℕ) → Position
bottom t = record { base = base.Thread t; lost = 0 }

abbrev pub stays : Position → List Row → Entered
stays q rows = record { rows = rows; position = q }

abbrev pub arrived : (t p : ℕ) → Position → Option Turn → List Row → Entered
arrived t p q None rows = entered (bottom t) p rows
arrived t p q (Some turn.Onward) rows = stays q rows
arrived t p q (Some turn.Call) rows = entered q p rows
arrived t p q (Some turn.Return) rows = stays (left q rows) rows
arrived t p q (Some turn.Swap) rows = entered (left q rows) p rows
arrived t p q (Some (turn.Runtime e)) rows =
    if e == p then stays q rows else entered (bottom t) p rows

-- ALL STACKS: the rows, the steps without one, and of each thread where it is, how it goes on from there, and how many steps it made

pub record Stacks : Type 0 where
  pub rows : List Row
  pub unkept : ℕ
  pub frames : List Frame

abbrev pub begin : Frame
begin = record { position = record { base = base.Thread 0; lost = 0 }; last = None; steps = 0 }

abbrev pub frame_of : (t : ℕ) → Stacks → Frame
frame_of t s = get_or s.frames t begin

-- behind m steps on a stack, from the last of which the thread goes on so
abbrev pub next_frame : (m : ℕ) → Frame → Position → Turn → Frame
next_frame m f q u = record { position = q; last = Some u; steps = together f.steps m }

-- the same of all stacks, where the thread came to its one so
abbrev pub stepped_from : (m t : ℕ) → Turn → Frame → Entered → Stacks → Stacks
stepped_from m t u f e s = record {
  rows = (counted m e.position e.rows s.unkept).rows;
  unkept = (counted m e.position e.rows s.unkept).unkept;
  frames = slice_set s.frames t (next_frame m f e.position u);
}

-- behind m steps of a thread on one stack, the first of them at p, from the last of which it goes on so
abbrev pub stepped : (m t p : ℕ) → Turn → Stacks → Stacks
stepped m t p u s =
    stepped_from m t u (frame_of t s)
    (arrived t p (frame_of t s).position (frame_of t s).last s.rows) s

-- A thread that made steps before, whose next is at p: its stack begins there, by no call
abbrev pub met_frame : Frame → Position → (p : ℕ) → Frame
met_frame f q p = record { position = q; last = Some (turn.Runtime p); steps = f.steps }

abbrev pub met_at : (t p : ℕ) → Entered → Stacks → Stacks
met_at t p e s = record {
  rows = e.rows;
  unkept = s.unkept;
  frames = slice_set s.frames t (met_frame (frame_of t s) e.position p);
}

abbrev pub met : (t p : ℕ) → Stacks → Stacks
met t p s = met_at t p (entered (bottom t) p s.rows) s

abbrev pub no_stacks : Stacks
no_stacks = record { rows = []; unkept = 0; frames = replicate 65 begin }
