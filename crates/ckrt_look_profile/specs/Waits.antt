-- How long threads waited, in steps that were made meanwhile, by the thread and what it waited for.
use Rattle.std.specs.Prelude.{ℕ, suc, ◌==◌, nat_lt, Bool, true, false, ◌&&◌, if◌then◌else◌, List, [], ◌∷◌, ◌++◌, length, slice_get, slice_set, Option, Some, None}
use Rattle.ckrt_look_profile.specs.declared.waits.Awaited.{Awaited}
use Rattle.ckrt_look_profile.specs.declared.waits.Awaited.TheVariants as awaited
use Rattle.ckrt_look_profile.specs.declared.waits.Waited.{Waited}
use Rattle.ckrt_look_profile.specs.declared.waits.TheConstants.{WAITS}
use Rattle.ckrt_look_profile.specs.Stacks.{together}

-- of each thread and what it waited for; how long threads waited for which no row was left; and how many steps were made since waits
-- were counted
pub record Waits : Type 0 where
  pub rows : List Waited
  pub unkept : ℕ
  pub since : ℕ

abbrev pub is_awaited : Awaited → Awaited → Bool
is_awaited awaited.Input awaited.Input = true
is_awaited awaited.Sleep awaited.Sleep = true
is_awaited (awaited.Join t) (awaited.Join u) = t == u
is_awaited (awaited.Mutex a) (awaited.Mutex b) = a == b
is_awaited (awaited.Condition a) (awaited.Condition b) = a == b
is_awaited (awaited.Barrier a) (awaited.Barrier b) = a == b
is_awaited (awaited.Read a) (awaited.Read b) = a == b
is_awaited (awaited.Write a) (awaited.Write b) = a == b
is_awaited _ _ = false

abbrev pub is_waited : (t : ℕ) → Awaited → Waited → Bool
is_waited t a w = w.thread == t && is_awaited a w.awaited

-- the number of its row, or that of all rows
abbrev pub wait_place : (t : ℕ) → Awaited → List Waited → ℕ
wait_place t a [] = 0
wait_place t a (w ∷ ws) = if is_waited t a w then 0 else suc (wait_place t a ws)

abbrev pub with_wait : (t : ℕ) → Awaited → Waits → Waits
with_wait t a s =
    if nat_lt (length s.rows) WAITS
    then record s { rows = s.rows ++ record { thread = t; awaited = a; steps = s.since } ∷ [] }
    else record s { unkept = together s.unkept s.since }

abbrev pub waited_at : (t : ℕ) → Awaited → (place : ℕ) → Option Waited → Waits → Waits
waited_at t a k None s = with_wait t a s
waited_at t a k (Some w) s =
    record s { rows = slice_set s.rows k (record w { steps = together w.steps s.since }) }

-- a thread waits for this, since waits were counted
abbrev pub waited : (t : ℕ) → Awaited → Waits → Waits
waited t a s = waited_at t a (wait_place t a s.rows) (slice_get s.rows (wait_place t a s.rows)) s

-- so many steps more
abbrev pub passed : (m : ℕ) → Waits → Waits
passed m s = record s { since = together s.since m }

-- all waits are counted
abbrev pub looked : Waits → Waits
looked s = record s { since = 0 }

abbrev pub no_waits : Waits
no_waits = record { rows = []; unkept = 0; since = 0 }
