-- Waits that end at a moment (this project's choice, after the absolute timeouts of POSIX.1-2017, pthread_mutex_timedlock,
-- pthread_cond_timedwait and clock_nanosleep).
use Rattle.std.specs.Prelude.{ℕ, ◌==◌, nat_lt, nat_le, Bool, false, true, ◌&&◌, ◌||◌, if◌then◌else◌, Option, Some, None, List, [], ◌∷◌, slice_get, unwrap_or}
use Rattle.std.specs.List.{filter}
use Rattle.ckrt_thread.specs.declared.records.Wait.{Wait}

-- the clock has not reached the deadline, if there is one
abbrev pub is_ahead : ℕ → Option ℕ → Bool
is_ahead now None = true
is_ahead now (Some d) = nat_lt now d

-- the clock has reached the deadline of the wait
abbrev pub is_reached : ℕ → Option ℕ → Bool
is_reached now None = false
is_reached now (Some d) = nat_le d now

abbrev pub is_due : ℕ → Wait → Bool
is_due now w = is_reached now w.deadline

-- the moment at which a due wait was to end
abbrev pub due_at : Wait → ℕ
due_at w = unwrap_or w.deadline 0

-- due waits end in order of deadline, then of thread
abbrev pub is_before : Wait → Wait → Bool
is_before v w = nat_lt (due_at v) (due_at w) || (due_at v == due_at w && nat_lt v.thread w.thread)

-- a wait at its place among others, which are in order
abbrev pub inserted : Wait → List Wait → List Wait
inserted w [] = w ∷ []
inserted w (v ∷ vs) = if is_before v w then v ∷ inserted w vs else w ∷ v ∷ vs

abbrev pub in_order : List Wait → List Wait
in_order [] = []
in_order (w ∷ ws) = inserted w (in_order ws)

-- the due waits, in the order in which they end
abbrev pub due_waits : ℕ → List Wait → List Wait
due_waits now ws = in_order (filter (is_due now) ws)

-- the due wait that ends first
abbrev pub earliest_due : ℕ → List Wait → Option Wait
earliest_due now ws = slice_get (due_waits now ws) 0

-- the first to end of a due wait and another
abbrev pub sooner_of : Wait → Option Wait → Wait
sooner_of w None = w
sooner_of w (Some v) = if is_before v w then v else w
