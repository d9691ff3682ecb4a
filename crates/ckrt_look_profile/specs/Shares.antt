-- What was counted, by function, by thread and by wait, and that with the most steps first.
use Rattle.std.specs.Prelude.{ℕ, suc, ◌+◌, nat_lt, if◌then◌else◌, List, [], ◌∷◌, map}
use Rattle.ckrt_look_profile.specs.declared.functions.Function.{Function}
use Rattle.ckrt_look_profile.specs.declared.row.Row.{Row}
use Rattle.ckrt_look_profile.specs.declared.shares.Share.{Share}
use Rattle.ckrt_look_profile.specs.declared.shares.Subject.TheVariants as subject
use Rattle.ckrt_look_profile.specs.declared.stacks.Frame.{Frame}
use Rattle.ckrt_look_profile.specs.declared.waits.Waited.{Waited}
use Rattle.ckrt_look_profile.specs.Functions.{functions_of}
use Rattle.ckrt_look_profile.specs.Stacks.{together}
use Rattle.ckrt_look_profile.specs.Counts.{Counts}

-- FUNCTIONS

abbrev pub function_share : Function → Share
function_share f = record { steps = f.steps; subject = subject.Function f.entry f.calls }

abbrev pub function_shares : List Function → List Share
function_shares fs = map function_share fs

-- those of stacks
abbrev pub functions : List Row → List Share
functions rows = function_shares (functions_of rows)

-- THREADS, the first of which has this number

abbrev pub threads_from : (t : ℕ) → List Frame → List Share
threads_from t [] = []
threads_from t (f ∷ fs) =
    record { steps = f.steps; subject = subject.Thread t } ∷ threads_from (t + 1) fs

abbrev pub thread_shares : List Frame → List Share
thread_shares fs = threads_from 0 fs

-- ALL STEPS, of threads and of shares, with these before

abbrev pub total_behind : ℕ → List Frame → ℕ
total_behind n [] = n
total_behind n (f ∷ fs) = total_behind (together n f.steps) fs

abbrev pub total : Counts → ℕ
total c = total_behind 0 c.stacks.frames

abbrev pub steps_behind : ℕ → List Share → ℕ
steps_behind n [] = n
steps_behind n (x ∷ xs) = steps_behind (together n x.steps) xs

abbrev pub steps_of : List Share → ℕ
steps_of xs = steps_behind 0 xs

-- WAITS

abbrev pub wait_share : Waited → Share
wait_share w = record { steps = w.steps; subject = subject.Wait w.thread w.awaited }

abbrev pub wait_shares : List Waited → List Share
wait_shares ws = map wait_share ws

-- THE MOST STEPS FIRST: of the same number what came first

-- how many of the first have no fewer steps
abbrev pub rank_of : (steps : ℕ) → List Share → ℕ
rank_of n [] = 0
rank_of n (y ∷ ys) = if nat_lt y.steps n then 0 else suc (rank_of n ys)

abbrev pub placed : Share → List Share → List Share
placed x [] = x ∷ []
placed x (y ∷ ys) = if nat_lt y.steps x.steps then x ∷ y ∷ ys else y ∷ placed x ys

abbrev pub ranked_behind : (before : List Share) → List Share → List Share
ranked_behind before [] = before
ranked_behind before (x ∷ xs) = ranked_behind (placed x before) xs

abbrev pub ranked : List Share → List Share
ranked xs = ranked_behind [] xs
