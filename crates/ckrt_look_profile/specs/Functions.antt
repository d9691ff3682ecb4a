-- The functions of stacks: each has the steps and the calls of all stacks on top of which it is. They stand in the order in which they
-- were met.
use Rattle.std.specs.Prelude.{ℕ, suc, ◌==◌, if◌then◌else◌, List, [], ◌∷◌}
use Rattle.ckrt_look_profile.specs.declared.functions.Function.{Function}
use Rattle.ckrt_look_profile.specs.declared.row.Row.{Row}
use Rattle.ckrt_look_profile.specs.Stacks.{together}

-- with one stack, and with one more
abbrev pub first_of : Row → Function
first_of r = record { entry = r.entry; calls = r.calls; steps = r.steps }

abbrev pub joined : Function → Row → Function
joined f r = record f { calls = together f.calls r.calls; steps = together f.steps r.steps }

-- functions with a stack more
abbrev pub with_stack : Row → List Function → List Function
with_stack r [] = first_of r ∷ []
with_stack r (f ∷ fs) = if f.entry == r.entry then joined f r ∷ fs else f ∷ with_stack r fs

-- with these stacks more
abbrev pub functions_behind : List Function → List Row → List Function
functions_behind fs [] = fs
functions_behind fs (r ∷ rs) = functions_behind (with_stack r fs) rs

abbrev pub functions_of : List Row → List Function
functions_of rows = functions_behind [] rows

-- the number of the function at an address, or that of all functions
abbrev pub function_place : (entry : ℕ) → List Function → ℕ
function_place p [] = 0
function_place p (f ∷ fs) = if f.entry == p then 0 else suc (function_place p fs)
