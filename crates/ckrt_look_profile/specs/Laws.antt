-- The sums of a profile are the steps of the events.
use Rattle.std.specs.Prelude.{◌≡◌, ◌<◌, ℕ, ◌+◌, ◌^◌, List, [], ◌∷◌}
use Rattle.std.specs.List.{sum_by}
use Rattle.ckrt_events.specs.declared.event.Event.{Event}
use Rattle.ckrt_machine.specs.Events as machine
use Rattle.ckrt_machine.specs.Steps.{State}
use Rattle.ckrt_machine.specs.declared.event.Answer.{Answer}
use Rattle.ckrt_machine.specs.declared.event.Answer.TheVariants.{Placed, Ran, Taken, Closed, Ticked}
use Rattle.ckrt_look_profile.specs.declared.shares.Share.{Share}
use Rattle.ckrt_look_profile.specs.CountLaws.{CountsSteps}
use Rattle.ckrt_look_profile.specs.Shares.{functions, ranked}
use Rattle.ckrt_look_profile.specs.Recorded.{counted_of}

-- the steps that a machine says it made
abbrev pub steps_of : Answer → ℕ
steps_of Placed = 0
steps_of (Ran m how) = m
steps_of (Taken n) = 0
steps_of Closed = 0
steps_of (Ticked n) = 0

abbrev pub steps_made : List Event → State → ℕ
steps_made [] s = 0
steps_made (e ∷ es) s = steps_of (machine.step e s).answer + steps_made es (machine.step e s).state

-- BY STACK AND BY THREAD the sums are just the steps that the machine answers
abbrev pub SumsAreTheSteps : Type 0
SumsAreTheSteps =
    (es : List Event) (s : State) → steps_made es s < 2 ^ 64
    → CountsSteps (counted_of es s) (steps_made es s)

abbrev pub share_steps : List Share → ℕ
share_steps xs = sum_by (λ x. x.steps) xs

-- AND SO ARE THOSE OF THE FUNCTIONS that the table tells, with the steps on stacks without a row
abbrev pub FunctionsHaveAllSteps : Type 0
FunctionsHaveAllSteps =
    (es : List Event) (s : State) → steps_made es s < 2 ^ 64
    → share_steps (ranked (functions (counted_of es s).stacks.rows))
    + (counted_of es s).stacks.unkept ≡ steps_made es s
