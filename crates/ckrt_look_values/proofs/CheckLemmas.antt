-- Errors of memory and values that are looked at in the same steps come to what each comes to alone.
use Rattle.std.proofs.Common.{◌≡◌, ◌∙◌, ℕ, List, refl, ap}
use Rattle.ckrt_events.specs.declared.event.Event.{Event}
use Rattle.ckrt_machine.specs.Steps.{State}
use Rattle.ckrt_inspect.specs.declared.fault.InspectFault.{InspectFault}
use Rattle.ckrt_inspect.specs.declared.fault.InspectFault.TheVariants.{NotFormatted, Version, Damaged, Device, OutOfMemory, ShadowFull, Write, Range}
use Rattle.ckrt_look_calls.specs.Stretches.{IsEventsFault}
use Rattle.ckrt_look_calls.specs.Walks.{after_events}
use Rattle.ckrt_look_calls.proofs.PartLemmas.{events_alone}
use Rattle.ckrt_look_heap.specs.Steps as heap
use Rattle.ckrt_look_heap.specs.Within.{Noted}
use Rattle.ckrt_look_values.specs.Checks.{after_step}
use Rattle.ckrt_look_values.specs.Instructions as values
use Rattle.ckrt_look_values.specs.Values.{Shadow}
use Rattle.ckrt_look_values.specs.declared.checking.Checking.{Checking}

abbrev heap_in : Checking → Noted
heap_in c = c.heap

abbrev values_in : Checking → Shadow
values_in c = c.values

pub heap_alone : (k : ℕ) (es : List Event) (s : State) (now c : Checking) → now ≡ after_events after_step k es s c → now.heap ≡ after_events heap.after_step k es s c.heap
heap_alone k es s now c is = ap heap_in is ∙ events_alone after_step heap.after_step heap_in (λ p h t b. refl) k es s c

pub values_alone : (k : ℕ) (es : List Event) (s : State) (now c : Checking) → now ≡ after_events after_step k es s c → now.values ≡ after_events values.after_step k es s c.values
values_alone k es s now c is = ap values_in is ∙ events_alone after_step values.after_step values_in (λ p h t b. refl) k es s c

-- a fault of events, where what fills one room fills another one
pub faults_on : (F G : Type 0) (es : List Event) (s : State) (e : InspectFault) → (F → G) → IsEventsFault F es s e → IsEventsFault G es s e
faults_on F G es s Damaged on is = is
faults_on F G es s ShadowFull on is = on is
faults_on F G es s OutOfMemory on is = is
faults_on F G es s Write on is = is
faults_on F G es s NotFormatted on is = is
faults_on F G es s Version on is = is
faults_on F G es s Device on is = is
faults_on F G es s Range on is = is
