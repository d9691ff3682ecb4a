-- What is told of a seed is what its run has, always the same, and of the run whose outcome is told.
use Rattle.std.proofs.Common.{◌==◌, List, [], ◌∷◌}
use Rattle.std.specs.List.{AllByRecursion}
use Rattle.ckrt_events.specs.Bytes.{IsInRange}
use Rattle.ckrt_events.specs.declared.event.Event.{Event}
use Rattle.ckrt_machine.specs.Events.{AllAccepted, step}
use Rattle.ckrt_machine.specs.Steps.{State}
use Rattle.ckrt_look_calls.specs.Rooms.{words_of}
use Rattle.ckrt_look_heap.specs.Steps.{of_events}
use Rattle.ckrt_look_heap.proofs.OnlyLemmas.{only_errors as only_errors_told}
use Rattle.ckrt_look_races.proofs.CycleLemmas.{only_cycles_told}
use Rattle.ckrt_look_races.proofs.RiseLemmas.{only_races_told}
use Rattle.ckrt_hunt_schedules.specs.Runs.{beginning}
use Rattle.ckrt_hunt_schedules.specs.Tallies.{plan_in}
use Rattle.ckrt_hunt_schedules.proofs.RunLemmas.{same_events}
use Rattle.ckrt_hunt_looks.specs.Laws.{LooksAreOfTheRun, LooksRepeat, OnlyCyclesAreTold, OnlyErrorsAreTold, OnlyRacesAreTold}

-- accepted events are in their ranges
all_in_range : (es : List Event) (s : State) → AllAccepted es s → AllByRecursion IsInRange es
all_in_range [] s a = tt
all_in_range (e ∷ es) s a = (a.0.in_range, all_in_range es (step e s).state a.1)

pub only_races : OnlyRacesAreTold
only_races h seed run = only_races_told 0 run.events h.start (all_in_range run.events h.start run.accepted)

pub only_cycles : OnlyCyclesAreTold
only_cycles h seed run = only_cycles_told 0 run.events h.start

pub only_errors : OnlyErrorsAreTold
only_errors h seed run = only_errors_told (0 == 0) (words_of h.start) (of_events 0 run.events h.start)

pub repeat : LooksRepeat
repeat h seed a b = same_events (plan_in h seed) a.events b.events (beginning h.start) a.ending b.ending a.scheduled a.ended b.scheduled b.ended

pub of_the_run : LooksAreOfTheRun
of_the_run h seed told comes run = same_events (plan_in h seed) comes.events run.events (beginning h.start) comes.ending run.ending comes.scheduled comes.ended run.scheduled run.ended
