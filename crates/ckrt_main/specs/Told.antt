-- What the lines of a service tell a reader.
use Rattle.std.specs.Prelude.{◌≡◌, ◌<◌, ◌+◌, ℕ, List, ◌++◌, length, take, get_or, Option}
use Rattle.std.specs.List.{AllByRecursion}
use Rattle.ckrt_disk.specs.declared.disk.Disk.{Ghosts}
use Rattle.ckrt_events.specs.declared.event.Event.{Event}
use Rattle.ckrt_stored.specs.Programs.{Program}
use Rattle.ckrt_recovery.specs.declared.session.Session.{Session}
use Rattle.ckrt_recovery.specs.Between.{RecoversBetween, StandsIn}
use Rattle.ckrt_main.specs.Replies.{acks_of}
use Rattle.ckrt_recovery.specs.Represents.{Represents}
use Rattle.ckrt_main.specs.Service.{Processes}
use Rattle.ckrt_recovery.specs.Accepts.{Accepts}
use Rattle.ckrt_main.specs.Outputs.{AreOutput}

-- For each `ack K` that a service wrote, whatever it answered: every image that a stop leaves after the service has ended, while the
-- session goes on as far as `later`, recovers to a list that begins with the first K of the events represented and accepted.
abbrev pub AcksAreDurable : {D : Type 0} {g : Ghosts D} → Session D g → Session D g → Session D g
    → Type 0
AcksAreDurable {D} {g} before after later =
    (a b r s : Option (List ℕ)) (service : Processes a b r s before after) (more : List Event) → Accepts more after later → g.is_honest later.disk
    → (p : Program) (events : List Event) → Represents p events before → (image : List ℕ)
    → g.left_since later.disk (g.moment after.disk) image
    → AllByRecursion (λ k.
    RecoversBetween p (take k (events ++ service.accepted))
    ((events ++ service.accepted) ++ more) later.progress.confirmed image)
    (acks_of (service.shows.replies ++ service.shows.broken))

-- Each line of output that a service wrote, whatever it answered, is the plain fold's output of acknowledged events, at its offset.
abbrev pub OutsAreOutput : {D : Type 0} {g : Ghosts D} → Session D g → Session D g → Type 0
OutsAreOutput {D} {g} before after =
    (a b r s : Option (List ℕ)) (service : Processes a b r s before after) → g.is_honest after.disk
    → (p : Program) (events : List Event) → Represents p events before
    → AreOutput p (events ++ service.accepted) after (service.shows.replies ++ service.shows.broken)

-- where one output goes on after another, two lines of them have the same byte at the same offset
abbrev pub LinesAgree : List ℕ → List ℕ → Type 0
LinesAgree out more =
    (x y : ℕ × List ℕ) → StandsIn out x → StandsIn (out ++ more) y → (i j : ℕ) → i < length x.1 → j < length y.1 → x.0 + i ≡ y.0 + j → get_or x.1 i 0 ≡ get_or y.1 j 0
