-- What is detected in a room of slots: operation by operation as with the whole shadow, until the room is used up. From then on nothing is noted.
use Rattle.std.specs.Prelude.{◌≡◌, ◌≤◌, ℕ, ◌+◌, ◌/◌, nat_lt, Bool, false, if◌then◌else◌, List, [], ◌∷◌, length}
use Rattle.ckrt_look_clocks.specs.declared.clock.Clock.{Clock}
use Rattle.ckrt_look_clocks.specs.declared.operation.Operation.{Operation}
use Rattle.ckrt_look_clocks.specs.declared.operation.Operation.TheVariants as operation
use Rattle.ckrt_look_clocks.specs.Detection.{Found, Watched, behind, behind_all, few_words, fresh, word_of}
use Rattle.ckrt_look_clocks.specs.LockHistories.{Ordered}
use Rattle.ckrt_look_clocks.specs.Parts.{Shadowed, Slots, no_slots, parts_over, touched, touched_parts}

-- what was watched, and the slots
pub record Detected : Type 0 where
  pub watched : Watched
  pub slots : Slots

abbrev pub detected_by : List Clock → Shadowed → Found → Ordered → Detected
detected_by clocks s found orders = record {
  watched = record { clocks = clocks; shadow = s.cells; found = found; orders = orders };
  slots = s.slots;
}

abbrev pub is_full : Detected → Bool
is_full d = d.slots.is_full

-- the slots once the parts are touched whose words an operation accesses or gives anew
abbrev pub slots_for : Operation → Watched → Slots → Slots
slots_for (operation.Access a) w s =
    if nat_lt (word_of a) (length w.shadow) then touched (word_of a / 1024) s else s
slots_for (operation.Pass from to p) w s = s
slots_for (operation.Lock l p) w s = s
slots_for (operation.Renew m) w s =
    touched_parts (parts_over (few_words m w.shadow) m.first) (m.first / 1024) s

-- with these slots an operation is noted, unless they are too few
abbrev pub noted_with : Slots → Operation → Watched → Detected
noted_with s o w = record { watched = if s.is_full then w else behind o w; slots = s }

-- behind an operation
abbrev pub noted_one : Operation → Detected → Detected
noted_one o d =
    if is_full d then d else noted_with (slots_for o d.watched d.slots) o d.watched

-- behind operations in order
abbrev pub noted_all : List Operation → Detected → Detected
noted_all [] d = d
noted_all (o ∷ os) d = noted_all os (noted_one o d)

-- nothing was done yet by so many holders to so many words, in a room of so many slots
abbrev pub fresh_within : (holders words slots : ℕ) → Detected
fresh_within holders words slots =
    record { watched = fresh holders words; slots = no_slots words slots }

-- NOTHING IS LEFT OUT where the room isn't used up in the end: then it never was, and all is as with the whole shadow
abbrev pub NothingIsLeftOut : Type 0
NothingIsLeftOut =
    (holders words slots : ℕ) (os : List Operation)
    → is_full (noted_all os (fresh_within holders words slots)) ≡ false
    → (noted_all os (fresh_within holders words slots)).watched
    ≡ behind_all os (fresh holders words)

-- A ROOM FOR ALL PARTS ISN'T USED UP
abbrev pub RoomForAllSuffices : Type 0
RoomForAllSuffices =
    (holders words slots : ℕ) (os : List Operation) → words / 1024 + 1 ≤ slots
    → is_full (noted_all os (fresh_within holders words slots)) ≡ false
