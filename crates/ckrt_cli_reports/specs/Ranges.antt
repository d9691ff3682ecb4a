-- The numbers of the words: what is given where they have none, and which of them are in their ranges.
use Rattle.std.specs.Prelude.{◌&&◌, ◌||◌, ℕ, nat_lt, nat_le, Bool, true, false, List, not, Option, Some, None, is_some, unwrap_or}
use Rattle.ckrt_stored.specs.declared.config.Config.{Config}
use Rattle.ckrt_drive.specs.Slot.{TAKEN_LIMIT}
use Rattle.ckrt_cli_words.specs.Jobs.{Driving, HistoryKeeping, Hunting}
use Rattle.ckrt_cli_words.specs.declared.job.Sizes.{Sizes}

-- what a disk is made with: what `format` takes, where a size isn't given
abbrev pub config_for : Sizes → Config
config_for s =
    record {
      pages = unwrap_or s.pages 64;
      harts = unwrap_or s.harts 1;
      journal = unwrap_or s.journal 65536;
    }

-- a second or more lies between two lines, where there are any
abbrev pub is_interval : Option ℕ → Bool
is_interval None = true
is_interval (Some seconds) = nat_lt 0 seconds

-- an offset goes with the standard output alone
abbrev pub is_target : Option (List ℕ) → Option ℕ → Bool
is_target None from = true
is_target (Some path) None = true
is_target (Some path) (Some from) = false

-- an offset of the input goes with a file of it alone, and is one that a record may have
abbrev pub is_intake : Option (List ℕ) → Option ℕ → Bool
is_intake input None = true
is_intake (Some path) (Some from) = nat_lt from TAKEN_LIMIT
is_intake None (Some from) = false

-- a turn has 1 to 1,000,000 steps, and there is a round or more between two commits
abbrev pub is_in_range : Driving → Bool
is_in_range j =
    nat_lt 0 j.turn
    && (nat_le j.turn 1000000
    && (nat_lt 0 j.rounds
    && (is_interval j.progress && (is_target j.output j.from && is_intake j.input j.input_from))))

-- seeds of a range, or as many as there is time for, and not both
abbrev pub is_choice : (seeds : Option (List ℕ)) → (seconds : Option ℕ) → Bool
is_choice None seconds = true
is_choice (Some seeds) None = true
is_choice (Some seeds) (Some seconds) = false

-- a hunt that goes by time takes seeds for a second or more, and for 365 days at most
abbrev pub is_time : Option ℕ → Bool
is_time None = true
is_time (Some seconds) = nat_lt 0 seconds && nat_le seconds 31536000

-- a hunt looks at its runs for races or for errors of memory, and not for both
abbrev pub is_one_look : (races check : Bool) → Bool
is_one_look races check = not (races && check)

-- a table that is written while a hunt runs has outcomes alone
abbrev pub is_tabled : (table : Option (List ℕ)) → (is_closer : Bool) → Bool
is_tabled None is_closer = true
is_tabled (Some path) is_closer = not is_closer

-- a shadow may take 1 MiB or more
abbrev pub is_room : Option ℕ → Bool
is_room None = true
is_room (Some bytes) = nat_le 1048576 bytes

-- and of hunts only those that look closer have one
abbrev pub is_shadowed : (memory : Option ℕ) → (is_closer : Bool) → Bool
is_shadowed None is_closer = true
is_shadowed (Some bytes) is_closer = is_closer

-- a stretch that would end before it begins
abbrev pub ends_before : (from to : Option ℕ) → Bool
ends_before (Some from) (Some to) = nat_lt to from
ends_before from to = false

-- a part of a history is made without a disk
abbrev pub is_apart : (part disk : Option (List ℕ)) → Bool
is_apart None disk = true
is_apart (Some part) None = true
is_apart (Some part) (Some disk) = false

-- it has a first event, and nothing but a part has one, or a last one
abbrev pub is_cut : (part : Option (List ℕ)) → (from to : Option ℕ) → Bool
is_cut None None None = true
is_cut None from to = false
is_cut (Some part) from to = is_some from

-- what `history` is told
abbrev pub is_history_in_range : HistoryKeeping → Bool
is_history_in_range k =
    is_apart k.part k.disk && (is_cut k.part k.from k.to && not (ends_before k.from k.to))

-- what a hunt is told besides its sizes and the text of its seeds
abbrev pub is_hunt_in_range : Hunting → Bool
is_hunt_in_range h =
    is_choice h.seeds h.seconds
    && (is_time h.seconds
    && (is_interval h.progress
    && (is_one_look h.races h.check
    && (is_tabled h.table (h.races || h.check)
    && (is_shadowed h.memory (h.races || h.check) && is_room h.memory)))))
