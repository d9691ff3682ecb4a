-- The destructors of a thread that ends, in rounds over the keys of its program (POSIX.1-2017, pthread_key_create). That they
-- run by rising key, and in four rounds at most, is this project's choice.
use Rattle.std.specs.Prelude.{ℕ, suc, ◌-◌, ◌==◌, nat_lt, Bool, ◌&&◌, not, if◌then◌else◌, Option, Some, None}
use Rattle.std.specs.List.{find, range_with_len}
use Rattle.ckrt_thread.specs.declared.keys.SpecificData.{SpecificData}
use Rattle.ckrt_thread.specs.declared.keys.Turn.{Turn}
use Rattle.ckrt_thread.specs.declared.records.Handler.{Handler}
use Rattle.ckrt_thread.specs.declared.records.Live.{Live}
use Rattle.ckrt_thread.specs.Abi.{UNWIND_GATE}
use Rattle.ckrt_thread.specs.Cancellation.{entering}
use Rattle.ckrt_thread.specs.Keys.{MAX_KEYS, DESTRUCTOR_ROUNDS, KeyTable, destructor_of, value_under, set_under, with_data}

-- WHOSE TURN IT IS

-- the key has a destructor, and the thread a value under it
abbrev pub is_to_destroy : KeyTable → SpecificData → ℕ → Bool
is_to_destroy keys d k = not (destructor_of keys k == 0) && not (value_under k d == 0)

-- the first such key from a given one on
abbrev pub first_to_destroy : KeyTable → SpecificData → ℕ → Option ℕ
first_to_destroy keys d from = find (is_to_destroy keys d) (range_with_len from (MAX_KEYS - from))

-- the destructor of a key, in a round
abbrev pub turn_in : ℕ → Option ℕ → Option Turn
turn_in round None = None
turn_in round (Some k) = Some (record { round = round; key = k })

-- the round goes on after the key whose turn was the last; before the first round there is none
abbrev pub rest_of_round : KeyTable → SpecificData → Option Turn
rest_of_round keys d = if d.round == 0 then None else turn_in d.round (first_to_destroy keys d d.next_key)

-- a round begins with key 0, and there are at most 4
abbrev pub new_round : KeyTable → SpecificData → Option Turn
new_round keys d = if nat_lt d.round DESTRUCTOR_ROUNDS then turn_in (suc d.round) (first_to_destroy keys d 0) else None

abbrev pub turn_or : Option Turn → Option Turn → Option Turn
turn_or None other = other
turn_or (Some turn) other = Some turn

abbrev pub next_turn : KeyTable → SpecificData → Option Turn
next_turn keys d = turn_or (rest_of_round keys d) (new_round keys d)

-- WHAT THE THREAD DOES THEN

-- the value is gone before its destructor runs, and the round goes on after the key
abbrev pub taken : Turn → SpecificData → SpecificData
taken turn d = record (set_under turn.key 0 d) { round = turn.round; next_key = suc turn.key }

-- the destructor as a routine, which gets the value
abbrev pub routine_of : KeyTable → Turn → SpecificData → Handler
routine_of keys turn d =
    record { routine = destructor_of keys turn.key; argument = value_under turn.key d }

-- the thread goes to the destructor, which returns to the gate where it goes on to unwind
abbrev pub at_destructor : KeyTable → Turn → Live → Live
at_destructor keys turn l =
    entering UNWIND_GATE (routine_of keys turn l.specific) (with_data (taken turn l.specific) l)
