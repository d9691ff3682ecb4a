-- Keys and values among the threads of a program: the small changes that the calls on them are made of.
use Rattle.std.specs.Prelude.{ℕ, Some, None, map}
use Rattle.ckrt_thread.specs.Keys.{with_key, data_of, value_under, setting}
use Rattle.ckrt_thread.specs.State.{State, thread_of, change_live, change_thread}

-- the value of a thread under a key, 0 where it set none
abbrev pub value_of : ℕ → ℕ → State → ℕ
value_of t k s = value_under k (data_of (thread_of s t))

-- the thread has this value under a key
abbrev pub with_value_of : ℕ → ℕ → ℕ → State → State
with_value_of t k v s = record s { threads = change_thread (setting k v) t s.threads }

-- the number is a key, with this destructor
abbrev pub with_key_of : ℕ → ℕ → State → State
with_key_of k d s = record s { keys = with_key k (Some d) s.keys }

-- the number is no key, and no thread has a value under it
abbrev pub without_key_of : ℕ → State → State
without_key_of k s =
    record s { threads = map (change_live (setting k 0)) s.threads; keys = with_key k None s.keys }
