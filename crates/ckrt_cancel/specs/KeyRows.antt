-- What the calls on thread-specific data do (POSIX.1-2017, pthread_key_create, pthread_key_delete, pthread_setspecific and
-- pthread_getspecific). The thread t makes the call.
use Rattle.std.specs.Prelude.{ℕ, ◌%◌, ◌==◌, if◌then◌else◌, not, Option, Some, None}
use Rattle.ckrt_thread.specs.declared.records.CallResult.TheVariants.{Done}
use Rattle.ckrt_thread.specs.Abi.{A1}
use Rattle.ckrt_thread.specs.Errors.{EAGAIN, EINVAL, ENOSYS}
use Rattle.ckrt_thread.specs.Keys.{is_key, free_key}
use Rattle.ckrt_thread.specs.ThreadKeys.{value_of, with_value_of, with_key_of, without_key_of}
use Rattle.ckrt_thread.specs.State.{State, set_word}
use Rattle.ckrt_thread.specs.Rows.{After, unchanged}

-- Where keys are off the program has no such calls (this project's choice): ENOSYS.
abbrev pub if_on : State → After → After
if_on s r = if s.keys.is_on then r else unchanged (Done ENOSYS) s

-- A number that is no key: EINVAL.
abbrev pub if_key : ℕ → State → After → After
if_key k s r = if is_key s.keys k then r else unchanged (Done EINVAL) s

-- pthread_key_create. A destructor that is no multiple of 4: EINVAL. 32 keys: EAGAIN (this project's choice, as is the number
-- that a key gets). Else 0, and x11 has the new key, the least free number, under which no thread has a value. A destructor
-- of 0 stands for none.

abbrev pub key_created : Option ℕ → ℕ → ℕ → State → After
key_created None t destructor s = unchanged (Done EAGAIN) s
key_created (Some k) t destructor s =
    record { result = Done 0; threads = set_word t A1 k (with_key_of k destructor s) }

abbrev pub key_create_row : ℕ → ℕ → State → After
key_create_row t destructor s =
    if_on s (if not (destructor % 4 == 0) then unchanged (Done EINVAL) s
    else key_created (free_key s.keys) t destructor s)

-- pthread_key_delete. Else 0: the key is gone, and with it the values under it (this project's choice), for which no destructor
-- runs.
abbrev pub key_delete_row : ℕ → State → After
key_delete_row k s = if_on s (if_key k s (record { result = Done 0; threads = without_key_of k s }))

-- pthread_setspecific. Else 0, and the thread has this value under the key.
abbrev pub setspecific_row : ℕ → ℕ → ℕ → State → After
setspecific_row t k value s =
    if_on s (if_key k s (record { result = Done 0; threads = with_value_of t k value s }))

-- pthread_getspecific. Else 0, and x11 has the thread's value under the key, 0 where it set none. (That an unknown key is an
-- error is this project's choice.)
abbrev pub getspecific_row : ℕ → ℕ → State → After
getspecific_row t k s =
    if_on s (if_key k s (record { result = Done 0; threads = set_word t A1 (value_of t k s) s }))
