-- The error numbers that calls answer: the names of POSIX.1-2017, errno.h, with Linux's values.
use Rattle.std.specs.Prelude.{ℕ}

-- the mutex is not the caller's
abbrev pub EPERM : ℕ
EPERM = 1

-- there is no such thread
abbrev pub ESRCH : ℕ
ESRCH = 3

-- no room is left
abbrev pub EAGAIN : ℕ
EAGAIN = 11

-- the object is in use
abbrev pub EBUSY : ℕ
EBUSY = 16

-- an argument is invalid
abbrev pub EINVAL : ℕ
EINVAL = 22

-- the call would wait for its own thread
abbrev pub EDEADLK : ℕ
EDEADLK = 35

-- there is no such call
abbrev pub ENOSYS : ℕ
ENOSYS = 38

-- the deadline came first
abbrev pub ETIMEDOUT : ℕ
ETIMEDOUT = 110
