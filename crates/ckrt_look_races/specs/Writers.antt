-- Whether who makes a call has a read-write lock to write.
use Rattle.std.specs.Prelude.{Bool, false, Option, Some, None}
use Rattle.ckrt_registers.specs.Registers.{get}
use Rattle.ckrt_rwlock.specs.RwLock.{is_writer, lock_at}
use Rattle.ckrt_calls.specs.declared.table.Tables.{Tables}
use Rattle.ckrt_look_calls.specs.declared.lines.Caller.{Caller}

-- that of the call's first argument
abbrev pub writes : Option Caller → Tables → Bool
writes None s = false
writes (Some c) s = is_writer c.thread (lock_at (get c.regs 10) s.rwlocks)
