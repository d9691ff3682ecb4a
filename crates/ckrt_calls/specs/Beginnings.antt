-- The tables that a program begins with, with keys on or off.
use Rattle.std.specs.Prelude.{ℕ, ◌*◌, false, []}
use Rattle.ckrt_thread.specs.Keys.{keys_off}
use Rattle.ckrt_thread.specs.Contents.{with_keys}
use Rattle.ckrt_thread.specs.State as thread
use Rattle.ckrt_calls.specs.declared.table.Status.TheVariants.{Running}
use Rattle.ckrt_calls.specs.declared.table.Tables.{Tables}

-- the tables that a program begins with
abbrev pub fresh : ℕ → ℕ → Tables
fresh pages harts =
    record {
      threads = thread.fresh (4096 * pages) harts;
      mutexes = [];
      barriers = [];
      rwlocks = [];
      clock = 0;
      input = [];
      closed = false;
      status = Running;
    }

-- the same tables, but keys are off
abbrev pub with_keys_off : Tables → Tables
with_keys_off s = record s { threads = with_keys keys_off s.threads }
