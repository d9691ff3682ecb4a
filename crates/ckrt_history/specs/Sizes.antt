-- The sizes of a program's state, as its history has them.
use Rattle.std.specs.Prelude.{◌≡◌, length}
use Rattle.ckrt_machine.specs.Steps.{State}
use Rattle.ckrt_stored.specs.Layout.{memory_size}
use Rattle.ckrt_stored.specs.declared.config.Config.{Config}

-- a state of a program with these sizes
pub record HasSizes (c : Config) (s : State) : Type 0 where
  pub memory : length s.bytes ≡ memory_size c
  pub harts : s.tables.threads.hart_count ≡ c.harts
