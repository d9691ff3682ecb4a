use Rattle.std.proofs.Common.{◌≡◌, ◌-◌}
use Rattle.std.specs.List.{find, range_with_len}
use Rattle.ckrt_thread.specs.Destructors.{is_to_destroy}
use Rattle.ckrt_thread.proofs.values.first_to_destroy.Given as goal

-- no key before this one is to be destroyed
abbrev pub invariant-loop-key : goal.invariant-loop-key
invariant-loop-key l =
    find (is_to_destroy l.keys l.specific) (range_with_len l.fn.from (32 - l.fn.from))
    ≡ find (is_to_destroy l.keys l.specific) (range_with_len l.key (32 - l.key))
