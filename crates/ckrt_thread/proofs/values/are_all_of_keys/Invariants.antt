use Rattle.std.proofs.Common.{◌≡◌, ◌-◌}
use Rattle.std.specs.List.{list_all, range_with_len}
use Rattle.ckrt_thread.specs.Keys.{is_of_key}
use Rattle.ckrt_thread.proofs.values.are_all_of_keys.Given as goal

-- the numbers before this one are keys, or nothing is under them
abbrev pub invariant-loop-key : goal.invariant-loop-key
invariant-loop-key l =
    list_all (is_of_key l.keys l.specific) (range_with_len 0 32)
    ≡ list_all (is_of_key l.keys l.specific) (range_with_len l.key (32 - l.key))
