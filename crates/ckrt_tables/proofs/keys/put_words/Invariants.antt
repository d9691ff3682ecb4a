use Rattle.std.proofs.Common.{take}
use Rattle.std.specs.List.{flat_map}
use Rattle.ckrt_tables.specs.Records.{key_entry_bytes, words_from}
use Rattle.ckrt_tables.specs.Writing.{IsPut}
use Rattle.ckrt_tables.proofs.keys.put_words.Given as goal

abbrev pub invariant-loop-key : goal.invariant-loop-key
invariant-loop-key l = IsPut l.fn.out l.at (flat_map key_entry_bytes (words_from 0 (take l.key l.words))) l.out l.end
