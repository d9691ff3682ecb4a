-- The sizes that the words ask for, beside those of a disk.
use Rattle.std.specs.Prelude.{ℕ, nat_eq, nat_lt, Bool, true, not, ◌&&◌, if◌then◌else◌, List, length, take, Option, Some, None}
use Rattle.ckrt_stored.specs.declared.config.Config.{Config}
use Rattle.ckrt_stored.specs.Layout.{is_open, is_valid, number_at}
use Rattle.ckrt_cli_words.specs.declared.job.Sizes.{Sizes}

-- a size is the one that is asked for, or none is
abbrev pub is_asked : Option ℕ → ℕ → Bool
is_asked None there = true
is_asked (Some size) there = nat_eq size there

abbrev pub agrees : Sizes → Config → Bool
agrees s c = is_asked s.pages c.pages && (is_asked s.harts c.harts && is_asked s.journal c.journal)

-- the sizes in the first 32 bytes of a superblock
abbrev pub config_in : List ℕ → Config
config_in block =
    record {
      pages = number_at 4 20 block;
      harts = number_at 4 24 block;
      journal = number_at 4 28 block;
    }

-- the sizes of a superblock with an open gate, where they are in their ranges, and aren't those that are asked for
abbrev pub other_in : Sizes → List ℕ → Option Config
other_in s block = if is_open block && (is_valid (config_in block) && not (agrees s (config_in block))) then Some (config_in block) else None

-- the same of a disk
abbrev pub other_sizes : Sizes → List ℕ → Option Config
other_sizes s image = if nat_lt (length image) 32 then None else other_in s (take 32 image)
