-- ELF files, by their first bytes.
use Rattle.std.specs.Prelude.{◌&&◌, ℕ, Bool, eqb, List, [], ◌∷◌, drop}
use Rattle.std.specs.List.{starts_with}

-- an ELF file, by its first four bytes (System V ABI, "ELF Header": EI_MAG0 to EI_MAG3)
abbrev pub is_elf : List ℕ → Bool
is_elf bytes = starts_with eqb bytes (127 ∷ 69 ∷ 76 ∷ 70 ∷ [])

-- an ELF core, by its first 18 bytes (System V gABI, chapter 4 "ELF Header": e_ident, and e_type, which is ET_CORE), with the lowest byte of a
-- number first
abbrev pub begins_as_core : List ℕ → Bool
begins_as_core front = is_elf front && starts_with eqb (drop 16 front) (4 ∷ 0 ∷ [])
