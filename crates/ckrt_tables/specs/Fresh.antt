-- The saved tables of a program that hasn't begun.
use Rattle.std.specs.Prelude.{◌≡◌, ◌*◌, ℕ, List, [], ◌∷◌, ◌++◌, replicate}
use Rattle.byteorder.specs.Endian.{little_bytes}
use Rattle.ckrt_calls.specs.Beginnings.{fresh, with_keys_off}
use Rattle.ckrt_tables.specs.Encoding.{encoding_of}

-- 45 bytes, and what follows: clock, input, status and harts; thread 1, marked as the initial one, with its pc, return address
-- and stack pointer
abbrev pub fresh_front : ℕ → List ℕ → List ℕ
fresh_front pages more =
    replicate 24 0
    ++ (1 ∷ 1 ∷ 1 ∷ 0 ∷ 0 ∷ [])
    ++ replicate 4 0
    ++ little_bytes 4 4096
    ++ little_bytes 4 4294967280
    ++ little_bytes 4 (4096 * pages)
    ++ more

-- 176 bytes: after the front no other register, thread, wait or object; the mark of keys, and no key; no input and no output
abbrev pub fresh_bytes : ℕ → List ℕ
fresh_bytes pages = fresh_front pages (replicate 125 0 ++ (1 ∷ replicate 5 0))

-- 170 bytes in version 1, where keys are off
abbrev pub fresh_bytes_1 : ℕ → List ℕ
fresh_bytes_1 pages = fresh_front pages (replicate 125 0)

-- whatever the harts, so much memory makes these bytes in version 2
abbrev pub IsFreshEncoding : Type 0
IsFreshEncoding = (pages harts : ℕ) → encoding_of 2 (fresh pages harts) [] ≡ fresh_bytes pages

-- and in version 1, where keys are off, these
abbrev pub IsFreshEncoding1 : Type 0
IsFreshEncoding1 =
    (pages harts : ℕ) → encoding_of 1 (with_keys_off (fresh pages harts)) [] ≡ fresh_bytes_1 pages
