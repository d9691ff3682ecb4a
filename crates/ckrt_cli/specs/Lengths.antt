-- How long the file of an output is.
use Rattle.std.specs.Prelude.{ℕ, ◌+◌, max, List, [], ◌∷◌, length}

-- A file has that many bytes, and these pieces are written to it, the first at an offset, and each where the one before it ended. A write makes
-- the file as long as it reaches, and never shorter (POSIX.1-2017, pwrite).
abbrev pub size_after : (size at : ℕ) → List (List ℕ) → ℕ
size_after size at [] = size
size_after size at (piece ∷ more) =
    size_after (max size (at + length piece)) (at + length piece) more
