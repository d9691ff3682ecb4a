-- What a writer takes of a text.
use Rattle.std.specs.Prelude.{ℕ, List, Option}
use Rattle.std.specs.Io.KnownBytes.{Appends}
use Rattle.ckrt_disk.specs.Lists.{IsBeginningOf}

-- from a to b a beginning of the text was written
abbrev pub AppendsPart : Option (List ℕ) → Option (List ℕ) → List ℕ → Type 0
AppendsPart a b text = (front : List ℕ) × IsBeginningOf front text × Appends a b front
