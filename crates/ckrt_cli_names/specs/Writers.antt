-- What a writer that puts notes behind lines has put, and what of that it has yet to write.
use Rattle.std.specs.Prelude.{ℕ, List, drop}
use Rattle.std.specs.declared.io.Write.{Ghosts}
use Rattle.ckrt_cli_names.specs.declared.named.NamedWriter.{NamedWriter}
use Rattle.ckrt_cli_names.specs.declared.piece.Piece.{Piece}

-- the writer that it was made over, as it was then, in a list
abbrev pub start_of : {W : Type 0} {g : Ghosts W} → NamedWriter W g → List W
start_of writer = writer.start.states

-- that writer as it is
abbrev pub inner_of : {W : Type 0} {g : Ghosts W} → NamedWriter W g → W
inner_of writer = writer.inner

-- what was put, the newest first
abbrev pub put_by : {W : Type 0} {g : Ghosts W} → NamedWriter W g → List (Piece × List ℕ)
put_by writer = writer.put.made

-- what of it is to be written yet
abbrev pub waiting_of : {W : Type 0} {g : Ghosts W} → NamedWriter W g → List ℕ
waiting_of writer = drop writer.written writer.waiting.items

-- the line that isn't put yet
abbrev pub line_of : {W : Type 0} {g : Ghosts W} → NamedWriter W g → List ℕ
line_of writer = writer.line.items
