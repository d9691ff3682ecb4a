-- What is put onto a writer: bytes that were taken for it, and notes between them or in the place of lines. Each piece has what it is, and
-- its bytes; the newest stands first.
use Rattle.std.specs.Prelude.{◌≡◌, ◌==◌, ◌||◌, ◌&&◌, ℕ, Bool, true, not, List, [], ◌∷◌, ◌++◌, Option, Some, None, if◌then◌else◌}
use Rattle.std.specs.Io.KnownBytes.{append_known}
use Rattle.ckrt_cli_names.specs.declared.piece.Form.{Form}
use Rattle.ckrt_cli_names.specs.declared.piece.Form.TheVariants.{Frames}
use Rattle.ckrt_cli_names.specs.declared.piece.Piece.{Piece}
use Rattle.ckrt_cli_names.specs.declared.piece.Piece.TheVariants.{Note, Replaced, Taken}

-- what a piece shows
abbrev pub shown_by : Piece → List ℕ → List ℕ
shown_by Taken bytes = bytes
shown_by Note bytes = bytes
shown_by Replaced bytes = []

-- what was taken for it
abbrev pub taken_by : Piece → List ℕ → List ℕ
taken_by Taken bytes = bytes
taken_by Note bytes = []
taken_by Replaced bytes = bytes

-- all bytes that are shown, in their order
abbrev pub shown_of : List (Piece × List ℕ) → List ℕ
shown_of [] = []
shown_of (piece ∷ older) = shown_of older ++ shown_by piece.0 piece.1

-- all bytes that were taken, in their order
abbrev pub taken_of : List (Piece × List ℕ) → List ℕ
taken_of [] = []
taken_of (piece ∷ older) = taken_of older ++ taken_by piece.0 piece.1

-- what the first of these writers holds, where it is known
abbrev pub contents_at_first : {W : Type 0} → (W → Option (List ℕ)) → List W → Option (List ℕ)
contents_at_first contents [] = None
contents_at_first contents (first ∷ more) = contents first

-- a writer that held `before` has all that was put by now, once what waits is written to it
abbrev pub HasShown : (before now : Option (List ℕ)) → (waiting : List ℕ) → List (Piece × List ℕ) → Type 0
HasShown before now waiting pieces =
    (held : List ℕ) → before ≡ Some held → append_known now waiting ≡ Some (held ++ shown_of pieces)

-- all that was taken: by these pieces, and by an unfinished line behind them
abbrev pub taken_with : List (Piece × List ℕ) → (line : List ℕ) → List ℕ
taken_with pieces line = taken_of pieces ++ line

-- what ends a line, a frame, or the last frame before a count: a line feed, a semicolon, a blank
abbrev pub is_mark : ℕ → Bool
is_mark byte = byte == 10 || (byte == 59 || byte == 32)

-- those of some bytes, in their order
abbrev pub marks : List ℕ → List ℕ
marks [] = []
marks (byte ∷ more) = if is_mark byte then byte ∷ marks more else marks more

-- none of these stands in some bytes
abbrev pub is_unmarked : List ℕ → Bool
is_unmarked [] = true
is_unmarked (byte ∷ more) = not (is_mark byte) && is_unmarked more

-- in frames, what is shown has just the marks of what was taken
abbrev pub KeepsMarks : Form → List (Piece × List ℕ) → Type 0
KeepsMarks form pieces = form ≡ Frames → marks (shown_of pieces) ≡ marks (taken_of pieces)
