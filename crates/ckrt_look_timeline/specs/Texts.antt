-- What a piece is told as: in a picture (SVG 1.1, W3C) and in trace events (the Trace Event Format, which chrome://tracing and Perfetto read).
use Rattle.std.specs.Prelude.{ℕ, ◌+◌, Bool, true, false, if◌then◌else◌, List, [], ◌∷◌, ◌++◌, codes, decimal}
use Rattle.ckrt_look_timeline.specs.declared.piece.Activity.{Activity}
use Rattle.ckrt_look_timeline.specs.declared.piece.Activity.TheVariants as activity
use Rattle.ckrt_look_timeline.specs.declared.piece.Piece.{Piece}
use Rattle.ckrt_look_timeline.specs.declared.words.Form.{Form}
use Rattle.ckrt_look_timeline.specs.declared.words.Form.TheVariants as form
use Rattle.ckrt_look_timeline.specs.Parts.{joined}
use Rattle.ckrt_look_timeline.specs.Words.{kind_of, object_of, size_of, words_of}

-- A PIECE of thread t that begins with step x

-- a bar, whose place and length are in steps, with a title that a browser shows on hover
abbrev pub bar_text : (t x : ℕ) → Piece → List ℕ
bar_text t x p = joined (
    codes "<rect class=\"" ∷ kind_of p.activity ∷ codes "\" x=\"" ∷ decimal x ∷ codes "\" width=\"" ∷ decimal p.steps ∷ codes "\" "
    ∷ size_of p.activity ∷ codes "><title>thread " ∷ decimal t ∷ codes " " ∷ words_of p.activity ∷ object_of p.activity
    ∷ codes ": " ∷ decimal p.steps ∷ codes " steps from step " ∷ decimal x ∷ codes "</title></rect>\n" ∷ [])

-- a complete event: a microsecond stands for a step
abbrev pub complete_text : (t x : ℕ) → Piece → List ℕ
complete_text t x p = joined (
    codes ",\n{\"name\":\"" ∷ words_of p.activity ∷ object_of p.activity ∷ codes "\",\"cat\":\"" ∷ kind_of p.activity
    ∷ codes "\",\"ph\":\"X\",\"ts\":" ∷ decimal x ∷ codes ",\"dur\":" ∷ decimal p.steps
    ∷ codes ",\"pid\":1,\"tid\":" ∷ decimal t ∷ codes "}" ∷ [])

abbrev pub shown_text : Form → (t x : ℕ) → Piece → List ℕ
shown_text form.Picture t x p = bar_text t x p
shown_text form.Events t x p = complete_text t x p

abbrev pub is_absent : Activity → Bool
is_absent activity.Absent = true
is_absent a = false

-- of a number that no thread has nothing is told
abbrev pub piece_text : Form → (t x : ℕ) → Piece → List ℕ
piece_text f t x p = if is_absent p.activity then [] else shown_text f t x p

-- pieces one behind another, of which the first begins with step x
abbrev pub pieces_text : Form → (t x : ℕ) → List Piece → List ℕ
pieces_text f t x [] = []
pieces_text f t x (p ∷ ps) = piece_text f t x p ++ pieces_text f t (x + p.steps) ps
