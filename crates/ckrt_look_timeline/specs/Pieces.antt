-- What a thread does, step after step, in pieces: maximal stretches of steps at each of which it does the same (a run-length encoding).
use Rattle.std.specs.Prelude.{◌≡◌, ◌≢◌, ◌≤◌, ◌<◌, ℕ, List, [], ◌∷◌, ◌++◌, get_or, length, map, replicate}
use Rattle.std.specs.Global.{Vec}
use Rattle.std.specs.List.{flat_map}
use Rattle.ckrt_look_timeline.specs.declared.piece.Activity.{Activity}
use Rattle.ckrt_look_timeline.specs.declared.piece.Activity.TheVariants as activity
use Rattle.ckrt_look_timeline.specs.declared.piece.Piece.{Piece}

-- what is done at each step of a piece
abbrev pub steps_of : Piece → List Activity
steps_of p = replicate p.steps p.activity

-- and of pieces, one behind another
abbrev pub laid : List Piece → List Activity
laid ps = flat_map steps_of ps

-- the next piece, if there is one, is of another activity
abbrev pub IsOther : Activity → List Piece → Type 0
IsOther a [] = Unit {0}
IsOther a (p ∷ ps) = a ≢ p.activity

-- each has a step at least, and goes on as long as its activity
abbrev pub AreMaximal : List Piece → Type 0
AreMaximal [] = Unit {0}
AreMaximal (p ∷ ps) = (1 ≤ p.steps) × IsOther p.activity ps × AreMaximal ps

-- These are the pieces of a thread that does this at each step, from the first to the last: they partition its steps.
pub record ArePieces (track : List Activity) (ps : List Piece) : Type 0 where
  pub partition : laid ps ≡ track
  pub maximal : AreMaximal ps

-- OF SEVERAL THREADS, the first of which is thread 1

-- the pieces of each
abbrev pub tracks_of : List (Vec Piece) → List (List Piece)
tracks_of vs = map (λ v. v.items) vs

-- those of the thread at an index
abbrev pub pieces_at : List (Vec Piece) → ℕ → List Piece
pieces_at vs i = get_or (tracks_of vs) i []

-- each of the threads does what it does at its index for so many steps more
abbrev pub GoOn : (now : List Activity) → (steps : ℕ) → (old new : List (Vec Piece)) → Type 0
GoOn now steps old new =
    (i : ℕ) (track : List Activity) → i < length old → ArePieces track (pieces_at old i)
    → ArePieces (track ++ replicate steps (get_or now i activity.Absent)) (pieces_at new i)
