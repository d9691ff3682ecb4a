-- A dense picture: where many pieces would be drawn, each row is drawn by columns of as many steps each, and a column tells for how many of its steps the
-- thread did what (this project's choice).
use Rattle.std.specs.Prelude.{◌≡◌, ◌≤◌, ◌<◌, ℕ, zero, suc, ◌+◌, ◌*◌, ◌-◌, ◌/◌, ◌==◌, nat_le, nat_lt, if◌then◌else◌, List, [], ◌∷◌, ◌++◌, codes, decimal, length, take, drop, get_or}
use Rattle.std.specs.List.{flat_map}
use Rattle.ckrt_look_timeline.specs.declared.piece.Activity.{Activity}
use Rattle.ckrt_look_timeline.specs.declared.piece.Activity.TheVariants as activity
use Rattle.ckrt_look_timeline.specs.declared.piece.Piece.{Piece}
use Rattle.ckrt_look_timeline.specs.declared.shares.Column.{Column}
use Rattle.ckrt_look_timeline.specs.declared.shares.Share.{Share}
use Rattle.ckrt_look_timeline.specs.declared.shares.Spot.{Spot}
use Rattle.ckrt_look_timeline.specs.declared.words.Form.{Form}
use Rattle.ckrt_look_timeline.specs.declared.words.Form.TheVariants as form
use Rattle.ckrt_look_timeline.specs.Parts.{joined}
use Rattle.ckrt_look_timeline.specs.Pieces.{laid}
use Rattle.ckrt_look_timeline.specs.Texts.{is_absent}
use Rattle.ckrt_look_timeline.specs.Words.{kind_of}

-- WHEN A PICTURE IS DENSE

-- so many pieces are drawn one by one, at most
abbrev pub PIECES : ℕ
PIECES = 2000

-- how many pieces of a thread, and of all threads, are to be drawn
abbrev pub drawn_of : List Piece → ℕ
drawn_of [] = 0
drawn_of (p ∷ ps) = if is_absent p.activity then drawn_of ps else drawn_of ps + 1

abbrev pub drawn_in : List (List Piece) → ℕ
drawn_in [] = 0
drawn_in (ps ∷ more) = drawn_of ps + drawn_in more

-- how many steps each column has, so that there are no more columns in all rows than that; 0 where pieces are drawn one by one
abbrev pub span_of : Form → (drawn rows steps : ℕ) → ℕ
span_of form.Events drawn rows steps = 0
span_of form.Picture drawn rows steps =
    if nat_le drawn PIECES then 0 else if rows == 0 then 0 else steps / (PIECES / rows) + 1

-- SHARES

-- where the kind of an activity stands in the legend, from 0 on; behind all where no thread is there
abbrev pub kind_at : Activity → ℕ
kind_at (activity.Running h) = 0
kind_at (activity.Mutex a) = 1
kind_at (activity.Condition a) = 2
kind_at (activity.Barrier a) = 3
kind_at (activity.RwLock a) = 4
kind_at (activity.Join t) = 5
kind_at activity.Input = 6
kind_at activity.Sleep = 7
kind_at activity.Ready = 8
kind_at activity.Ended = 9
kind_at activity.Absent = 10

-- at how many of some steps what is done is of a kind
abbrev pub share : (kind : ℕ) → List Activity → ℕ
share k [] = 0
share k (a ∷ done) = if kind_at a == k then share k done + 1 else share k done

-- of each kind, told by any activity of it
abbrev pub by_kind : (ℕ → ℕ) → List Share
by_kind at =
    (record { kind = activity.Running 0; steps = at 0 })
    ∷ (record { kind = activity.Mutex 0; steps = at 1 })
    ∷ (record { kind = activity.Condition 0; steps = at 2 })
    ∷ (record { kind = activity.Barrier 0; steps = at 3 })
    ∷ (record { kind = activity.RwLock 0; steps = at 4 })
    ∷ (record { kind = activity.Join 0; steps = at 5 })
    ∷ (record { kind = activity.Input; steps = at 6 })
    ∷ (record { kind = activity.Sleep; steps = at 7 })
    ∷ (record { kind = activity.Ready; steps = at 8 })
    ∷ (record { kind = activity.Ended; steps = at 9 })
    ∷ []

abbrev pub shares_of : List Activity → List Share
shares_of done = by_kind (λ k. share k done)

-- how many steps they have in all
abbrev pub total : List Share → ℕ
total [] = 0
total (s ∷ more) = s.steps + total more

-- how high a column is, in hundredths of a pixel
abbrev pub HEIGHT : ℕ
HEIGHT = 1600

-- where a share ends that with those above it has so many of a column's steps: rounded down, so that all of them fill the column
abbrev pub edge : (steps width : ℕ) → ℕ
edge n w = n * HEIGHT / w

-- A COLUMN of so many steps, of thread t, that begins with step x

-- the bar of a share, below those of `above` steps; the width is in steps
abbrev pub bar_of : (x w above : ℕ) → Share → List ℕ
bar_of x w above s = joined (
    codes "<rect class=\"" ∷ kind_of s.kind ∷ codes "\" x=\"" ∷ decimal x ∷ codes "\" width=\"" ∷ decimal w
    ∷ codes "\" y=\"" ∷ decimal (edge above w) ∷ codes "\" height=\"" ∷ decimal (edge (above + s.steps) w - edge above w)
    ∷ codes "\"/>" ∷ [])

abbrev pub bar_if_any : (x w above : ℕ) → Share → List ℕ
bar_if_any x w above s = if s.steps == 0 then [] else bar_of x w above s

abbrev pub bars_from : (x w above : ℕ) → List Share → List ℕ
bars_from x w above [] = []
bars_from x w above (s ∷ more) = bar_if_any x w above s ++ bars_from x w (above + s.steps) more

-- what the title says of a share
abbrev pub told_of : Share → List ℕ
told_of s =
    if s.steps == 0 then []
    else joined (codes ", " ∷ kind_of s.kind ∷ codes " " ∷ decimal s.steps ∷ [])

abbrev pub title_text : (t x w : ℕ) → List ℕ
title_text t x w = joined (
    codes "<g><title>thread " ∷ decimal t ∷ codes ": " ∷ decimal w ∷ codes " steps from step " ∷ decimal x ∷ [])

abbrev pub filled_text : (t x w : ℕ) → List Share → List ℕ
filled_text t x w shares =
    title_text t x w ++ flat_map told_of shares ++ codes "</title>" ++ bars_from x w 0 shares
    ++ codes "</g>\n"

-- of a column in which the thread is never there nothing is told
abbrev pub column_text : (t x : ℕ) → List Activity → List ℕ
column_text t x done =
    if share 10 done == length done then [] else filled_text t x (length done) (shares_of done)

-- ROWS

-- columns of so many steps each, n of them, one behind another; the last of them may have fewer
abbrev pub columns_text : (n span t x : ℕ) → List Activity → List ℕ
columns_text zero span t x done = []
columns_text (suc n) span t x done =
    column_text t x (take span done)
    ++ columns_text n span t (x + length (take span done)) (drop span done)

-- of a thread with these pieces, which fill so many steps
abbrev pub dense_text : (span steps t : ℕ) → List Piece → List ℕ
dense_text span steps t ps = columns_text (steps / span + 1) span t 0 (laid ps)

-- no more steps of a piece are behind a place than it has
abbrev pub IsSpot : List Piece → Spot → Type 0
IsSpot ps at =
    at.index < length ps → at.used ≤ (get_or ps at.index (record { activity = activity.Absent; steps = 0 })).steps

-- what is left of pieces, at the `used`th step of the one at an index
abbrev pub rest_of : List Piece → Spot → List Activity
rest_of ps at = drop at.used (laid (drop at.index ps))

-- so many steps more of the piece at a place, which has them
abbrev pub behind : Spot → Piece → (steps : ℕ) → Spot
behind at p n =
    if nat_lt (at.used + n) p.steps then record at { used = at.used + n }
    else record { index = at.index + 1; used = 0 }

-- a column has the next steps, `span` at most
pub record IsColumn (span : ℕ) (done : List Activity) (column : Column) : Type 0 where
  pub shares : (k : ℕ) → k ≤ 10 → get_or column.shares k 0 ≡ share k (take span done)
  pub steps : column.steps ≡ length (take span done)

-- as it is told
abbrev pub counted_column : (t x : ℕ) → Column → List ℕ
counted_column t x c =
    if get_or c.shares 10 0 == c.steps then []
    else filled_text t x c.steps (by_kind (λ k. get_or c.shares k 0))
