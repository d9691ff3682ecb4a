-- A whole picture, and the whole of trace events.
use Rattle.std.specs.Prelude.{ℕ, ◌+◌, ◌*◌, ◌-◌, ◌/◌, ◌%◌, ◌==◌, ◌&&◌, max, min, nat_le, Bool, true, if◌then◌else◌, List, [], ◌∷◌, ◌++◌, codes, decimal, length}
use Rattle.ckrt_look_timeline.specs.declared.piece.Piece.{Piece}
use Rattle.ckrt_look_timeline.specs.declared.words.Form.{Form}
use Rattle.ckrt_look_timeline.specs.declared.words.Form.TheVariants as form
use Rattle.ckrt_look_timeline.specs.declared.page.Chart.{Chart}
use Rattle.ckrt_look_timeline.specs.Parts.{joined}
use Rattle.ckrt_look_timeline.specs.Shares.{dense_text}
use Rattle.ckrt_look_timeline.specs.Texts.{is_absent, pieces_text}

-- THE PAGE, in pixels: labels stand left of the bars, a heading and the legend above them, and the numbers of the events below

abbrev pub LEFT : ℕ
LEFT = 80

abbrev pub TOP : ℕ
TOP = 80

abbrev pub ROW : ℕ
ROW = 24

-- how wide the bars may be
abbrev pub inner : Chart → ℕ
inner c = c.width - 100

-- where the rows end
abbrev pub bottom : Chart → ℕ
bottom c = TOP + ROW * c.rows

-- ROWS: one for each thread that was there at some step, in the order of their numbers

abbrev pub is_blank : List Piece → Bool
is_blank [] = true
is_blank (p ∷ ps) = is_absent p.activity && is_blank ps

abbrev pub rows_in : List (List Piece) → ℕ
rows_in [] = 0
rows_in (ps ∷ more) = if is_blank ps then rows_in more else rows_in more + 1

-- how high a row is, of pieces or of columns; these are drawn without seams
abbrev pub tall_text : Chart → List ℕ
tall_text c =
    if c.span == 0 then codes " 16" else codes " 1600\" shape-rendering=\"crispEdges"

-- the label of thread t, and the begin of its bars, whose places are in steps; y is where its row begins
abbrev pub bars_text : Chart → (t y : ℕ) → List ℕ
bars_text c t y = joined (
    codes "<text x=\"4\" y=\"" ∷ decimal (y + 13) ∷ codes "\">thread " ∷ decimal t ∷ codes "</text>\n<svg x=\"80\" y=\"" ∷ decimal y
    ∷ codes "\" width=\"" ∷ decimal (inner c) ∷ codes "\" height=\"16\" viewBox=\"0 0 " ∷ decimal c.steps
    ∷ tall_text c ∷ codes "\" preserveAspectRatio=\"none\">\n" ∷ [])

-- the name of thread t
abbrev pub name_text : (t : ℕ) → List ℕ
name_text t = joined (
    codes ",\n{\"name\":\"thread_name\",\"ph\":\"M\",\"pid\":1,\"tid\":" ∷ decimal t ∷ codes ",\"args\":{\"name\":\"thread "
    ∷ decimal t ∷ codes "\"}}" ∷ [])

abbrev pub head_text : Form → Chart → (t y : ℕ) → List ℕ
head_text form.Picture c t y = bars_text c t y
head_text form.Events c t y = name_text t

abbrev pub foot_text : Form → List ℕ
foot_text form.Picture = codes "</svg>\n"
foot_text form.Events = []

-- a thread's pieces one by one, or its columns
abbrev pub inside_text : Form → Chart → (t : ℕ) → List Piece → List ℕ
inside_text f c t ps =
    if c.span == 0 then pieces_text f t 0 ps else dense_text c.span c.steps t ps

abbrev pub row_text : Form → Chart → (t y : ℕ) → List Piece → List ℕ
row_text f c t y ps = head_text f c t y ++ inside_text f c t ps ++ foot_text f

-- the rows of threads from t on, the first of which begins at y
abbrev pub rows_text : Form → Chart → (t y : ℕ) → List (List Piece) → List ℕ
rows_text f c t y [] = []
rows_text f c t y (ps ∷ more) =
    if is_blank ps then rows_text f c (t + 1) y more
    else row_text f c t y ps ++ rows_text f c (t + 1) (y + ROW) more

-- EVENTS

-- of about twenty events the number is told, in even distances
abbrev pub STRIDES : ℕ
STRIDES = 20

abbrev pub is_told : Chart → (k : ℕ) → Bool
is_told c k = (k - c.first) % (c.events / STRIDES + 1) == 0

-- event k begins behind x steps, as far to the right as the pieces of so many
abbrev pub place_of : Chart → (x : ℕ) → ℕ
place_of c x = LEFT + x * inner c / max c.steps 1

-- half of what the number of an event takes: 4 pixels for each of its digits, and 2 more
abbrev pub half_of : (k : ℕ) → ℕ
half_of k = 4 * length (decimal k) + 2

-- where the middle of its number stands: at its place, or so far before the right edge that the picture has all of it
abbrev pub middle_of : Chart → (k x : ℕ) → ℕ
middle_of c k x = min (place_of c x) (c.width - half_of k)

-- it has room where the numbers before it end at place `free`
abbrev pub has_room : Chart → (k x free : ℕ) → Bool
has_room c k x free = nat_le (free + half_of k) (middle_of c k x)

-- its number is told
abbrev pub is_numbered : Chart → (k x free : ℕ) → Bool
is_numbered c k x free = is_told c k && has_room c k x free

-- where the numbers end behind it
abbrev pub free_behind : Chart → (k x free : ℕ) → ℕ
free_behind c k x free = if is_numbered c k x free then middle_of c k x + half_of k else free

-- a line at place x, down to y
abbrev pub line_text : (x y : ℕ) → List ℕ
line_text x y = joined (
    codes "<line class=\"tick\" x1=\"" ∷ decimal x ∷ codes "\" x2=\"" ∷ decimal x
    ∷ codes "\" y1=\"74\" y2=\"" ∷ decimal y ∷ codes "\"/>" ∷ [])

-- the number k with its middle at place x, below y
abbrev pub number_text : (k x y : ℕ) → List ℕ
number_text k x y = joined (
    codes "<text text-anchor=\"middle\" fill=\"#555\" x=\"" ∷ decimal x
    ∷ codes "\" y=\"" ∷ decimal (y + 14) ∷ codes "\">" ∷ decimal k ∷ codes "</text>" ∷ [])

-- the number of event k, where it has room
abbrev pub label_text : Chart → (k x free : ℕ) → List ℕ
label_text c k x free =
    if has_room c k x free then number_text k (middle_of c k x) (bottom c) else []

abbrev pub tick_text : Chart → (k x free : ℕ) → List ℕ
tick_text c k x free =
    line_text (place_of c x) (bottom c) ++ (label_text c k x free ++ codes "\n")

abbrev pub instant_text : (k x : ℕ) → List ℕ
instant_text k x = joined (
    codes ",\n{\"name\":\"event " ∷ decimal k ∷ codes "\",\"ph\":\"i\",\"ts\":" ∷ decimal x
    ∷ codes ",\"pid\":1,\"tid\":0,\"s\":\"p\"}" ∷ [])

abbrev pub mark_text : Form → Chart → (k x free : ℕ) → List ℕ
mark_text form.Picture c k x free = if is_told c k then tick_text c k x free else []
mark_text form.Events c k x free = instant_text k x

-- of the events from k on, which begin behind so many steps, where the numbers before them end at place `free`
abbrev pub marks_text : Form → Chart → (k free : ℕ) → List ℕ → List ℕ
marks_text f c k free [] = []
marks_text f c k free (x ∷ xs) =
    mark_text f c k x free ++ marks_text f c (k + 1) (free_behind c k x free) xs

-- ALL

abbrev pub STYLE : List ℕ
STYLE = joined (
    codes "<style>.running{fill:#2e7d32}.mutex{fill:#d32f2f}.condition{fill:#f9a825}.barrier{fill:#7b1fa2}"
    ∷ codes ".rwlock{fill:#ef6c00}.join{fill:#90a4ae}.input{fill:#0288d1}.sleep{fill:#80deea}"
    ∷ codes ".ready{fill:#616161}.ended{fill:#e0e0e0}.tick{stroke:#ccc}</style>\n"
    ∷ [])

abbrev pub LEGEND : List ℕ
LEGEND = joined (
    codes "<rect class=\"running\" x=\"10\" y=\"30\" width=\"12\" height=\"12\"/><text x=\"26\" y=\"41\">running</text>\n"
    ∷ codes "<rect class=\"mutex\" x=\"88\" y=\"30\" width=\"12\" height=\"12\"/><text x=\"104\" y=\"41\">mutex</text>\n"
    ∷ codes "<rect class=\"condition\" x=\"166\" y=\"30\" width=\"12\" height=\"12\"/><text x=\"182\" y=\"41\">condition</text>\n"
    ∷ codes "<rect class=\"barrier\" x=\"244\" y=\"30\" width=\"12\" height=\"12\"/><text x=\"260\" y=\"41\">barrier</text>\n"
    ∷ codes "<rect class=\"rwlock\" x=\"322\" y=\"30\" width=\"12\" height=\"12\"/><text x=\"338\" y=\"41\">rwlock</text>\n"
    ∷ codes "<rect class=\"join\" x=\"10\" y=\"48\" width=\"12\" height=\"12\"/><text x=\"26\" y=\"59\">join</text>\n"
    ∷ codes "<rect class=\"input\" x=\"88\" y=\"48\" width=\"12\" height=\"12\"/><text x=\"104\" y=\"59\">input</text>\n"
    ∷ codes "<rect class=\"sleep\" x=\"166\" y=\"48\" width=\"12\" height=\"12\"/><text x=\"182\" y=\"59\">sleep</text>\n"
    ∷ codes "<rect class=\"ready\" x=\"244\" y=\"48\" width=\"12\" height=\"12\"/><text x=\"260\" y=\"59\">ready</text>\n"
    ∷ codes "<rect class=\"ended\" x=\"322\" y=\"48\" width=\"12\" height=\"12\"/><text x=\"338\" y=\"59\">ended</text>\n"
    ∷ [])

-- how many steps a column has, where there are columns
abbrev pub scale_text : Chart → List ℕ
scale_text c =
    if c.span == 0 then [] else joined (codes ", " ∷ decimal c.span ∷ codes " in each column" ∷ [])

abbrev pub heading_text : Chart → List ℕ
heading_text c = joined (
    codes "<svg xmlns=\"http://www.w3.org/2000/svg\" width=\"" ∷ decimal c.width ∷ codes "\" height=\"" ∷ decimal (bottom c + 24)
    ∷ codes "\" font-family=\"sans-serif\" font-size=\"12\">\n"
    ∷ codes "<rect width=\"100%\" height=\"100%\" fill=\"white\"/>\n<text x=\"10\" y=\"20\" font-size=\"14\">events " ∷ decimal c.first
    ∷ codes " to " ∷ decimal (c.first + c.events) ∷ codes ": " ∷ decimal c.steps ∷ codes " steps" ∷ [])

abbrev pub page_text : Chart → List ℕ
page_text c = heading_text c ++ scale_text c ++ codes "</text>\n"

abbrev pub begin_text : Form → Chart → List ℕ
begin_text form.Picture c = page_text c ++ STYLE ++ LEGEND
begin_text form.Events c =
    codes "{\"traceEvents\":[\n{\"name\":\"process_name\",\"ph\":\"M\",\"pid\":1,\"args\":{\"name\":\"guest\"}}"

abbrev pub end_text : Form → List ℕ
end_text form.Picture = codes "</svg>\n"
end_text form.Events = codes "\n]}\n"

-- of threads with these pieces, the first of which is thread 1, and of events that begin behind so many steps
abbrev pub chart_text : Form → Chart → List ℕ → List (List Piece) → List ℕ
chart_text f c begins tracks =
    begin_text f c ++ marks_text f c c.first 0 begins ++ rows_text f c 1 TOP tracks ++ end_text f
