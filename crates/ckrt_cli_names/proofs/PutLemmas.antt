-- What waits for a writer goes onto it.
use Rattle.std.proofs.Common.{◌≡◌, ◌≤◌, ℕ, ◌+◌, List, length, [], ◌∷◌, ◌++◌, Bool, true, false, true≢false, not, ◌&&◌, take, drop, refl, sym, ◌∙◌, ap, append_assoc, append-nil, if◌then◌else◌, Option, Some, None, arith}
use Rattle.std.proofs.lemmas.List.{drop-append-le, take-append-drop, drop-drop, drop_all}
use Rattle.std.specs.Prelude.{⊤, OnOk, Result, Ok, Err}
use Rattle.std.specs.Result.{is_ok}
use Rattle.std.specs.declared.alloc.AllocError.{AllocError}
use Rattle.std.specs.Io.KnownBytes.{Appends, Keeps, append_known}
use Rattle.ckrt_cli_names.specs.declared.piece.Form.{Form}
use Rattle.ckrt_cli_names.specs.declared.piece.Piece.{Piece}
use Rattle.ckrt_cli_names.specs.declared.piece.Piece.TheVariants.{Note, Replaced, Taken}
use Rattle.ckrt_cli_names.specs.declared.piece.Form.TheVariants.{Frames}
use Rattle.ckrt_cli_names.specs.Put.{HasShown, KeepsMarks, is_mark, is_unmarked, marks, shown_of, taken_of}

-- a beginning of what waits was written
pub shown_more : (before a b : Option (List ℕ)) (rest front more : List ℕ) (pieces : List (Piece × List ℕ)) → HasShown before a rest pieces → Appends a b front → rest ≡ front ++ more → HasShown before b more pieces
shown_more before None b rest front more pieces has appends is held known = let none : None ≡ Some (held ++ shown_of pieces) = has held known in cc
shown_more before (Some xs) None rest front more pieces has appends is held known = absurd appends
shown_more before (Some xs) (Some ys) rest front more pieces has appends is held known =
    ap (λ (l : List ℕ). Some (l ++ more)) appends ∙ (ap Some (append_assoc xs front more) ∙ (ap (λ (l : List ℕ). Some (xs ++ l)) (sym is) ∙ has held known))

-- the first bytes of what waits were written
pub shown_to : (before a b : Option (List ℕ)) (items : List ℕ) (written count : ℕ) (rest : List ℕ) (pieces : List (Piece × List ℕ)) → HasShown before a (drop written items) pieces → rest ≡ drop written items → Appends a b (take count rest) → HasShown before b (drop (written + count) items) pieces
shown_to before a b items written count rest pieces has is appends =
    shown_more before a b (drop written items) (take count rest) (drop (written + count) items) pieces has appends
    (sym is ∙ (sym (take-append-drop count rest) ∙ ap (λ (l : List ℕ). take count rest ++ l) (ap (drop count) is ∙ drop-drop count written items)))

-- nothing is left of nothing
pub nothing_left : (items : List ℕ) (written : ℕ) → items ≡ [] → drop written items ≡ []
nothing_left items written none = ap (drop written) none ∙ drop_all written [] (omega arith)

-- where nothing waits, a piece was written at once
pub shown_at_once : (before a b : Option (List ℕ)) (items : List ℕ) (written : ℕ) (front : List ℕ) (pieces : List (Piece × List ℕ)) → HasShown before a (drop written items) pieces → items ≡ [] → Appends a b front → HasShown before b (drop written items) ((Taken, front) ∷ pieces)
shown_at_once before None b items written front pieces has none appends held known = let bad : None ≡ Some (held ++ shown_of pieces) = has held known in cc
shown_at_once before (Some xs) None items written front pieces has none appends held known = absurd appends
shown_at_once before (Some xs) (Some ys) items written front pieces has none appends held known =
    let rest : drop written items ≡ [] = nothing_left items written none in
    let grown : Some ((xs ++ drop written items) ++ front) ≡ Some ((held ++ shown_of pieces) ++ front) = ap (λ (o : Option (List ℕ)). append_known o front) (has held known) in
    ap (λ (l : List ℕ). Some (ys ++ l)) rest ∙ (ap Some (append-nil ys ∙ appends) ∙ (ap (λ (l : List ℕ). Some (l ++ front)) (sym (append-nil xs)) ∙ (ap (λ (l : List ℕ). Some ((xs ++ l) ++ front)) (sym rest) ∙ (grown ∙ ap Some (append_assoc held (shown_of pieces) front)))))

-- what was taken goes behind what was there
pub taken_more : (first : Option (List ℕ)) (a b x : List ℕ) → b ≡ a ++ x → Appends (append_known first a) (append_known first b) x
taken_more None a b x is = tt
taken_more (Some held) a b x is = ap (λ (l : List ℕ). held ++ l) is ∙ sym (append_assoc held a x)

-- nothing was taken behind what was there
pub nothing_taken : (first : Option (List ℕ)) → Keeps first (append_known first [])
nothing_taken None = tt
nothing_taken (Some held) = append-nil held

-- the marks of bytes one behind another
one_more : (is : Bool) (x : ℕ) (u v w : List ℕ) → u ≡ v ++ w → (if is then x ∷ u else u) ≡ (if is then x ∷ v else v) ++ w
one_more true x u v w same = ap (λ (l : List ℕ). x ∷ l) same
one_more false x u v w same = same

pub marks_append : (a b : List ℕ) → marks (a ++ b) ≡ marks a ++ marks b
marks_append [] b = refl
marks_append (x ∷ xs) b = one_more (is_mark x) x (marks (xs ++ b)) (marks xs) (marks b) (marks_append xs b)

-- bytes that are shown as they were taken keep the marks
pub marked_taken : (form : Form) (bytes : List ℕ) (pieces : List (Piece × List ℕ)) → KeepsMarks form pieces → KeepsMarks form ((Taken, bytes) ∷ pieces)
marked_taken form bytes pieces old = λ is.
    marks_append (shown_of pieces) bytes ∙ (ap (λ (l : List ℕ). l ++ marks bytes) (old is) ∙ sym (marks_append (taken_of pieces) bytes))

-- a note without marks keeps them
pub marked_note : (form : Form) (note : List ℕ) (pieces : List (Piece × List ℕ)) → KeepsMarks form pieces → marks note ≡ [] → KeepsMarks form ((Note, note) ∷ pieces)
marked_note form note pieces old none = λ is.
    marks_append (shown_of pieces) note
    ∙ (ap (λ (l : List ℕ). marks (shown_of pieces) ++ l) none
    ∙ (append-nil (marks (shown_of pieces)) ∙ (old is ∙ ap marks (sym (append-nil (taken_of pieces))))))

-- a line in whose place one with the same marks stands keeps them
pub marked_replaced : (form : Form) (line note : List ℕ) (pieces : List (Piece × List ℕ)) → KeepsMarks form pieces → (form ≡ Frames → marks note ≡ marks line)
    → KeepsMarks form ((Note, note) ∷ ((Replaced, line) ∷ pieces))
marked_replaced form line note pieces old same = λ is.
    ap (λ (l : List ℕ). marks (l ++ note)) (append-nil (shown_of pieces))
    ∙ (marks_append (shown_of pieces) note
    ∙ (ap (λ (l : List ℕ). l ++ marks note) (old is)
    ∙ (ap (λ (l : List ℕ). marks (taken_of pieces) ++ l) (same is)
    ∙ (sym (marks_append (taken_of pieces) line) ∙ ap marks (sym (append-nil (taken_of pieces ++ line)))))))

-- a byte that is no mark has none, and so have bytes of which none is
unmarked_byte : (x : ℕ) → is_mark x ≡ false → marks (x ∷ []) ≡ []
unmarked_byte x is = ap (λ (b : Bool). if b then x ∷ [] else []) is

pub unmarked_more : (l : List ℕ) (x : ℕ) → is_mark x ≡ false → marks (l ++ x ∷ []) ≡ marks l
unmarked_more l x is = marks_append l (x ∷ []) ∙ (ap (λ (m : List ℕ). marks l ++ m) (unmarked_byte x is) ∙ append-nil (marks l))

unmarked_step : (is rest : Bool) (x : ℕ) (u : List ℕ) → (rest ≡ true → u ≡ []) → (not is && rest) ≡ true → (if is then x ∷ u else u) ≡ []
unmarked_step true rest x u others all = absurd (true≢false (sym all))
unmarked_step false rest x u others all = others all

pub unmarked_none : (l : List ℕ) → is_unmarked l ≡ true → marks l ≡ []
unmarked_none [] all = refl
unmarked_none (x ∷ xs) all = unmarked_step (is_mark x) (is_unmarked xs) x (marks xs) (unmarked_none xs) all

-- a word without marks, in whose place something without marks stands
pub named_word : (before after word : List ℕ) → is_unmarked word ≡ true → marks after ≡ marks before → marks after ≡ marks before ++ marks word
named_word before after word all same = same ∙ (sym (append-nil (marks before)) ∙ ap (λ (l : List ℕ). marks before ++ l) (sym (unmarked_none word all)))

-- bytes, and behind them a word
pub marks_step : (before between after front word : List ℕ) → between ≡ before ++ front → marks after ≡ marks between ++ marks word → marks after ≡ marks before ++ marks (front ++ word)
marks_step before between after front word is same =
    same ∙ (ap (λ (l : List ℕ). marks l ++ marks word) is
    ∙ (ap (λ (l : List ℕ). l ++ marks word) (marks_append before front)
    ∙ (append_assoc (marks before) (marks front) (marks word) ∙ ap (λ (l : List ℕ). marks before ++ l) (sym (marks_append front word)))))

-- bytes go behind what waits, and are shown there
grown : (before now : Option (List ℕ)) (items bytes : List ℕ) (written : ℕ) (shown : List ℕ) → ((held : List ℕ) → before ≡ Some held → append_known now (drop written items) ≡ Some (held ++ shown)) → written ≤ length items
    → (held : List ℕ) → before ≡ Some held → append_known now (drop written (items ++ bytes)) ≡ Some (held ++ (shown ++ bytes))
grown before None items bytes written shown has within held known = let none : None ≡ Some (held ++ shown) = has held known in cc
grown before (Some xs) items bytes written shown has within held known =
    let more : Some ((xs ++ drop written items) ++ bytes) ≡ Some ((held ++ shown) ++ bytes) = ap (λ (o : Option (List ℕ)). append_known o bytes) (has held known) in
    ap (λ (l : List ℕ). Some (xs ++ l)) (drop-append-le written items bytes within)
    ∙ (ap Some (sym (append_assoc xs (drop written items) bytes)) ∙ (more ∙ ap Some (append_assoc held shown bytes)))

-- bytes that were taken wait behind the others
pub shown_put : (before now : Option (List ℕ)) (items bytes : List ℕ) (written : ℕ) (pieces : List (Piece × List ℕ)) → HasShown before now (drop written items) pieces → written ≤ length items
    → HasShown before now (drop written (items ++ bytes)) ((Taken, bytes) ∷ pieces)
shown_put before now items bytes written pieces has within = λ held known. grown before now items bytes written (shown_of pieces) has within held known

-- a note waits there, in the place of a line
pub shown_renamed : (before now : Option (List ℕ)) (items note line : List ℕ) (written : ℕ) (pieces : List (Piece × List ℕ)) → HasShown before now (drop written items) pieces → written ≤ length items
    → HasShown before now (drop written (items ++ note)) ((Note, note) ∷ ((Replaced, line) ∷ pieces))
shown_renamed before now items note line written pieces has within = λ held known.
    grown before now items note written (shown_of pieces ++ [])
    (λ held known. has held known ∙ ap (λ (l : List ℕ). Some (held ++ l)) (sym (append-nil (shown_of pieces)))) within held known

-- a step over a word of a line, of which the rest is left
pub marks_left : (out after line rest step front word more : List ℕ) → marks after ≡ marks out ++ marks (front ++ word) → front ++ word ≡ step → step ++ more ≡ rest → marks out ++ marks rest ≡ marks line
    → marks after ++ marks more ≡ marks line
marks_left out after line rest step front word more same parts whole old =
    ap (λ (l : List ℕ). l ++ marks more) same
    ∙ (append_assoc (marks out) (marks (front ++ word)) (marks more)
    ∙ (ap (λ (l : List ℕ). marks out ++ l) (sym (marks_append (front ++ word) more))
    ∙ (ap (λ (l : List ℕ). marks out ++ marks (l ++ more)) parts
    ∙ (ap (λ (l : List ℕ). marks out ++ marks l) whole ∙ old))))

-- the rest of a line behind what was put, where there was room
pub marks_all : (r : Result ⊤ AllocError) (out after line rest other : List ℕ) → after ≡ (if is_ok r then out ++ rest else other) → marks out ++ marks rest ≡ marks line → OnOk r (marks after ≡ marks line)
marks_all (Ok u) out after line rest other is old = ap marks is ∙ (marks_append out rest ∙ old)
marks_all (Err e) out after line rest other is old = tt
