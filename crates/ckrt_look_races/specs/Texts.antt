-- What was found, as text (this project's own format): a line a pair of places, which begins as a line of a call does.
use Rattle.std.specs.Prelude.{ℕ, ◌==◌, Bool, true, false, if◌then◌else◌, List, [], ◌∷◌, ◌++◌, codes, decimal}
use Rattle.std.specs.List.{flat_map}
use Rattle.ckrt_inspect.specs.Texts.{hex_text}
use Rattle.ckrt_look_calls.specs.Rows.{others_line, stretch_text, times_text}
use Rattle.ckrt_look_clocks.specs.declared.operation.Access.{Access}
use Rattle.ckrt_look_clocks.specs.declared.pair.Pair.{Pair}
use Rattle.ckrt_look_clocks.specs.Detection.{Found}

-- ` stores ` or ` loads `, and of an atomic access so
abbrev pub verb : (is_store is_atomic : Bool) → List ℕ
verb true false = codes " stores "
verb true true = codes " stores atomically "
verb false false = codes " loads "
verb false true = codes " loads atomically "

-- `K+S thread T`
abbrev pub place_text : Access → List ℕ
place_text a =
    decimal a.place.event ++ codes "+" ++ decimal a.place.step ++ codes " thread "
    ++ decimal a.thread

-- ` stores ADDRESS pc PC`, ` stores atomically ADDRESS pc PC`
abbrev pub what_text : Access → List ℕ
what_text a = verb a.is_store a.is_atomic ++ hex_text a.address ++ codes " pc " ++ hex_text a.pc

abbrev pub access_text : Access → List ℕ
access_text a = place_text a ++ what_text a

abbrev pub both_text : Pair → List ℕ
both_text p = access_text p.first ++ codes ", " ++ access_text p.second

abbrev pub pair_line : Pair → List ℕ
pair_line p = both_text p ++ codes ", " ++ times_text p.count ++ codes "\n"

-- where there may be others
abbrev pub elsewhere : (begin : ℕ) → List ℕ
elsewhere k =
    if k == 0 then codes "another one may have some\n"
    else codes "events before these were not looked at, and another schedule may have some\n"

abbrev pub none_text : (begin end : ℕ) → List ℕ
none_text k l = stretch_text (codes "no races in events ") k l ++ codes " of this schedule; " ++ elsewhere k

-- where each pair has a text
abbrev pub text_of : (Pair → List ℕ) → (begin end : ℕ) → List Pair → ℕ → List ℕ
text_of each k l [] n = none_text k l
text_of each k l (p ∷ ps) n = flat_map each (p ∷ ps) ++ others_line n

abbrev pub found_text : (Pair → List ℕ) → (begin end : ℕ) → Found → List ℕ
found_text each k l f = text_of each k l f.pairs f.others
