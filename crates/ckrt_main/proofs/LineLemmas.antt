-- Lines as they come, byte by byte.
use Rattle.std.proofs.Common.{◌≡◌, ℕ, suc, ◌-◌, ◌<◌, ◌≤◌, ◌&&◌, Bool, true, false, not, cond, ◌≢◌, List, [], ◌∷◌, ◌++◌, length, take, get_or, refl, sym, ◌∙◌, ap, arith, append_assoc, append-nil, length-append, length-take-le, Err}
use Rattle.std.specs.Prelude.{◌==◌, nat_lt}
use Rattle.std.specs.List.{slice_split, onto_first}
use Rattle.std.specs.Str.Lines.{lines, lines_of_parts, strip_carriage_return}
use Rattle.std.specs.Io.BufRead.{drop_through}
use Rattle.std.proofs.lemmas.Bool.{lt-ltb, eqb-true}
use Rattle.std.proofs.lemmas.Bool.Decides.{nat_tests}
use Rattle.ckrt_events.specs.Line.{command_of}
use Rattle.ckrt_events.specs.declared.command.LineFault.TheVariants.{TooLong}
use Rattle.ckrt_recovery.specs.View.{View}
use Rattle.ckrt_main.specs.Replies.{Reply, NotUnderstood}
use Rattle.ckrt_main.specs.Transcript.{Fate, preceded_by, unless_quit, followed_by, respond, respond_all}
use Rattle.ckrt_main.specs.Service.{is_open}

-- the reply to a line that is too long
abbrev too_long : Reply
too_long = NotUnderstood TooLong

not_and : (x y : Bool) → (not x && y) ≡ true → (x ≡ false) × (y ≡ true)
not_and true y h = cc
not_and false y h = (refl, h)

later_part : (x : ℕ) (c : Bool) (parts more : List (List ℕ)) (w : List ℕ) (rest : List (List ℕ)) → c ≡ false → more ≡ w ∷ rest → cond c parts (onto_first x more) ≡ (x ∷ w) ∷ rest
later_part x c parts more w rest hc hm = rw (hc, hm) refl

split_at_newline : (w bs : List ℕ) → is_open w ≡ true → slice_split (λ b. b == 10) (w ++ 10 ∷ bs) ≡ w ∷ slice_split (λ b. b == 10) bs
split_at_newline [] bs h = refl
split_at_newline (x ∷ w) bs h =
    let k = not_and (x == 10) (is_open w) h in
    later_part x (x == 10) ([] ∷ slice_split (λ b. b == 10) (w ++ 10 ∷ bs)) (slice_split (λ b. b == 10) (w ++ 10 ∷ bs)) w (slice_split (λ b. b == 10) bs) k.0 (split_at_newline w bs k.1)

split_open : (w : List ℕ) → is_open w ≡ true → slice_split (λ b. b == 10) w ≡ w ∷ []
split_open [] h = refl
split_open (x ∷ w) h =
    let k = not_and (x == 10) (is_open w) h in
    later_part x (x == 10) ([] ∷ slice_split (λ b. b == 10) w) (slice_split (λ b. b == 10) w) w [] k.0 (split_open w k.1)

-- there is always a first part
onto_some : (x : ℕ) (c : Bool) (ps : List (List ℕ)) → (y : List ℕ) × (more : List (List ℕ)) × (cond c ([] ∷ ps) (onto_first x ps) ≡ y ∷ more)
onto_some x true ps = ([], ps, refl)
onto_some x false [] = (x ∷ [], [], refl)
onto_some x false (p ∷ ps) = (x ∷ p, ps, refl)

split_some : (bs : List ℕ) → (y : List ℕ) × (more : List (List ℕ)) × (slice_split (λ b. b == 10) bs ≡ y ∷ more)
split_some [] = ([], [], refl)
split_some (x ∷ bs) = onto_some x (x == 10) (slice_split (λ b. b == 10) bs)

parts_more : (w : List ℕ) (ps : List (List ℕ)) (y : List ℕ) (more : List (List ℕ)) → ps ≡ y ∷ more → lines_of_parts (w ∷ ps) ≡ strip_carriage_return w ∷ lines_of_parts ps
parts_more w ps y more e = rw e refl

-- a line feed ends the line
pub lines-newline : (w bs : List ℕ) → is_open w ≡ true → lines (w ++ 10 ∷ bs) ≡ strip_carriage_return w ∷ lines bs
lines-newline w bs h =
    let s = split_some bs in
    ap lines_of_parts (split_at_newline w bs h) ∙ parts_more w (slice_split (λ b. b == 10) bs) s.0 s.1 s.2

-- the last line
some_byte : (n : ℕ) → (suc n == 0) ≡ false
some_byte n = grind (arith, nat_tests)

kept_part : (w : List ℕ) (c : Bool) → c ≡ false → cond c [] (w ∷ []) ≡ w ∷ []
kept_part w c h = rw h refl

pub lines-open : (x : ℕ) (w : List ℕ) → is_open (x ∷ w) ≡ true → lines (x ∷ w) ≡ (x ∷ w) ∷ []
lines-open x w h = ap lines_of_parts (split_open (x ∷ w) h) ∙ kept_part (x ∷ w) (suc (length w) == 0) (some_byte (length w))

pub is_open-more : (w : List ℕ) (b : ℕ) → is_open w ≡ true → (b == 10) ≡ false → is_open (w ++ b ∷ []) ≡ true
is_open-more [] b p q = rw q refl
is_open-more (x ∷ w) b p q = let h = not_and (x == 10) (is_open w) p in rw (h.0, is_open-more w b h.1 q) refl

-- a line that is too long
long_command : (line : List ℕ) → 160 < length line → command_of line ≡ Err TooLong
long_command line h = let k : nat_lt 160 (length line) ≡ true = lt-ltb 160 (length line) h in rw k refl

cut_long : (c : Bool) (w : List ℕ) → 162 ≤ length w → 160 < length (cond c (take (length w - 1) w) w)
cut_long true w h = let n : length (take (length w - 1) w) ≡ length w - 1 = length-take-le (length w - 1) w (omega arith) in omega arith
cut_long false w h = omega arith

stripped_long : (w : List ℕ) → 162 ≤ length w → 160 < length (strip_carriage_return w)
stripped_long w h = cut_long (get_or w (length w - 1) 0 == 13) w h

refused_long : (f : Fate) (v : View) (line : List ℕ) (more : List (List ℕ)) → command_of line ≡ Err TooLong → respond_all (line ∷ more) f v ≡ preceded_by (too_long ∷ []) [] (respond_all more f v)
refused_long f v line more e = rw e refl

long_byte : (f : Fate) (v : View) (w : List ℕ) (b : ℕ) (more : List ℕ) → is_open w ≡ true → 162 ≤ length w
    → ((z : List ℕ) → is_open z ≡ true → 162 ≤ length z → respond_all (lines (z ++ more)) f v ≡ preceded_by (too_long ∷ []) [] (respond_all (lines (drop_through 10 more)) f v))
    → (t : Bool) → (b == 10) ≡ t → respond_all (lines (w ++ b ∷ more)) f v ≡ preceded_by (too_long ∷ []) [] (respond_all (lines (drop_through 10 (b ∷ more))) f v)
long_byte f v w b more o h again true e =
    let same : drop_through 10 (b ∷ more) ≡ more = rw e refl in
    ap (λ (n : ℕ). respond_all (lines (w ++ n ∷ more)) f v) (eqb-true b 10 e) ∙ (ap (λ (ls : List (List ℕ)). respond_all ls f v) (lines-newline w more o) ∙ (refused_long f v (strip_carriage_return w) (lines more) (long_command (strip_carriage_return w) (stripped_long w h)) ∙ sym (ap (λ (bs : List ℕ). preceded_by (too_long ∷ []) [] (respond_all (lines bs) f v)) same)))
long_byte f v w b more o h again false e =
    let same : drop_through 10 (b ∷ more) ≡ drop_through 10 more = rw e refl in
    let long : 162 ≤ length (w ++ b ∷ []) = omega (arith, length-append w (b ∷ [])) in
    ap (λ (l : List ℕ). respond_all (lines l) f v) (sym (append_assoc w (b ∷ []) more)) ∙ (again (w ++ b ∷ []) (is_open-more w b o e) long ∙ sym (ap (λ (bs : List ℕ). preceded_by (too_long ∷ []) [] (respond_all (lines bs) f v)) same))

-- what comes of a line that is too long already
respond-long : (f : Fate) (v : View) (w more : List ℕ) → is_open w ≡ true → 162 ≤ length w → respond_all (lines (w ++ more)) f v ≡ preceded_by (too_long ∷ []) [] (respond_all (lines (drop_through 10 more)) f v)
respond-long f v [] [] o h = absurd (omega arith)
respond-long f v (x ∷ w) [] o h =
    ap (λ (l : List ℕ). respond_all (lines l) f v) (append-nil (x ∷ w)) ∙ (ap (λ (ls : List (List ℕ)). respond_all ls f v) (lines-open x w o) ∙ refused_long f v (x ∷ w) [] (long_command (x ∷ w) (omega arith)))
respond-long f v w (b ∷ more) o h = long_byte f v w b more o h (λ (z : List ℕ) p q. respond-long f v z more p q) (b == 10) refl

-- no further byte of it matters
pub respond-full : (f : Fate) (v : View) (w : List ℕ) (b : ℕ) (more : List ℕ) → is_open w ≡ true → 162 ≤ length w → (b == 10) ≡ false → respond_all (lines (w ++ b ∷ more)) f v ≡ respond_all (lines (w ++ more)) f v
respond-full f v w b more o h e =
    let same : drop_through 10 (b ∷ more) ≡ drop_through 10 more = rw e refl in
    respond-long f v w (b ∷ more) o h ∙ (ap (λ (bs : List ℕ). preceded_by (too_long ∷ []) [] (respond_all (lines bs) f v)) same ∙ sym (respond-long f v w more o h))

-- what a line feed makes of what follows
pub respond-newline : (f : Fate) (v : View) (line more : List ℕ) → is_open line ≡ true → respond_all (lines (line ++ (10 ∷ [] ++ more))) f v ≡ followed_by (respond (command_of (strip_carriage_return line)) f v) (respond_all (lines more))
respond-newline f v line more o = ap (λ (ls : List (List ℕ)). respond_all ls f v) (lines-newline line more o)

-- a last line is all
pub respond-last : (f : Fate) (v : View) (line : List ℕ) → is_open line ≡ true → length line ≢ 0 → respond_all (lines line) f v ≡ followed_by (respond (command_of line) f v) (respond_all [])
respond-last f v [] o some = absurd (some refl)
respond-last f v (x ∷ line) o some = ap (λ (ls : List (List ℕ)). respond_all ls f v) (lines-open x line o)

-- after the last line there is nothing more
pub nothing_more : (quit : Bool) (f : Fate) (w : View) → unless_quit quit f w (respond_all []) ≡ record { replies = []; events = []; view = w; fate = f; quit = quit }
nothing_more true f w = refl
nothing_more false f w = refl
