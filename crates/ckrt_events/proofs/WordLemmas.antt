-- The words of a line and the numbers in them, as the code finds them: byte by byte.
use Rattle.std.proofs.Common.{◌≢◌, zero, ◌≡◌, ℕ, suc, ◌+◌, ◌-◌, ◌*◌, ◌<◌, ◌≤◌, ◌&&◌, Bool, true, false, not, filter, List, [], ◌∷◌, ◌++◌, length, take, drop, get_or, refl, sym, ◌∙◌, ap, arith}
use Rattle.std.proofs.lemmas.List.{take-append-drop}
use Rattle.ckrt_events.specs.Words.{is_blank, part_byte, parts_of, is_filled, words_of, ends_word, begins_word, is_digit, all_digits, value_from}

-- no byte is a space or a tab
abbrev pub is_plain : List ℕ → Bool
is_plain [] = true
is_plain (b ∷ bs) = not (is_blank b) && is_plain bs

not_and : (x y : Bool) → (not x && y) ≡ true → (x ≡ false) × (y ≡ true)
not_and true y h = cc
not_and false y h = (refl, h)

both : (x y : Bool) → (x && y) ≡ true → (x ≡ true) × (y ≡ true)
both true y h = (refl, h)
both false y h = cc

not_true : (x : Bool) → not x ≡ true → x ≡ false
not_true true h = cc
not_true false h = refl

and_false : (x y : Bool) → y ≡ false → (x && y) ≡ false
and_false true y h = h
and_false false y h = refl

plain_byte : (b : ℕ) (x : Bool) (parts : List (List ℕ)) (w : List ℕ) (more : List (List ℕ)) → x ≡ false → parts ≡ w ∷ more → part_byte b x parts ≡ (b ∷ w) ∷ more
plain_byte b x parts w more hx hp = rw (hx, hp) refl

blank_byte : (b : ℕ) (x : Bool) (parts : List (List ℕ)) → x ≡ true → part_byte b x parts ≡ [] ∷ parts
blank_byte b x parts hx = rw hx refl

-- the parts behind the first one, which is empty
abbrev parts_behind : List ℕ → List (List ℕ)
parts_behind [] = []
parts_behind (b ∷ bs) = parts_of bs

parts_of-end : (rest : List ℕ) → ends_word rest ≡ true → parts_of rest ≡ [] ∷ parts_behind rest
parts_of-end [] e = refl
parts_of-end (b ∷ bs) e = blank_byte b (is_blank b) (parts_of bs) e

parts_of-run : (w rest : List ℕ) (more : List (List ℕ)) → is_plain w ≡ true → parts_of rest ≡ [] ∷ more → parts_of (w ++ rest) ≡ w ∷ more
parts_of-run [] rest more p e = e
parts_of-run (b ∷ w) rest more p e =
    let h = not_and (is_blank b) (is_plain w) p in plain_byte b (is_blank b) (parts_of (w ++ rest)) w more h.0 (parts_of-run w rest more h.1 e)

-- a run of plain bytes before a blank or the end is the first word
words_of-run : (b : ℕ) (w rest : List ℕ) → is_plain (b ∷ w) ≡ true → ends_word rest ≡ true → words_of ((b ∷ w) ++ rest) ≡ (b ∷ w) ∷ words_of rest
words_of-run b w rest p e =
    let end = parts_of-end rest e in
    ap (filter is_filled) (parts_of-run (b ∷ w) rest (parts_behind rest) p end) ∙ ap (λ (ws : List (List ℕ)). (b ∷ w) ∷ ws) (sym (ap (filter is_filled) end))

-- the first n bytes are the first word
pub words_of-first : (s : List ℕ) (n : ℕ) → n ≤ length s → length s ≢ 0 → is_plain (take n s) ≡ true → ends_word (drop n s) ≡ true → begins_word s ≡ true → words_of s ≡ take n s ∷ words_of (drop n s)
words_of-first [] n le ne p e f = absurd (ne refl)
words_of-first (b ∷ s) zero le ne p e f = let h : is_blank b ≡ false = not_true (is_blank b) f in let h2 : is_blank b ≡ true = e in cc
words_of-first (b ∷ s) (suc n) le ne p e f = ap words_of (ap (λ (t : List ℕ). b ∷ t) (sym (take-append-drop n s))) ∙ words_of-run b (take n s) (drop n s) p e

-- bytes that are no blanks, each by its place
pub is_plain-take : (s : List ℕ) (n : ℕ) → ((k : ℕ) → k < n → is_blank (get_or s k 0) ≡ false) → is_plain (take n s) ≡ true
is_plain-take s zero h = refl
is_plain-take [] (suc n) h = refl
is_plain-take (b ∷ s) (suc n) h =
    let first : is_blank b ≡ false = h 0 (omega arith) in
    rw (first, is_plain-take s n (λ k lt. h (suc k) (omega arith))) refl

pub all_digits-more : (w : List ℕ) (b : ℕ) → all_digits w ≡ true → is_digit b ≡ true → all_digits (w ++ b ∷ []) ≡ true
all_digits-more [] b p q = rw q refl
all_digits-more (x ∷ w) b p q =
    let h = both (is_digit x) (all_digits w) p in rw (h.0, all_digits-more w b h.1 q) refl

-- one that isn't a digit
pub all_digits-stop : (w : List ℕ) (i : ℕ) → i < length w → is_digit (get_or w i 0) ≡ false → all_digits w ≡ false
all_digits-stop [] i lt q = absurd (omega arith)
all_digits-stop (x ∷ w) zero lt q = let h : is_digit x ≡ false = q in rw h refl
all_digits-stop (x ∷ w) (suc i) lt q = and_false (is_digit x) (all_digits w) (all_digits-stop w i (omega arith) q)

pub value_from-more : (n : ℕ) (w : List ℕ) (b : ℕ) → value_from n (w ++ b ∷ []) ≡ 10 * value_from n w + (b - 48)
value_from-more n [] b = refl
value_from-more n (x ∷ w) b = value_from-more (10 * n + (x - 48)) w b
