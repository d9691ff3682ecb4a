-- The parts of a packet, as the code finds them: by the place of the first byte that ends one.
use Rattle.std.proofs.Common.{◌≡◌, ℕ, zero, suc, ◌+◌, ◌-◌, ◌<◌, ◌==◌, Bool, true, false, if◌then◌else◌, List, [], ◌∷◌, length, take, drop, get_or, Option, Some, None, refl, sym, ◌∙◌, ap, arith}
use Rattle.std.specs.List.{onto_first}
use Rattle.std.proofs.lemmas.List.{length-drop, take_all}
use Rattle.ckrt_gdb_forms.specs.Requests.{◌>>=◌, after, before, is_semicolon, motion_among, motion_by_turns, motion_of, or_next, part_byte, parts_of}

-- no byte before a place passes
abbrev pub AllFail : (ℕ → Bool) → List ℕ → ℕ → Type 0
AllFail p bytes i = (k : ℕ) → k < i → p (get_or bytes k 0) ≡ false

pub before-take : (p : ℕ → Bool) (bytes : List ℕ) (i : ℕ) → i < length bytes → AllFail p bytes i → p (get_or bytes i 0) ≡ true
    → before p bytes ≡ take i bytes
before-take p [] i lt none found = absurd (omega arith)
before-take p (b ∷ bytes) zero lt none found = let h : p b ≡ true = found in rw h refl
before-take p (b ∷ bytes) (suc i) lt none found =
    let h : p b ≡ false = none 0 (omega arith) in
    let more = before-take p bytes i (omega arith) (λ k below. none (suc k) (omega arith)) found in
    rw (h, more) refl

pub after-drop : (p : ℕ → Bool) (bytes : List ℕ) (i : ℕ) → i < length bytes → AllFail p bytes i → p (get_or bytes i 0) ≡ true
    → after p bytes ≡ Some (drop (suc i) bytes)
after-drop p [] i lt none found = absurd (omega arith)
after-drop p (b ∷ bytes) zero lt none found = let h : p b ≡ true = found in rw h refl
after-drop p (b ∷ bytes) (suc i) lt none found =
    let h : p b ≡ false = none 0 (omega arith) in
    let more = after-drop p bytes i (omega arith) (λ k below. none (suc k) (omega arith)) found in
    rw (h, more) refl

-- the same, as the code takes what is behind a place
pub after-rest : (p : ℕ → Bool) (bytes : List ℕ) (i : ℕ) → i < length bytes → AllFail p bytes i → p (get_or bytes i 0) ≡ true
    → after p bytes ≡ Some (take (length bytes - (i + 1)) (drop (i + 1) bytes))
after-rest p bytes i lt none found =
    let whole : take (length bytes - (i + 1)) (drop (i + 1) bytes) ≡ drop (i + 1) bytes
    = take_all (length bytes - (i + 1)) (drop (i + 1) bytes) (omega (arith, length-drop (i + 1) bytes)) in
    let next : i + 1 ≡ suc i = omega arith in
    after-drop p bytes i lt none found ∙ ap (λ (k : ℕ). Some (drop k bytes)) (sym next) ∙ ap Some (sym whole)

pub before-all : (p : ℕ → Bool) (bytes : List ℕ) → AllFail p bytes (length bytes) → before p bytes ≡ bytes
before-all p [] none = refl
before-all p (b ∷ bytes) none =
    let h : p b ≡ false = none 0 (omega arith) in
    let more = before-all p bytes (λ k below. none (suc k) (omega arith)) in
    rw (h, more) refl

pub after-none : (p : ℕ → Bool) (bytes : List ℕ) → AllFail p bytes (length bytes) → after p bytes ≡ None
after-none p [] none = refl
after-none p (b ∷ bytes) none =
    let h : p b ≡ false = none 0 (omega arith) in
    let more = after-none p bytes (λ k below. none (suc k) (omega arith)) in
    rw (h, more) refl

-- the parts behind a semicolon, or none
abbrev pub parts_behind : Option (List ℕ) → List (List ℕ)
parts_behind None = []
parts_behind (Some bytes) = parts_of bytes

first_part : (b : ℕ) (is : Bool) (bytes : List ℕ) → parts_of bytes ≡ before is_semicolon bytes ∷ parts_behind (after is_semicolon bytes)
    → part_byte b is (parts_of bytes) ≡ (if is then [] else b ∷ before is_semicolon bytes) ∷ parts_behind (if is then Some bytes else after is_semicolon bytes)
first_part b true bytes e = refl
first_part b false bytes e = ap (onto_first b) e

-- the first part ends at the first semicolon
pub parts_of-first : (bytes : List ℕ) → parts_of bytes ≡ before is_semicolon bytes ∷ parts_behind (after is_semicolon bytes)
parts_of-first [] = refl
parts_of-first (b ∷ bytes) = first_part b (b == 59) bytes (parts_of-first bytes)

turns : (word : List ℕ) (more : List (List ℕ)) (first : List ℕ) (others : List (List ℕ)) → more ≡ first ∷ others
    → motion_among (word ∷ more) ≡ (motion_of word >>= or_next (motion_among more))
turns word more first others e = rw e refl

some_turns : (word : List ℕ) (rest : Option (List ℕ)) → motion_among (word ∷ parts_behind rest) ≡ motion_by_turns word rest
some_turns word None = refl
some_turns word (Some bytes) =
    turns word (parts_of bytes) (before is_semicolon bytes) (parts_behind (after is_semicolon bytes)) (parts_of-first bytes)

-- motions are gone over one by one
pub motion_among-turns : (bytes : List ℕ) → motion_among (parts_of bytes) ≡ motion_by_turns (before is_semicolon bytes) (after is_semicolon bytes)
motion_among-turns bytes = ap motion_among (parts_of-first bytes) ∙ some_turns (before is_semicolon bytes) (after is_semicolon bytes)
