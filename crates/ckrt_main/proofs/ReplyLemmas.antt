-- What replies say, one after another.
use Rattle.std.proofs.Common.{◌≡◌, ℕ, zero, suc, ◌+◌, ◌*◌, ◌-◌, ◌/◌, ◌<◌, ◌≤◌, List, [], ◌∷◌, ◌++◌, length, take, drop, refl, sym, ◌∙◌, ap, subst, arith, append_assoc, length-append, length-drop, take_all, inl, inr, min}
use Rattle.std.specs.List.{AllByRecursion}
use Rattle.std.proofs.lemmas.Bool.Decides.{leb_tells}
use Rattle.std.proofs.lemmas.List.{drop_all, take-append-drop}
use Rattle.ckrt_recovery.specs.Between.{StandsIn}
use Rattle.ckrt_disk.specs.Lists.{IsBeginningOf}
use Rattle.ckrt_main.specs.Replies.{Reply, Accepted, Acknowledged, NotAccepted, NotSaved, NotUnderstood, Output, line_of, told_of, text_of, outputs_by, outputs, oks_of, acks_of, outs_of, shown_in, shown_up_to}

-- WHAT HOLDS OF EACH

pub all_weaker : {A : Type 0} (P Q : A → Type 0) → ((x : A) → P x → Q x) → (xs : List A) → AllByRecursion P xs → AllByRecursion Q xs
all_weaker P Q w [] h = tt
all_weaker P Q w (x ∷ xs) h = (w x h.0, all_weaker P Q w xs h.1)

pub all_more : {A : Type 0} (P : A → Type 0) (xs ys : List A) → AllByRecursion P xs → AllByRecursion P ys → AllByRecursion P (xs ++ ys)
all_more P [] ys h k = k
all_more P (x ∷ xs) ys h k = (h.0, all_more P xs ys h.1 k)

pub all_front : {A : Type 0} (P : A → Type 0) (xs ys : List A) → AllByRecursion P (xs ++ ys) → AllByRecursion P xs
all_front P [] ys h = tt
all_front P (x ∷ xs) ys h = (h.0, all_front P xs ys h.1)

-- REPLIES AFTER REPLIES

pub told-append : (text : Reply → List ℕ) (xs ys : List Reply) → told_of text (xs ++ ys) ≡ told_of text xs ++ told_of text ys
told-append text [] ys = refl
told-append text (x ∷ xs) ys = ap (λ (l : List ℕ). text x ++ l) (told-append text xs ys) ∙ sym (append_assoc (text x) (told_of text xs) (told_of text ys))

pub text-append : (xs ys : List Reply) → text_of (xs ++ ys) ≡ text_of xs ++ text_of ys
text-append xs ys = told-append line_of xs ys

pub oks-append : (xs ys : List Reply) → oks_of (xs ++ ys) ≡ oks_of xs + oks_of ys
oks-append [] ys = omega arith
oks-append (Accepted k a ∷ xs) ys = let rest = oks-append xs ys in omega (arith, rest)
oks-append (Acknowledged k ∷ xs) ys = oks-append xs ys
oks-append (NotAccepted why ∷ xs) ys = oks-append xs ys
oks-append (NotSaved why ∷ xs) ys = oks-append xs ys
oks-append (NotUnderstood why ∷ xs) ys = oks-append xs ys
oks-append (Output offset bytes ∷ xs) ys = oks-append xs ys

pub acks-append : (xs ys : List Reply) → acks_of (xs ++ ys) ≡ acks_of xs ++ acks_of ys
acks-append [] ys = refl
acks-append (Accepted k a ∷ xs) ys = acks-append xs ys
acks-append (Acknowledged k ∷ xs) ys = ap (λ (l : List ℕ). k ∷ l) (acks-append xs ys)
acks-append (NotAccepted why ∷ xs) ys = acks-append xs ys
acks-append (NotSaved why ∷ xs) ys = acks-append xs ys
acks-append (NotUnderstood why ∷ xs) ys = acks-append xs ys
acks-append (Output offset bytes ∷ xs) ys = acks-append xs ys

pub outs-append : (xs ys : List Reply) → outs_of (xs ++ ys) ≡ outs_of xs ++ outs_of ys
outs-append [] ys = refl
outs-append (Accepted k a ∷ xs) ys = outs-append xs ys
outs-append (Acknowledged k ∷ xs) ys = outs-append xs ys
outs-append (NotAccepted why ∷ xs) ys = outs-append xs ys
outs-append (NotSaved why ∷ xs) ys = outs-append xs ys
outs-append (NotUnderstood why ∷ xs) ys = outs-append xs ys
outs-append (Output offset bytes ∷ xs) ys = ap (λ (l : List (ℕ × List ℕ)). (offset, bytes) ∷ l) (outs-append xs ys)

pub shown-append : (n : ℕ) (xs ys : List Reply) → shown_up_to n (xs ++ ys) ≡ shown_up_to (shown_up_to n xs) ys
shown-append n [] ys = refl
shown-append n (Accepted k a ∷ xs) ys = shown-append n xs ys
shown-append n (Acknowledged k ∷ xs) ys = shown-append n xs ys
shown-append n (NotAccepted why ∷ xs) ys = shown-append n xs ys
shown-append n (NotSaved why ∷ xs) ys = shown-append n xs ys
shown-append n (NotUnderstood why ∷ xs) ys = shown-append n xs ys
shown-append n (Output offset bytes ∷ xs) ys = shown-append (offset + length bytes) xs ys

pub shown-grows : (n m : ℕ) (xs : List Reply) → n ≤ m → shown_up_to n xs ≤ shown_up_to m xs
shown-grows n m [] le = le
shown-grows n m (Accepted k a ∷ xs) le = shown-grows n m xs le
shown-grows n m (Acknowledged k ∷ xs) le = shown-grows n m xs le
shown-grows n m (NotAccepted why ∷ xs) le = shown-grows n m xs le
shown-grows n m (NotSaved why ∷ xs) le = shown-grows n m xs le
shown-grows n m (NotUnderstood why ∷ xs) le = shown-grows n m xs le
shown-grows n m (Output offset bytes ∷ xs) le = shown-grows (offset + length bytes) (offset + length bytes) xs (omega arith)

-- what is shown later, behind what was shown
pub shown_more : (from mid end : ℕ) (xs ys : List Reply) → mid ≤ shown_up_to from xs → end ≤ shown_up_to mid ys → end ≤ shown_up_to from (xs ++ ys)
shown_more from mid end xs ys first second =
    let grows : shown_up_to mid ys ≤ shown_up_to (shown_up_to from xs) ys = shown-grows mid (shown_up_to from xs) ys first in
    omega (arith, grows, second, shown-append from xs ys)

no_acks_by : (xs ys : List ℕ) → xs ++ ys ≡ [] → xs ≡ []
no_acks_by [] ys h = refl
no_acks_by (x ∷ xs) ys h = cc

-- a beginning of replies without an ack has none
pub no_acks : (front all : List Reply) → IsBeginningOf front all → acks_of all ≡ [] → acks_of front ≡ []
no_acks front all h none = no_acks_by (acks_of front) (acks_of h.0) (sym (acks-append front h.0) ∙ ap acks_of (sym h.1) ∙ none)

pub no_oks : (front all : List Reply) → IsBeginningOf front all → oks_of all ≡ 0 → oks_of front ≡ 0
no_oks front all h none = let both : oks_of front + oks_of h.0 ≡ 0 = sym (oks-append front h.0) ∙ ap oks_of (sym h.1) ∙ none in omega (arith, both)

pub fewer_outs : (P : ℕ × List ℕ → Type 0) (front all : List Reply) → IsBeginningOf front all → AllByRecursion P (outs_of all) → AllByRecursion P (outs_of front)
fewer_outs P front all h k = all_front P (outs_of front) (outs_of h.0) (subst (AllByRecursion P) (ap outs_of h.1 ∙ outs-append front h.0) k)

-- LINES OF OUTPUT

-- the first line of output, and the others
outputs-first : (offset : ℕ) (bytes : List ℕ) → 0 < length bytes → outputs offset bytes ≡ Output offset (take 64 bytes) ∷ outputs (offset + length (take 64 bytes)) (drop 64 bytes)
outputs-first offset bytes lt =
    let rest : length (drop 64 bytes) ≡ length bytes - 64 = length-drop 64 bytes in
    let count : (length bytes + 63) / 64 ≡ suc ((length (drop 64 bytes) + 63) / 64) = omega arith in
    rw count refl

-- the next line of output
pub outputs-next : (at count : ℕ) (rest : List ℕ) → count ≡ min (length rest) 64 → 0 < length rest → outputs at rest ≡ Output at (take count rest) ∷ outputs (at + length (take count rest)) (drop count rest)
outputs-next at count rest is some = elim (leb_tells 64 (length rest)) [
  | inl p ↦ let same : count ≡ 64 = omega (arith, p.1, is) in subst (λ n. outputs at rest ≡ Output at (take n rest) ∷ outputs (at + length (take n rest)) (drop n rest)) (sym same) (outputs-first at rest some)
  | inr p ↦
      let short : length rest ≤ 64 = omega (arith, p.1) in
      let all : length rest ≤ count = omega (arith, p.1, is) in
      let front : take 64 rest ≡ take count rest = take_all 64 rest short ∙ sym (take_all count rest all) in
      let back : drop 64 rest ≡ drop count rest = drop_all 64 rest short ∙ sym (drop_all count rest all) in
      outputs-first at rest some ∙ (ap (λ (l : List ℕ). Output at l ∷ outputs (at + length l) (drop 64 rest)) front ∙ ap (λ (l : List ℕ). Output at (take count rest) ∷ outputs (at + length (take count rest)) l) back)
]

acks-outputs_by : (n offset : ℕ) (bytes : List ℕ) → acks_of (outputs_by n offset bytes) ≡ []
acks-outputs_by zero offset bytes = refl
acks-outputs_by (suc n) offset bytes = acks-outputs_by n (offset + length (take 64 bytes)) (drop 64 bytes)

oks-outputs_by : (n offset : ℕ) (bytes : List ℕ) → oks_of (outputs_by n offset bytes) ≡ 0
oks-outputs_by zero offset bytes = refl
oks-outputs_by (suc n) offset bytes = oks-outputs_by n (offset + length (take 64 bytes)) (drop 64 bytes)

pub oks-outputs : (offset : ℕ) (bytes : List ℕ) → oks_of (outputs offset bytes) ≡ 0
oks-outputs offset bytes = oks-outputs_by ((length bytes + 63) / 64) offset bytes

pub acks-outputs : (offset : ℕ) (bytes : List ℕ) → acks_of (outputs offset bytes) ≡ []
acks-outputs offset bytes = acks-outputs_by ((length bytes + 63) / 64) offset bytes

both_parts : (bytes : List ℕ) → length (take 64 bytes) + length (drop 64 bytes) ≡ length bytes
both_parts bytes = sym (length-append (take 64 bytes) (drop 64 bytes)) ∙ ap length (take-append-drop 64 bytes)

shown-outputs_by : (n offset : ℕ) (bytes : List ℕ) → length bytes ≤ 64 * n → shown_up_to offset (outputs_by n offset bytes) ≡ offset + length bytes
shown-outputs_by zero offset bytes le = omega arith
shown-outputs_by (suc n) offset bytes le =
    let rest : length (drop 64 bytes) ≡ length bytes - 64 = length-drop 64 bytes in
    let more : length (drop 64 bytes) ≤ 64 * n = omega arith in
    let both : length (take 64 bytes) + length (drop 64 bytes) ≡ length bytes = both_parts bytes in
    shown-outputs_by n (offset + length (take 64 bytes)) (drop 64 bytes) more ∙ omega (arith, both)

pub shown-outputs : (offset : ℕ) (bytes : List ℕ) → shown_up_to offset (outputs offset bytes) ≡ offset + length bytes
shown-outputs offset bytes = shown-outputs_by ((length bytes + 63) / 64) offset bytes (omega arith)

shown_in-outputs_by : (n offset : ℕ) (bytes : List ℕ) → length bytes ≤ 64 * n → shown_in (outputs_by n offset bytes) ≡ bytes
shown_in-outputs_by zero offset [] le = refl
shown_in-outputs_by zero offset (b ∷ bytes) le = absurd (omega (arith, le))
shown_in-outputs_by (suc n) offset bytes le =
    let rest : length (drop 64 bytes) ≡ length bytes - 64 = length-drop 64 bytes in
    let more : length (drop 64 bytes) ≤ 64 * n = omega arith in
    ap (λ (l : List ℕ). take 64 bytes ++ l) (shown_in-outputs_by n (offset + length (take 64 bytes)) (drop 64 bytes) more) ∙ take-append-drop 64 bytes

-- the lines of output show all of it
pub shown_in-outputs : (offset : ℕ) (bytes : List ℕ) → shown_in (outputs offset bytes) ≡ bytes
shown_in-outputs offset bytes = shown_in-outputs_by ((length bytes + 63) / 64) offset bytes (omega arith)

-- a reply that is no line of output shows none
pub shows_none : (r : Reply) → outs_of (r ∷ []) ≡ [] → shown_in (r ∷ []) ≡ []
shows_none (Accepted k a) none = refl
shows_none (Acknowledged k) none = refl
shows_none (NotAccepted why) none = refl
shows_none (NotSaved why) none = refl
shows_none (NotUnderstood why) none = refl
shows_none (Output offset bytes) none = cc

shown_behind_by : (n offset : ℕ) (bytes : List ℕ) (front rest : List Reply) → outputs_by n offset bytes ≡ front ++ rest → offset ≤ shown_up_to offset front
shown_behind_by n offset bytes [] rest e = omega arith
shown_behind_by zero offset bytes (x ∷ front) rest e = cc
shown_behind_by (suc n) offset bytes (x ∷ front) rest e =
    let first : Output offset (take 64 bytes) ≡ x = cc in
    let others : outputs_by n (offset + length (take 64 bytes)) (drop 64 bytes) ≡ front ++ rest = cc in
    let reached : offset + length (take 64 bytes) ≤ shown_up_to (offset + length (take 64 bytes)) front = shown_behind_by n (offset + length (take 64 bytes)) (drop 64 bytes) front rest others in
    subst (λ (r : Reply). offset ≤ shown_up_to offset (r ∷ front)) first (omega (arith, reached))

-- the first lines of output end at or behind its offset
pub shown_behind : (offset : ℕ) (bytes : List ℕ) (front broken : List Reply) → IsBeginningOf (front ++ broken) (outputs offset bytes) → offset ≤ shown_up_to offset front
shown_behind offset bytes front broken h = shown_behind_by ((length bytes + 63) / 64) offset bytes front (broken ++ h.0) (h.1 ∙ append_assoc front broken h.0)

stands-outputs_by : (n offset : ℕ) (bytes out front rest : List ℕ) → length front ≡ offset → out ≡ front ++ (bytes ++ rest) → AllByRecursion (StandsIn out) (outs_of (outputs_by n offset bytes))
stands-outputs_by zero offset bytes out front rest size is = tt
stands-outputs_by (suc n) offset bytes out front rest size is =
    let line : List ℕ = take 64 bytes in
    let more : List ℕ = drop 64 bytes in
    let split : bytes ++ rest ≡ take 64 bytes ++ (drop 64 bytes ++ rest) = ap (λ (l : List ℕ). l ++ rest) (sym (take-append-drop 64 bytes)) ∙ append_assoc (take 64 bytes) (drop 64 bytes) rest in
    let here : out ≡ front ++ (take 64 bytes ++ (drop 64 bytes ++ rest)) = is ∙ ap (λ (l : List ℕ). front ++ l) split in (
      (front, more ++ rest, size, here),
      stands-outputs_by n (offset + length (take 64 bytes)) (drop 64 bytes) out (front ++ line) rest (length-append front (take 64 bytes) ∙ ap (λ k. k + length (take 64 bytes)) size) (here ∙ sym (append_assoc front (take 64 bytes) (drop 64 bytes ++ rest))),
    )

-- each line of output stands where the whole does
pub stands-outputs : (offset : ℕ) (bytes out front rest : List ℕ) → length front ≡ offset → out ≡ front ++ (bytes ++ rest) → AllByRecursion (StandsIn out) (outs_of (outputs offset bytes))
stands-outputs offset bytes out front rest size is = stands-outputs_by ((length bytes + 63) / 64) offset bytes out front rest size is

-- what stands in an output stands in a longer one
pub stands_longer : (out all : List ℕ) → IsBeginningOf out all → (line : ℕ × List ℕ) → StandsIn out line → StandsIn all line
stands_longer out all h line s = (s.0, s.1 ++ h.0, s.2, h.1 ∙ (ap (λ (l : List ℕ). l ++ h.0) s.3 ∙ (append_assoc s.0 (line.1 ++ s.1) h.0 ∙ ap (λ (l : List ℕ). s.0 ++ l) (append_assoc line.1 s.1 h.0))))
