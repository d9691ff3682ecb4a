-- How the code writes and reads numbers: digit by digit.
use Rattle.std.proofs.Common.{◌≡◌, ℕ, zero, suc, ◌/◌, ◌%◌, ◌<◌, ◌≤◌, List, [], ◌∷◌, ◌++◌, map, refl, sym, ◌∙◌, ap, arith}
use Rattle.std.specs.Int.Digits.{digits_of}
use Rattle.std.proofs.lemmas.Int.Digits.{digits_of_step}
use Rattle.std.proofs.lemmas.List.{map-append}
use Rattle.ckrt_gdb_forms.specs.Numbers.{digit_of, digits_text, number_text}

digits_text-last : (front : List ℕ) (d : ℕ) → digits_text (front ++ d ∷ []) ≡ map digit_of front ++ digit_of d ∷ []
digits_text-last [] d = refl
digits_text-last (x ∷ front) d = ap (λ (more : List ℕ). digit_of x ∷ more) (map-append digit_of front (d ∷ []))

digits_text-some : (front : List ℕ) (d : ℕ) → digits_text (front ++ d ∷ []) ≡ map digit_of (front ++ d ∷ [])
digits_text-some [] d = refl
digits_text-some (x ∷ front) d = refl

-- a number that isn't 0 has its digits alone
number_text-some : (n : ℕ) → 0 < n → map digit_of (digits_of 16 n) ≡ number_text n
unfolding number_text
number_text-some n lt =
    let step = digits_of_step 16 n (omega arith) lt in
    rw step (sym (digits_text-some (digits_of 16 (n / 16)) (n % 16)))

-- one digit is a number below 16
pub number_text-digit : (n : ℕ) → n < 16 → number_text n ≡ digit_of n ∷ []
unfolding number_text
number_text-digit zero lt = refl
number_text-digit (suc n) lt =
    let none : suc n / 16 ≡ 0 = omega arith in
    let same : suc n % 16 ≡ suc n = omega arith in
    let step = digits_of_step 16 (suc n) (omega arith) (omega arith) in
    ap digits_text (step ∙ ap (λ (m : ℕ). digits_of 16 m ++ suc n % 16 ∷ []) none) ∙ ap (λ (m : ℕ). digit_of m ∷ []) same

-- the digits of a greater number are those of a sixteenth of it, and one more
pub number_text-more : (n : ℕ) → 16 ≤ n → number_text n ≡ number_text (n / 16) ++ digit_of (n % 16) ∷ []
unfolding number_text
number_text-more n le =
    let some : 0 < n / 16 = omega arith in
    let step = digits_of_step 16 n (omega arith) (omega arith) in
    ap digits_text step ∙ digits_text-last (digits_of 16 (n / 16)) (n % 16)
    ∙ ap (λ (front : List ℕ). front ++ digit_of (n % 16) ∷ []) (number_text-some (n / 16) some)
