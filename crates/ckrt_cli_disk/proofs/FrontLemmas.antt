-- The front of a list, read up to a limit.
use Rattle.std.proofs.Common.{◌≡◌, ◌<◌, ◌≤◌, ◌+◌, ℕ, zero, suc, List, [], ◌∷◌, length, take, refl, ap, subst, arith, ◌∙◌}
use Rattle.std.proofs.lemmas.List.{take-take}
use Rattle.ckrt_cli_files.specs.Elf.{is_elf}

take_whole : (n : ℕ) (xs : List ℕ) → length (take n xs) < n → take n xs ≡ xs
take_whole zero xs h = absurd (omega arith)
take_whole (suc n) [] h = refl
take_whole (suc n) (x ∷ xs) h = ap (λ l. x ∷ l) (take_whole n xs (omega arith))

take_shorter : (n : ℕ) (xs : List ℕ) → length (take n xs) ≤ length xs
take_shorter zero xs = omega arith
take_shorter (suc n) [] = omega arith
take_shorter (suc n) (x ∷ xs) =
    let rest = take_shorter n xs in
    omega arith

-- what is no longer than the limit is all
pub front_whole : (limit : ℕ) (bytes read : List ℕ) → read ≡ take (limit + 1) bytes → length read ≤ limit → read ≡ bytes
front_whole limit bytes read e short =
    let less : length (take (limit + 1) bytes) < limit + 1 = subst (λ (l : List ℕ). length l < limit + 1) e (omega arith) in
    e ∙ take_whole (limit + 1) bytes less

-- what is longer than the limit is of a longer list
pub front_longer : (limit : ℕ) (bytes read : List ℕ) → read ≡ take (limit + 1) bytes → limit < length read → limit < length bytes
front_longer limit bytes read e long =
    let same : length read ≡ length (take (limit + 1) bytes) = ap (λ (l : List ℕ). length l) e in
    let most = take_shorter (limit + 1) bytes in
    omega arith

-- a front of at least four bytes tells whether all are an ELF file
pub front_tells_elf : (limit : ℕ) (bytes read : List ℕ) → 3 ≤ limit → read ≡ take (limit + 1) bytes → is_elf read ≡ is_elf bytes
front_tells_elf limit bytes read few e =
    let front = take-take 4 (limit + 1) bytes (omega (arith, few)) in
    ap (λ (l : List ℕ). is_elf l) e ∙ (rw front refl)
