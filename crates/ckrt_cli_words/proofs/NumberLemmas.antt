-- The number that a text gives.
use Rattle.std.proofs.Common.{◌∙◌, cond, ◌≡◌, ℕ, Bool, true, false, List, [], ◌∷◌, length, Option, Some, None, refl, sym, ap, nat_lt, ◌^◌, lt-ltb, ltb-true, true≢false}
use Rattle.std.specs.Prelude.{⊤, Result, Ok, Err}
use Rattle.std.specs.List.{list_all}
use Rattle.std.specs.Char.{digit_value}
use Rattle.std.specs.Str.Parse.{AllDigits, ParsesUnsigned, digits_value, without_leading_plus}
use Rattle.clap.specs.Words.{ReadsOne}
use Rattle.clap.proofs.WalkLemmas.{both}
use Rattle.ckrt_cli_words.specs.Jobs.{is_number, number_of}

digits_pass : (ds : List ℕ) → AllDigits 10 ds → list_all (λ d. nat_lt (digit_value d) 10) ds ≡ true
digits_pass [] h = refl
digits_pass (d ∷ ds) h = rw (lt-ltb (digit_value d) 10 h.0) (digits_pass ds h.1)

digits_from : (ds : List ℕ) → list_all (λ d. nat_lt (digit_value d) 10) ds ≡ true → AllDigits 10 ds
digits_from [] e = tt
digits_from (d ∷ ds) e =
    let parts = both _ _ e in
    (ltb-true _ _ parts.0, digits_from ds parts.1)

-- a typed getter of a text gives its number, and none exactly where it has none
pub number_read : (bits : ℕ) (E : Type 0) (G : List ℕ → Result ℕ E → Type 0) → ((u : List ℕ) (x : Result ℕ E) → G u x → ParsesUnsigned bits 10 u x)
    → (t : List ℕ) (o : Option ℕ) → ReadsOne G t o → o ≡ number_of bits t
number_read bits E G only t (Some n) h =
    let parsed = only t (Ok n) h in
    let ds = without_leading_plus t in
    rw (lt-ltb 0 (length ds) parsed.0.0.0, digits_pass ds parsed.0.0.1, lt-ltb (digits_value 10 ds) (2 ^ bits) parsed.0.1) (ap Some parsed.1)
number_read bits E G only t None h = go (is_number bits t) refl
  where
    go : (b : Bool) → is_number bits t ≡ b → None ≡ number_of bits t
    go false e = rw e refl
    go true e =
        let ds = without_leading_plus t in
        let outer = both _ _ e in
        let inner = both _ _ outer.1 in
        absurd (only t (Err h.0) h.1 ((ltb-true _ _ outer.0, digits_from ds inner.0), ltb-true _ _ inner.1))

-- the number of a text is what a typed getter gives
pub number_reads : (bits : ℕ) (t : List ℕ) → ReadsOne (ParsesUnsigned {E = ⊤} bits 10) t (number_of bits t)
number_reads bits t = go (is_number bits t) refl
  where
    go : (b : Bool) → is_number bits t ≡ b → ReadsOne (ParsesUnsigned {E = ⊤} bits 10) t (cond b (Some (digits_value 10 (without_leading_plus t))) None)
    go true e =
        let outer = both _ _ e in
        let inner = both _ _ outer.1 in
        (((ltb-true _ _ outer.0, digits_from _ inner.0), ltb-true _ _ inner.1), refl)
    go false e = (tt, λ h. let all : is_number bits t ≡ true = rw (lt-ltb 0 (length (without_leading_plus t)) h.0.0, digits_pass (without_leading_plus t) h.0.1, lt-ltb (digits_value 10 (without_leading_plus t)) (2 ^ bits) h.1) refl in absurd (true≢false (sym all ∙ e)))
