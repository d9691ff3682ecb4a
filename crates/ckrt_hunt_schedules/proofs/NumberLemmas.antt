-- The number that a text is.
use Rattle.std.proofs.Common.{◌≡◌, ℕ, Bool, true, false, List, [], ◌∷◌, length, Some, None, refl, ap, nat_lt, ◌^◌, lt-ltb, ltb-true}
use Rattle.std.specs.Prelude.{Result, Ok, Err}
use Rattle.std.specs.List.{list_all}
use Rattle.std.specs.Result.{result_ok}
use Rattle.std.specs.Char.{digit_value}
use Rattle.std.specs.Str.Parse.{AllDigits, ParsesUnsigned, digits_value, without_leading_plus}
use Rattle.ckrt_hunt_schedules.specs.Seeds.{is_number, number_of}
use Rattle.ckrt_hunt_schedules.proofs.SameLemmas.{both}

digits_pass : (ds : List ℕ) → AllDigits 10 ds → list_all (λ d. nat_lt (digit_value d) 10) ds ≡ true
digits_pass [] h = refl
digits_pass (d ∷ ds) h = rw (lt-ltb (digit_value d) 10 h.0) (digits_pass ds h.1)

digits_from : (ds : List ℕ) → list_all (λ d. nat_lt (digit_value d) 10) ds ≡ true → AllDigits 10 ds
digits_from [] e = tt
digits_from (d ∷ ds) e =
    let parts = both _ _ e in
    (ltb-true _ _ parts.0, digits_from ds parts.1)

-- what a parse answers, without its fault, is the number
pub number_read : {E : Type 0} (t : List ℕ) (r : Result ℕ E) → ParsesUnsigned 64 10 t r → result_ok r ≡ number_of t
number_read t (Ok n) parsed =
    let ds = without_leading_plus t in
    rw (lt-ltb 0 (length ds) parsed.0.0.0, digits_pass ds parsed.0.0.1, lt-ltb (digits_value 10 ds) (2 ^ 64) parsed.0.1) (ap Some parsed.1)
number_read t (Err x) parsed = go (is_number t) refl
  where
    go : (b : Bool) → is_number t ≡ b → None ≡ number_of t
    go false e = rw e refl
    go true e =
        let ds = without_leading_plus t in
        let outer = both _ _ e in
        let inner = both _ _ outer.1 in
        absurd (parsed ((ltb-true _ _ outer.0, digits_from ds inner.0), ltb-true _ _ inner.1))
