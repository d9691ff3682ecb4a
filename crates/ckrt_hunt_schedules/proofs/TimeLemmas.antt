-- Where a hunt by time ends.
use Rattle.std.proofs.Common.{◌≡◌, ◌≤◌, ◌<◌, ◌+◌, ◌⊎◌, inl, inr, ℕ, Bool, true, false, not, subst, sym, arith}
use Rattle.std.proofs.lemmas.Bool.{cases_order}

-- what an answer says
pub no_time : (A : Bool → Type 0) (has : Bool) → not has ≡ true → A has → A false
no_time A true over a = absurd (cc)
no_time A false over a = a

pub some_time : (A : Bool → Type 0) (has : Bool) → not has ≡ false → A has → A true
some_time A true on a = a
some_time A false on a = absurd (cc)

-- one seed more behind which there was time
pub asked_on : (A : ℕ → Bool → Type 0) (first seed : ℕ) → ((n : ℕ) → first ≤ n → n < seed → A n true) → A seed true → (n : ℕ) → first ≤ n → n < seed + 1 → A n true
asked_on A first seed before last n from below = at (cases_order n seed)
  where
    at : (n ≡ seed) ⊎ ((n < seed) ⊎ (seed < n)) → A n true
    at (inl same) = subst (λ m. A m true) (sym same) last
    at (inr (inl less)) = before n from less
    at (inr (inr more)) = absurd (omega (arith, more, below))
