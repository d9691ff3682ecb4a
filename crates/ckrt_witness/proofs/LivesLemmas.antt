-- Lists of four, by their elements.
use Rattle.std.proofs.Common.{◌≡◌, ◌≤◌, ◌<◌, List, [], ◌∷◌, length, arith, get_or}

pub four_of : {X : Type 0} (xs : List X) (a b c e : X) → 4 ≤ length xs → length xs < 5 → a ≡ get_or xs 0 a → b ≡ get_or xs 1 b → c ≡ get_or xs 2 c → e ≡ get_or xs 3 e → xs ≡ a ∷ b ∷ c ∷ e ∷ []
four_of [] a b c e long short p q r s = absurd (omega (arith, long))
four_of (w ∷ []) a b c e long short p q r s = absurd (omega (arith, long))
four_of (w ∷ x ∷ []) a b c e long short p q r s = absurd (omega (arith, long))
four_of (w ∷ x ∷ y ∷ []) a b c e long short p q r s = absurd (omega (arith, long))
four_of (w ∷ x ∷ y ∷ z ∷ []) a b c e long short p q r s = cc
four_of (w ∷ x ∷ y ∷ z ∷ v ∷ more) a b c e long short p q r s = absurd (omega (arith, short))
