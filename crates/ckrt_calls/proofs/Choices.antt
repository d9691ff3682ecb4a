-- What holds either way of a choice holds of the choice.
use Rattle.std.proofs.Common.{◌≡◌, Bool, true, false, cond, refl}

pub choice : {A : Type 0} (P : A → Type 0) (b : Bool) (x y : A) → P x → P y → P (cond b x y)
choice P true x y p q = p
choice P false x y p q = q

-- the same, where the second needs that the test fails
pub choice_else : {A : Type 0} (P : A → Type 0) (b : Bool) (x y : A) → P x → (b ≡ false → P y) → P (cond b x y)
choice_else P true x y p q = p
choice_else P false x y p q = q refl
