-- Parts of bytes, as far as there are any.
use Rattle.std.proofs.Common.{ℕ, List, ◌≡◌, ◌∙◌, ap, drop, length, min, take}
use Rattle.std.proofs.lemmas.List.{drop_min, take_min}

pub first_of : (count n : ℕ) (xs part : List ℕ) → n ≡ min count (length xs) → part ≡ take n xs → part ≡ take count xs
first_of count n xs part is front = front ∙ (ap (λ (m : ℕ). take m xs) is ∙ take_min count xs)

pub rest_of : (count n : ℕ) (xs part : List ℕ) → n ≡ min count (length xs) → part ≡ drop n xs → part ≡ drop count xs
rest_of count n xs part is back = back ∙ (ap (λ (m : ℕ). drop m xs) is ∙ drop_min count xs)
