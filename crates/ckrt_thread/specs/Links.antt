-- Lists of numbers from 1 to 64 that are kept by links from entry to entry.
use Rattle.std.specs.Prelude.{◌≡◌, ℕ, zero, suc, ◌==◌, nat_eq, ◌<◌, ◌≤◌, true, false, if◌then◌else◌, List, [], ◌∷◌, length, slice_index}
use Rattle.std.specs.List.{list_any}
use Rattle.ckrt_thread.specs.declared.links.Links.{Links}
use Rattle.ckrt_thread.specs.declared.links.Ends.{Ends}

abbrev pub first_of : List ℕ → ℕ
first_of [] = 0
first_of (x ∷ xs) = x

-- the list when t has been taken out
abbrev pub dropped : ℕ → List ℕ → List ℕ
dropped t [] = []
dropped t (x ∷ xs) = if nat_eq t x then xs else x ∷ dropped t xs

-- what stands at the links from t on
abbrev pub walk : ℕ → List ℕ → ℕ → List ℕ
walk zero next t = []
walk (suc n) next t = if t == 0 then [] else t ∷ walk n next (slice_index next t)

-- what stands in a chain, by its links
abbrev pub row : Links → Ends → List ℕ
row links ends = walk (length links.next) links.next ends.first

-- The links lead from f through the list and then to 0. No number stands in it twice.
abbrev pub IsPath : List ℕ → ℕ → List ℕ → Type 0
IsPath next f [] = f ≡ 0
IsPath next f (x ∷ xs) =
    (f ≡ x) × (0 < x) × (x ≤ 64) × (list_any (nat_eq x) xs ≡ false)
    × IsPath next (slice_index next x) xs

-- The links back lead from each to the one before it, the first one's to p. The last one is l.
abbrev pub IsBack : List ℕ → ℕ → List ℕ → ℕ → Type 0
IsBack previous p [] l = p ≡ l
IsBack previous p (x ∷ xs) l = (slice_index previous x ≡ p) × IsBack previous x xs l

pub record IsChain (links : Links) (ends : Ends) (xs : List ℕ) : Type 0 where
  pub next_size : length links.next ≡ 65
  pub previous_size : length links.previous ≡ 65
  pub forth : IsPath links.next ends.first xs
  pub back : IsBack links.previous 0 xs ends.last
  pub count : ends.count ≡ length xs

-- no number is in both lists
abbrev pub AreApart : List ℕ → List ℕ → Type 0
AreApart xs ys = (x : ℕ) → list_any (nat_eq x) xs ≡ true → list_any (nat_eq x) ys ≡ false

-- each chain that has none of the numbers xs is the same with both links
abbrev pub KeepsOthers : List ℕ → Links → Links → Type 0
KeepsOthers xs old new =
    (ends : Ends) (ys : List ℕ) → AreApart xs ys → IsChain old ends ys → IsChain new ends ys
