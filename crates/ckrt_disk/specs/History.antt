-- What a stop might have left at the moments that a disk has been through. A disk notes its state before each write and
-- sync; `content` and `pending` are those of a state.
use Rattle.std.specs.Prelude.{◌⊎◌, ◌≤◌, ℕ, List, [], ◌∷◌, length}
use mathlib.Core.Logic.{inl, inr}
use native.Mathlib.Omega.{arith}
use Rattle.ckrt_disk.specs.Disk.{IsImage}

module _ {S : Type 0} (content : S → List ℕ) (pending : S → ℕ → Type 0) where
  -- what a stop in this state may leave
  abbrev pub IsImageOf : S → List ℕ → Type 0
  IsImageOf state image = IsImage (content state) (pending state) image

  -- at one of the moments from t on; the newest state is the first
  abbrev pub MayHaveLeft : ℕ → List S → List ℕ → Type 0
  MayHaveLeft t [] image = ⊥
  MayHaveLeft t (s ∷ ss) image = ((t ≤ length ss) × IsImageOf s image) ⊎ MayHaveLeft t ss image

  -- at one of them, or now
  abbrev pub Since : S → List S → ℕ → List ℕ → Type 0
  Since now states t image = IsImageOf now image ⊎ MayHaveLeft t states image

  none_left : (t : ℕ) (ss : List S) (image : List ℕ) → length ss ≤ t → MayHaveLeft t ss image → ⊥
  none_left t [] image le had = had
  none_left t (s ∷ ss) image le (inl had) = let early : t ≤ length ss = had.0 in omega arith
  none_left t (s ∷ ss) image le (inr had) = none_left t ss image (omega arith) had

  pub only_now : (now : S) (ss : List S) (image : List ℕ) → Since now ss (length ss) image
      → IsImageOf now image
  only_now now ss image (inl is) = is
  only_now now ss image (inr had) = absurd (none_left (length ss) ss image (omega arith) had)
