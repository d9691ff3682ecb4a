-- Notes, one behind another.
use Rattle.std.proofs.Common.{◌≡◌, List, [], ◌∷◌, ◌++◌, refl}
use Rattle.ckrt_look_heap.specs.declared.shadow.Note.{Note}
use Rattle.ckrt_look_heap.specs.Within.{Noted, noted_all, noted_one}

-- two pieces
pub behind_both : (xs ys : List Note) (s : Noted) → noted_all (xs ++ ys) s ≡ noted_all ys (noted_all xs s)
behind_both [] ys s = refl
behind_both (x ∷ xs) ys s = behind_both xs ys (noted_one x s)
