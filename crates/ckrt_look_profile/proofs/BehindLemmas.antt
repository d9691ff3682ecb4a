-- Notes one behind another, and pieces of lists.
use Rattle.std.proofs.Common.{◌≡◌, ℕ, ◌+◌, List, [], ◌∷◌, ◌++◌, refl, ap, ◌∙◌, add-one}
use Rattle.ckrt_machine.specs.Steps.{State}
use Rattle.ckrt_look_profile.specs.declared.counts.Note.{Note}
use Rattle.ckrt_look_profile.specs.Counts.{Counts, behind, behind_all}
use Rattle.ckrt_look_profile.specs.Steps.{met, met_up_to}

-- two pieces
pub behind_both : (xs ys : List Note) (c : Counts) → behind_all (xs ++ ys) c ≡ behind_all ys (behind_all xs c)
behind_both [] ys c = refl
behind_both (x ∷ xs) ys c = behind_both xs ys (behind x c)

-- one thread more is met
pub met_next : (t : ℕ) (s : State) (c : Counts) → behind_all (met_up_to (t + 1) s) c ≡ behind_all (met (t + 1) s) (behind_all (met_up_to t s) c)
met_next t s c = ap (λ n. behind_all (met_up_to n s) c) (add-one t) ∙ behind_both (met_up_to t s) (met (t + 1) s) c
