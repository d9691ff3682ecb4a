use Rattle.std.proofs.Common.{◌≡◌, ℕ, List, ◌++◌, replicate, drop, slice_index, subst, sym}
use Rattle.ckrt_stored.specs.Filling.{filled_byte, making_front}
use Rattle.ckrt_stored.proofs.FillLemmas.{front_and_zeros, zeros_behind}
use Rattle.ckrt_stored.proofs.filling.first_block.Goals as goal

pub returns-clause-bytes : goal.returns-clause-bytes
returns-clause-bytes c =
    subst (λ (front : List ℕ). (i : ℕ) → slice_index (front ++ drop 16 (replicate 4096 0)) i ≡ filled_byte i) (sym c.copy_from_slice.ensures.after)
    (front_and_zeros making_front (drop 16 (replicate 4096 0)) (zeros_behind 16 4096))
