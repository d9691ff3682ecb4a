-- How a run of calls goes on.
use Rattle.std.proofs.Common.{inl, inr, ◌⊎◌, ⊎_elim, ℕ, List, ◌∷◌, length, arith}
use Rattle.ckrt_disk.specs.Disk.{Elapses, IsImage, LeavesOnly}
use Rattle.ckrt_disk.specs.History.{MayHaveLeft, Since}

module _ {D : Type 0} (moment : D → ℕ) (left_since : D → ℕ → List ℕ → Type 0) where
  -- before the first call
  pub started : (old : D) (P : List ℕ → Type 0) → LeavesOnly moment left_since old old P
  started old P = record { later = omega arith; each = λ t image le left. inl left }

  -- what P says, said as Q
  pub weaker : (old new : D) (P Q : List ℕ → Type 0) → LeavesOnly moment left_since old new P → ((image : List ℕ) → P image → Q image) → LeavesOnly moment left_since old new Q
  weaker old new P Q so f = record { later = so.later; each = λ t image le left. ⊎_elim (λ past. inl past) (λ p. inr (f image p)) (so.each t image le left) }

  -- one run after another
  pub goes_on : (old mid new : D) (P : List ℕ → Type 0) → LeavesOnly moment left_since old mid P → LeavesOnly moment left_since mid new P → LeavesOnly moment left_since old new P
  goes_on old mid new P first second = record {
    later = omega (arith, first.later, second.later);
    each = λ t image le left. ⊎_elim (λ past. first.each t image le past) (λ p. inr p) (second.each t image (omega (arith, le, first.later)) left);
  }

  -- a call of a disk
  pub over_call : (old new : D) (within P : List ℕ → Type 0) → Elapses (moment old) (moment new) (left_since old) (left_since new) within → ((image : List ℕ) → within image → P image) → LeavesOnly moment left_since old new P
  over_call old new within P call f = record { later = call.later; each = λ t image le left. ⊎_elim (λ past. inl past) (λ w. inr (f image w)) (call.nothing_else t image le left) }

-- a call before which the state was noted, and after which these are the bytes and what is pending
module _ {S : Type 0} (content : S → List ℕ) (pending : S → ℕ → Type 0) where
  pub noted : (old : S) (states : List S) (bytes : List ℕ) (marked : ℕ → Type 0) (within : List ℕ → Type 0) → ((image : List ℕ) → IsImage bytes marked image → within image)
      → Elapses (length states) (length (old ∷ states)) (Since content pending old states) (λ t image. IsImage bytes marked image ⊎ MayHaveLeft content pending t (old ∷ states) image) within
  noted old states bytes marked within is_within = record {
    later = omega arith;
    nothing_else = λ t image le left. ⊎_elim (λ now. inr (is_within image now)) (λ had. ⊎_elim (λ (was : _). inl (inl was.1)) (λ earlier. inl (inr earlier)) had) left;
    keeps = λ t image le past. ⊎_elim (λ now. inr (inl (le, now))) (λ had. inr (inr had)) past;
  }
