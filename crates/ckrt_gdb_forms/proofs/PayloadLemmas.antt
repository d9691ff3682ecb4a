-- One piece of a payload behind another.
use Rattle.std.proofs.Common.{◌≡◌, ℕ, List, ◌++◌, append_assoc, ◌∙◌, ap, Result, Ok, Err}
use Rattle.std.specs.Prelude.{OnOk}
use Rattle.ckrt_gdb_forms.specs.declared.payload.Full.{Full}

pub done_behind : (r : Result (Unit {0}) Full) (old mid new a b : List ℕ) → mid ≡ old ++ a → OnOk r (new ≡ mid ++ b) → OnOk r (new ≡ old ++ (a ++ b))
done_behind (Ok x) old mid new a b e h = h ∙ ap (λ (front : List ℕ). front ++ b) e ∙ append_assoc old a b
done_behind (Err e) old mid new a b f h = h
