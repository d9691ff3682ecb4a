-- What is known at the begin.
use Rattle.std.proofs.Common.{◌≡◌, ◌∙◌, ℕ, List, None, replicate, ap}
use Rattle.ckrt_look_values.specs.declared.value.Value.{Value}
use Rattle.ckrt_look_values.specs.declared.values.TheConstants.{REGISTERS}
use Rattle.ckrt_look_values.specs.Values.{Found, Shadow, fresh, known, no_findings}

abbrev with_parts : List Value → List Value → Found → Shadow
with_parts w r f = record { words = w; registers = r; giving = None; found = f }

-- by its parts
pub begun : (n : ℕ) (w r : List Value) (f : Found) → w ≡ replicate n known → r ≡ replicate REGISTERS known → f ≡ no_findings
    → record { words = w; registers = r; giving = None; found = f } ≡ fresh n
begun n w r f words registers found =
    ap (λ l. with_parts l r f) words ∙ ap (λ l. with_parts (replicate n known) l f) registers
    ∙ ap (λ x. with_parts (replicate n known) (replicate REGISTERS known) x) found
