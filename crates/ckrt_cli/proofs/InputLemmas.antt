-- The input of a hunt: what was read of its file, by what sources gave before another call.
use Rattle.std.proofs.Common.{◌≡◌, ◌∙◌, ℕ, List, Option, Some, None, subst}
use Rattle.ckrt_cli_files.specs.Openings.{Openings}
use Rattle.ckrt_cli_reports.specs.declared.fault.JobFault.{JobFault}
use Rattle.ckrt_cli.specs.Inputs.{EndsOnAskedInput, EndsOnInput, IsAskedInput}

module _ (known later : List ℕ → Option (List ℕ)) (same : (path : List ℕ) → later path ≡ known path) where
  -- a file has the bytes that it had before
  pub input_before : (path input : Option (List ℕ)) → IsAskedInput later path input → IsAskedInput known path input
  input_before None None is = is
  input_before None (Some input) is = is
  input_before (Some path) None is = is
  input_before (Some path) (Some input) is = λ bytes told. is bytes (same path ∙ told)

  pub ends_before : {D : Type 0} (path : Option (List ℕ)) (old new : Openings D) (why : JobFault) → EndsOnAskedInput later path old new why → EndsOnAskedInput known path old new why
  ends_before None old new why ends = ends
  ends_before (Some path) old new why ends = subst (λ (k : Option (List ℕ)). EndsOnInput k path old new why) (same path) ends
