-- A session over the run of some parts.
use Rattle.std.proofs.Common.{◌≡◌, inr, ℕ, Bool, Option, Result, subst}
use Rattle.std.specs.Option.{is_some}
use Rattle.ckrt_look_recording.specs.declared.parts.Parts.{Parts}
use Rattle.ckrt_gdb_stub.specs.Session.{BeginsAt, IsOutside}
use Rattle.ckrt_gdb_stub.specs.declared.stub.Stub.{Stub}
use Rattle.ckrt_gdb_playback.specs.Recorded.{Run, run_of}
use Rattle.ckrt_cli_reports.specs.declared.fault.JobFault.{JobFault}
use Rattle.ckrt_cli.specs.Debugging.{DebugsParts, Line, ServesStub, first_in, run_in}

module _ (at : Option ℕ) (p : Parts) (first : ℕ) (run : Run) (has_older : Bool) (first_is : first ≡ first_in p) (run_is : run ≡ run_in p) (older_is : has_older ≡ is_some p.older) where
  -- one that was served is the one that begins where the words ask
  pub served : (stub : Stub) (old new : Line) (result : Result (Unit {0}) JobFault) → (IsOutside at first (run_of run) → ⊥) → BeginsAt at first run stub → ServesStub stub has_older old new result
      → DebugsParts at p old new result
  served stub old new result there begins serves = inr (record {
    stub = stub;
    there = subst (λ (r : Run). IsOutside at (first_in p) (run_of r) → ⊥) run_is (subst (λ n. IsOutside at n (run_of run) → ⊥) first_is there);
    begins = subst (λ (r : Run). BeginsAt at (first_in p) r stub) run_is (subst (λ n. BeginsAt at n run stub) first_is begins);
    serves = subst (λ b. ServesStub stub b old new result) older_is serves;
  })
