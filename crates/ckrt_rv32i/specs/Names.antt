-- The printed names of the causes of faults (this project's choice).
use Rattle.std.specs.Prelude.{ℕ, List, codes}
use Rattle.ckrt_rv32i.specs.declared.execution.Cause.{Cause}
use Rattle.ckrt_rv32i.specs.declared.execution.Cause.TheVariants as cause

abbrev pub cause_name : Cause → List ℕ
cause_name cause.FetchRange = codes "FetchRange"
cause_name cause.Illegal = codes "Illegal"
cause_name cause.JumpMisaligned = codes "JumpMisaligned"
cause_name cause.LoadMisaligned = codes "LoadMisaligned"
cause_name cause.LoadRange = codes "LoadRange"
cause_name cause.StoreMisaligned = codes "StoreMisaligned"
cause_name cause.StoreRange = codes "StoreRange"
cause_name cause.Breakpoint = codes "Breakpoint"
cause_name cause.Gate = codes "Gate"
