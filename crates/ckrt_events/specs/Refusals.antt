-- What a line of a session is told that is refused (this project's choice).
use Rattle.std.specs.Prelude.{ℕ, List, ◌++◌, codes}
use Rattle.ckrt_events.specs.declared.command.LineFault.{LineFault}
use Rattle.ckrt_events.specs.declared.command.LineFault.TheVariants.{Unknown, Number, Hex, Range, TooLong}

-- code and name of the fault of a line
abbrev pub line_fault_text : LineFault → List ℕ
line_fault_text Unknown = codes "31 Unknown"
line_fault_text Number = codes "32 Number"
line_fault_text Hex = codes "33 Hex"
line_fault_text Range = codes "34 Range"
line_fault_text TooLong = codes "35 TooLong"

-- the line of a refusal, by its code and name
abbrev pub no_line : List ℕ → List ℕ
no_line text = codes "no " ++ text ++ codes "\n"
