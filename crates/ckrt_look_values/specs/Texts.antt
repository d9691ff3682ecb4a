-- What was found, as text (this project's own format): a line for each place, which begins as a line of a call does.
use Rattle.std.specs.Prelude.{ℕ, Bool, true, false, List, ◌++◌, codes, decimal}
use Rattle.ckrt_inspect.specs.Texts.{hex_text}
use Rattle.ckrt_look_calls.specs.Rows.{times_text}
use Rattle.ckrt_look_values.specs.declared.finding.Finding.{Finding}
use Rattle.ckrt_look_values.specs.declared.value.Deed.{Deed}
use Rattle.ckrt_look_values.specs.declared.value.Deed.TheVariants as deed
use Rattle.ckrt_look_values.specs.declared.value.Use.{Use}

abbrev pub verb : Deed → List ℕ
verb deed.Branch = codes " branches pc "
verb deed.Load = codes " loads pc "
verb deed.Store = codes " stores pc "
verb deed.Jump = codes " jumps pc "
verb deed.Call = codes " calls pc "

-- `K+S thread T`
abbrev pub place_text : Use → List ℕ
place_text u =
    decimal u.moment.place.event ++ codes "+" ++ decimal u.moment.place.step ++ codes " thread "
    ++ decimal u.moment.thread

-- ` branches pc PC`
abbrev pub done_text : Use → List ℕ
done_text u = verb u.deed ++ hex_text u.pc

abbrev pub reason_text : List ℕ
reason_text = codes " by a value that was never stored, "

-- ` branches pc PC by a value that was never stored, `
abbrev pub what_text : Use → List ℕ
what_text u = done_text u ++ reason_text

abbrev pub use_text : Use → List ℕ
use_text u = place_text u ++ what_text u

abbrev pub finding_line : Finding → List ℕ
finding_line f = (use_text f.first ++ times_text f.count) ++ codes "\n"

-- whose memory it was
abbrev pub from_text : (is_block : Bool) → List ℕ
from_text true = codes "    in a block that was taken at "
from_text false = codes "    in a frame that was made at "
