-- The profile of recorded events, as it is written.
use Rattle.std.specs.Prelude.{◌≡◌, ℕ, List}
use Rattle.ckrt_events.specs.declared.event.Event.{Event}
use Rattle.ckrt_machine.specs.Steps.{State}
use Rattle.ckrt_look_profile.specs.Counts.{Counts, behind_all, nothing}
use Rattle.ckrt_look_profile.specs.declared.form.Form.{Form}
use Rattle.ckrt_look_profile.specs.Steps.{notes}
use Rattle.ckrt_look_profile.specs.Texts.{profile_text}

-- what is counted of these events
abbrev pub counted_of : List Event → State → Counts
counted_of es s = behind_all (notes es s) nothing

-- what is written of them in this form
abbrev pub text_of : Form → List Event → State → List ℕ
text_of f es s = profile_text f (counted_of es s)

-- this is that text, behind however many events
abbrev pub IsProfileText : Form → (k : ℕ) → List Event → State → List ℕ → Type 0
IsProfileText f k es s text = text ≡ text_of f es s
