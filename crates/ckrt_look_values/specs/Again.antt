-- The second look at a use: what is told of who made it, and of who was given the memory.
use Rattle.std.specs.Prelude.{List, ℕ, ◌++◌}
use Rattle.ckrt_look_calls.specs.Replays.{IsBehind, Replay}
use Rattle.ckrt_look_calls.specs.Moments.{made_text}
use Rattle.ckrt_look_heap.specs.Again.{back_text}
use Rattle.ckrt_look_values.specs.Texts.{finding_line, from_text}
use Rattle.ckrt_look_values.specs.Values.{moment_of}
use Rattle.ckrt_look_values.specs.declared.again.Cursors.{Cursors}
use Rattle.ckrt_look_values.specs.declared.finding.Finding.{Finding}
use Rattle.ckrt_look_values.specs.declared.value.Value.{Value}

-- machines have made so many events
pub record AreBehind (r : Replay) (c : Cursors) : Type 0 where
  pub made : IsBehind r c.made
  pub given : IsBehind r c.given

-- whose memory it was, with the callers of who was given it
abbrev pub given_text : Replay → Value → List ℕ
given_text r v = back_text (from_text v.is_block) (moment_of v) r

abbrev pub beneath_text : Replay → Finding → List ℕ
beneath_text r f = made_text f.first.moment r ++ given_text r f.first.value

abbrev pub finding_text : Replay → Finding → List ℕ
finding_text r f = finding_line f ++ beneath_text r f
