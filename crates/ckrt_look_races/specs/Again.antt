-- The second look at a race: what is told of its two accesses, and of the memory that has their word.
use Rattle.std.specs.Prelude.{ℕ, ◌+◌, ◌-◌, ◌*◌, ◌%◌, ◌^◌, List, [], ◌++◌, Option, Some, None}
use Rattle.ckrt_look_calls.specs.declared.moment.Moment.{Moment}
use Rattle.ckrt_look_calls.specs.Moments.{made_text, taken_line}
use Rattle.ckrt_look_calls.specs.Replays.{IsBehind, Replay, state_at}
use Rattle.ckrt_look_clocks.specs.declared.operation.Access.{Access}
use Rattle.ckrt_look_clocks.specs.declared.operation.Block.{Block}
use Rattle.ckrt_look_clocks.specs.declared.pair.Pair.{Pair}
use Rattle.ckrt_look_races.specs.declared.again.Cursors.{Cursors}
use Rattle.ckrt_look_races.specs.Moments.{access_lines, moment_of}
use Rattle.ckrt_look_races.specs.Texts.{pair_line}

pub record AreBehind (r : Replay) (c : Cursors) : Type 0 where
  pub first : IsBehind r c.first
  pub second : IsBehind r c.second
  pub block : IsBehind r c.block

-- AN ACCESS, at a moment: the locks and callers of its thread
abbrev pub access_at : Moment → Replay → List ℕ
access_at m r = access_lines m r.rules (state_at m.place r)

abbrev pub access_text : Access → Replay → List ℕ
access_text a r = access_at (moment_of a.thread a.place) r

abbrev pub accesses_text : Pair → Replay → List ℕ
accesses_text p r = access_text p.first r ++ access_text p.second r

-- THE MEMORY that was given anew last, and has the word of both: without its first word, which is the heap's own. Who took it is told
-- by the callers of the thread that told of it.
abbrev pub taken_at : Block → Moment
taken_at m = moment_of m.thread m.place

abbrev pub size_of : Block → ℕ
size_of m = 4 * m.count - 4

abbrev pub begin_of : Block → ℕ
begin_of m = (m.first * 4 % 2 ^ 32 + 4) % 2 ^ 32

abbrev pub block_line : Block → List ℕ
block_line m = taken_line (begin_of m) (size_of m) (taken_at m)

abbrev pub memory_text : Option Block → Replay → List ℕ
memory_text None r = []
memory_text (Some m) r = block_line m ++ made_text (taken_at m) r

-- A RACE, with what is told of it
abbrev pub race_text : Replay → Pair → List ℕ
race_text r p = pair_line p ++ accesses_text p r ++ memory_text p.block r
