use Rattle.std.proofs.Common.{◌≡◌, drop}
use Rattle.std.specs.Prelude.{nat_le}
use Rattle.ckrt_look_timeline.specs.Pieces.{tracks_of}
use Rattle.ckrt_look_timeline.specs.Shares.{drawn_in}
use Rattle.ckrt_look_timeline.proofs.shares.are_few.Given as goal

abbrev pub invariant-loop-pieces : goal.invariant-loop-pieces
invariant-loop-pieces l = nat_le (drawn_in (tracks_of (drop l.pieces-index l.tracks))) l.left ≡ nat_le (drawn_in (tracks_of l.tracks)) 2000
