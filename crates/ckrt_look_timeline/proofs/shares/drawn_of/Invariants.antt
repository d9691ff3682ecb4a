use Rattle.std.proofs.Common.{◌≡◌, ◌≤◌, ◌+◌, drop}
use Rattle.ckrt_look_timeline.specs.Shares.{drawn_of}
use Rattle.ckrt_look_timeline.proofs.shares.drawn_of.Given as goal

abbrev pub invariant-loop-piece : goal.invariant-loop-piece
invariant-loop-piece l = record {
  drawn : l.drawn + drawn_of (drop l.piece-index l.pieces) ≡ drawn_of l.pieces;
  few : l.drawn ≤ l.piece-index;
}
