use Rattle.std.proofs.Common.{◌≡◌, ◌↔◌, ◌≤◌, ◌+◌, ℕ, length, take, drop}
use Rattle.ckrt_disk.proofs.file.read_all.Given as goal

abbrev pub invariant-loop-turn : goal.invariant-loop-turn
invariant-loop-turn g l = record {
  bound : l.done ≤ length l.buf;
  keeps_model : g.F.PositionedFile.keeps_model l.file → g.F.PositionedFile.keeps_model l.fn.file;
  is_reliable : g.F.PositionedFile.is_reliable l.file → g.F.PositionedFile.is_reliable l.fn.file;
  errors : g.F.PositionedFile.errors l.file ≡ g.F.PositionedFile.errors l.fn.file;
  interruptions : g.F.PositionedFile.interruptions l.fn.file ≤ g.F.PositionedFile.interruptions l.file;
  progress : g.F.PositionedFile.interruptions l.fn.file + l.turn ≤ g.F.PositionedFile.interruptions l.file + l.done;
  len : g.F.PositionedFile.len l.file ≡ g.F.PositionedFile.len l.fn.file;
  content : g.F.PositionedFile.keeps_model l.file → g.F.PositionedFile.content l.file ≡ g.F.PositionedFile.content l.fn.file;
  pending : g.F.PositionedFile.keeps_model l.file → (i : ℕ) → (g.F.PositionedFile.pending l.file i ↔ g.F.PositionedFile.pending l.fn.file i);
  bytes : g.F.PositionedFile.keeps_model l.file → take l.done l.buf ≡ take l.done (drop l.at (g.F.PositionedFile.content l.fn.file));
}
