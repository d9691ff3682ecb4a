use Rattle.std.proofs.Common.{◌≡◌, ◌⊎◌, ◌↔◌, ◌≤◌, ◌<◌, ◌+◌, ℕ, length, take}
use Rattle.ckrt_disk.specs.Disk.{IsOverwritten, IsWithin}
use Rattle.ckrt_disk.proofs.file.write_all.Given as goal

abbrev pub invariant-loop-turn : goal.invariant-loop-turn
invariant-loop-turn g l = record {
  bound : l.done ≤ length l.bytes;
  keeps_model : g.F.PositionedFile.keeps_model l.file → g.F.PositionedFile.keeps_model l.fn.file;
  is_reliable : g.F.PositionedFile.is_reliable l.file → g.F.PositionedFile.is_reliable l.fn.file;
  errors : g.F.PositionedFile.errors l.file ≡ g.F.PositionedFile.errors l.fn.file;
  interruptions : g.F.PositionedFile.interruptions l.fn.file ≤ g.F.PositionedFile.interruptions l.file;
  progress : g.F.PositionedFile.interruptions l.fn.file + l.turn ≤ g.F.PositionedFile.interruptions l.file + l.done;
  len : g.F.PositionedFile.len l.file ≡ g.F.PositionedFile.len l.fn.file;
  started : 0 < l.done → 0 < l.turn;
  pending : g.F.PositionedFile.keeps_model l.file → (i : ℕ) → (g.F.PositionedFile.pending l.file i ↔ (g.F.PositionedFile.pending l.fn.file i ⊎ (IsWithin l.at (length l.bytes) i × (0 < l.turn))));
  written : g.F.PositionedFile.keeps_model l.file → l.at + length l.bytes ≤ g.F.PositionedFile.len l.fn.file → IsOverwritten (g.F.PositionedFile.content l.fn.file) l.at (take l.done l.bytes) (g.F.PositionedFile.content l.file);
}
