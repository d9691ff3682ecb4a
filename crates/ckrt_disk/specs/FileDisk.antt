-- The disk that is a file.
use Rattle.std.specs.Prelude.{◌≡◌, Bool, true, List}
use Rattle.ckrt_disk.specs.FileErrors.{FailsWithFile}
use Rattle.ckrt_disk.specs.declared.file.FileDisk.{FileDisk}
use Rattle.ckrt_disk.specs.declared.positioned.PositionedFile.{Ghosts}

abbrev pub file_of : {F : Type 0} {g : Ghosts F} → FileDisk F g → F
file_of disk = disk.file

-- the file as it was when the disk was made, in a list
abbrev pub start_of : {F : Type 0} {g : Ghosts F} → FileDisk F g → List F
start_of disk = disk.start.states

-- a call of the disk fails exactly where a call of its file does, or where it is given up
pub record CallsFile {F : Type 0} {g : Ghosts F} (old new : FileDisk F g) (given_up : Type 0)
    (ok : Bool) : Type 0 where
  pub fails : FailsWithFile g (file_of old) (file_of new) given_up ok
  -- the file has as many bytes as it had
  pub len : g.len (file_of new) ≡ g.len (file_of old)
  -- over a reliable file of the disk's size it answers Ok
  pub reliable : g.is_reliable (file_of new) → g.len (file_of new) ≡ new.size → ok ≡ true
  pub start : start_of new ≡ start_of old
