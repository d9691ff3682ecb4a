-- What is known of sources over their calls.
use Rattle.std.specs.Prelude.{◌≡◌, ℕ, List, Option}
use Rattle.ckrt_cli_files.specs.declared.output.OpenedOutput.{OpenedOutput}

-- What sources may give beside images and disks.
pub record Gives (D : Type 0) : Type 1 where
  -- the outputs of a path, with the lengths of their files
  pub Outputs : List ℕ → OpenedOutput D → Type 0
  -- the inputs of a path
  pub Inputs : List ℕ → D → Type 0
  -- what a disk may be once it is made that many bytes long
  pub Longer : D → ℕ → D → Type 0

-- they may give anything
abbrev pub anything : {D : Type 0} → Gives D
anything =
    record {
      Outputs = λ _ _. Unit {0};
      Inputs = λ _ _. Unit {0};
      Longer = λ _ _ _. Unit {0};
    }

-- they give no more than before
pub record GivesNoMore {D : Type 0} (before after : Gives D) : Type 0 where
  pub outputs : (path : List ℕ) (it : OpenedOutput D)
      → after.Outputs path it → before.Outputs path it
  pub inputs : (path : List ℕ) (it : D) → after.Inputs path it → before.Inputs path it
  pub longer : (disk : D) (size : ℕ) (it : D)
      → after.Longer disk size it → before.Longer disk size it

-- After a call an image has the bytes that it had before it, and no more disks, outputs and inputs may be given.
pub record GivesSame {D : Type 0} (bytes bytes' : List ℕ → Option (List ℕ))
    (Fills Fills' : List ℕ → ℕ → D → Type 0) (before after : Gives D) : Type 0 where
  pub images : (path : List ℕ) → bytes' path ≡ bytes path
  pub disks : (path : List ℕ) (size : ℕ) (disk : D) → Fills' path size disk → Fills path size disk
  pub others : GivesNoMore before after
