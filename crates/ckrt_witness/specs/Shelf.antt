-- Disks in memory as the sources of a run.
use Rattle.std.specs.Prelude.{◌≡◌, ◌≢◌, ◌⊎◌, ℕ, List, [], ◌∷◌, map, Option, Some, None, option_map}
use Rattle.ckrt_disk.specs.declared.disk.Disk.{Ghosts}
use Rattle.ckrt_disk.specs.declared.stopping.StoppingDisk.{StoppingDisk}
use Rattle.ckrt_drive.specs.declared.stream.StreamOutput.{StreamOutput}
use Rattle.ckrt_cli.specs.Performing.{Reach}
use Rattle.ckrt_cli_files.specs.Openings.{Opening, Openings, opened, refused}
use Rattle.ckrt_cli_files.specs.Sources.{Gives}
use Rattle.ckrt_witness.specs.declared.shelf.Noted.{Noted}
use Rattle.ckrt_witness.specs.declared.shelf.Noted.TheVariants as noted
use Rattle.ckrt_witness.specs.declared.shelf.Shelf.{Shelf}

-- an opening that was noted
abbrev pub opening : Noted → Opening
opening (noted.Opened path) = opened path.now
opening (noted.Refused path why) = refused path.now why

-- what was given back last, before all else
abbrev pub with_last : {D : Type 0} → Option D → List D → List D
with_last None more = more
with_last (Some last) more = last ∷ more

abbrev pub openings_of : Shelf → Openings StoppingDisk
openings_of s = record {
  image = map opening s.image.states;
  disk = map opening s.disks.states;
  output = map opening s.outputs.states;
  history = map opening s.histories.states;
  input = map opening s.inputs.states;
  making = map opening s.making.states;
  naming = map opening s.naming.states;
  named = s.named.states;
  closed = with_last s.closed s.closed_before.states;
  closed_output = with_last s.closed_output s.closed_output_before.states;
  closed_history = with_last s.closed_history s.closed_history_before.states;
  closed_input = s.closed_input.states;
  lengthened = s.lengthened.states;
  abandoned = s.abandoned.states;
}

-- the path of the history, if there is one
abbrev pub named_by : Shelf → Option (List ℕ)
named_by s = option_map (λ path. path.now) s.path

-- that one stands for the file of the history, and any other for the output
abbrev pub StandsFor : Shelf → (path : List ℕ) → StoppingDisk → Type 0
StandsFor s path disk =
    ((named_by s ≡ Some path) × (s.history ≡ Some disk))
    ⊎ ((named_by s ≢ Some path) × (s.output ≡ Some disk))

-- output, history and input are given while they are there, and no disk is made longer
abbrev pub gives_of : Shelf → Gives StoppingDisk
gives_of s = record {
  Outputs = λ path it. StandsFor s path it.output;
  Inputs = λ _ it. s.input ≡ Some it;
  Longer = λ _ _ _. ⊥;
}

-- the bytes of the image, if there is one
abbrev pub image_of : Shelf → Option (List ℕ)
image_of s = option_map (λ bytes. bytes.now) s.guest

-- what a run over them can reach
abbrev pub reach_of : {W : Type 0} {d : Ghosts StoppingDisk} → Ghosts (StreamOutput W)
    → (W → Option (List ℕ)) → Shelf → Reach d W
reach_of stream contents s = record {
  stream = stream;
  contents = contents;
  images = λ _. image_of s;
  Opens = λ _ disk. s.disk ≡ Some disk;
  Fills = λ _ _ disk. s.filled ≡ Some disk;
  others = gives_of s;
  rules = [];
}
