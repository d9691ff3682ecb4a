-- What the system's files were asked for, and the folder of a path.
use Rattle.std.specs.Prelude.{ℕ, List, [], ◌∷◌, codes, map, Option, Some, None}
use Rattle.std.specs.Path.{path_parent}
use Rattle.ckrt_disk.specs.declared.file_use.FileUse.{FileUse}
use Rattle.ckrt_cli_files.specs.Openings.{Openings, kept_opening}
use Rattle.ckrt_cli_files.specs.declared.system.SystemSources.{SystemSources}

abbrev pub openings_of : {R D : Type 0} → SystemSources R D → Openings D
openings_of s = record {
  image = map kept_opening s.image.states;
  disk = map kept_opening s.disk.states;
  output = map kept_opening s.output.states;
  input = map kept_opening s.input.states;
  history = map kept_opening s.history.states;
  making = map kept_opening s.making.states;
  naming = map kept_opening s.naming.states;
  named = s.named.states;
  closed = s.closed.states;
  closed_output = s.closed_output.states;
  closed_input = s.closed_input.states;
  closed_history = s.closed_history.states;
  lengthened = s.lengthened.states;
  abandoned = s.abandoned.states;
}

-- all files that were opened, here and in runs before, each as what and of which path
abbrev pub opened_by : {R D : Type 0} → SystemSources R D → List (FileUse × List ℕ)
opened_by s = s.opened.made

-- the folder that stands before a name, or the one that the program is in where none does
abbrev pub named_folder : Option (List ℕ) → List ℕ
named_folder None = codes "."
named_folder (Some []) = codes "."
named_folder (Some (x ∷ xs)) = x ∷ xs

-- the folder of a path (POSIX.1-2017, "Pathname Resolution": a path without a slash is resolved from the current directory)
abbrev pub folder_of : List ℕ → List ℕ
folder_of path = named_folder (path_parent path)
