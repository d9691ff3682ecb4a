-- What the commands of a life get while no device fails: as the lines that ask for them.
use Rattle.std.specs.Prelude.{List, [], ◌∷◌, None, Ok}
use Rattle.ckrt_events.specs.declared.command.Command.{Command}
use Rattle.ckrt_recovery.specs.View.{View}
use Rattle.ckrt_main.specs.Transcript.{Fate, Transcript, written, followed_by, output, respond}

-- what the commands get, up to a quit
abbrev pub respond_to : List Command → Fate → View → Transcript
respond_to [] f v = written [] f v
respond_to (command ∷ more) f v = followed_by (respond (Ok command) f v) (respond_to more)

-- the output that is released already first, and then what the commands get, where no device fails
abbrev pub commands_of_life : List Command → View → Transcript
commands_of_life commands v = followed_by (output None v) (respond_to commands)
