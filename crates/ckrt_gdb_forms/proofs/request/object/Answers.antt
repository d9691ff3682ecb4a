use Rattle.std.proofs.Common.{◌≡◌, false, length, take, refl}
use Rattle.std.specs.Str.{bytes_eq}
use Rattle.ckrt_gdb_forms.specs.Requests.{description}
use Rattle.ckrt_gdb_forms.proofs.request.object.Goals as goal

pub returns-in-None : goal.returns-in-None
returns-in-None c = let no : bytes_eq (take (length description) c.args.args.now) description ≡ false = c.in-None.ensures.cases in rw no refl
