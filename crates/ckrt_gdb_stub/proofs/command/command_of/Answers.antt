use Rattle.std.proofs.Common.{◌≡◌, ℕ, Bool, true, false, List, Err, refl, sym, ap, ◌∙◌}
use Rattle.std.proofs.lemmas.Str.{IsUtf8-from_is_utf8, is_utf8-from_IsUtf8}
use Rattle.std.specs.Prelude.{Result, ◌==◌, length}
use Rattle.std.specs.Str.{IsUtf8, is_utf8}
use Rattle.ckrt_gdb_stub.specs.Commands.{command_in, command_of}
use Rattle.ckrt_gdb_stub.specs.declared.command.Command.{Command}
use Rattle.ckrt_gdb_stub.specs.declared.command.Misread.{Misread}
use Rattle.ckrt_gdb_stub.specs.declared.command.Misread.TheVariants.{Name}
use Rattle.ckrt_gdb_stub.proofs.command.command_of.Goals as goal

abbrev no_command : Result Command Misread
no_command = Err Name

-- a text that isn't UTF-8
no_text : (t : List ℕ) → (length t == 0) ≡ false → (IsUtf8 t → ⊥) → no_command ≡ command_of t
no_text t some never = by (is_utf8 t) refl
  where
    by : (b : Bool) → is_utf8 t ≡ b → no_command ≡ command_of t
    by true is = absurd (never (IsUtf8-from_is_utf8 t is))
    by false is = rw (some, is) refl

pub returns-in-Ok-clause-command : goal.returns-in-Ok-clause-command
returns-in-Ok-clause-command c =
    let text = c.in-Ok.ensures.cases in
    rw (sym c.is_empty.ensures ∙ c.if-is_empty.false, is_utf8-from_IsUtf8 c.args.text.now text.1) (c.command_in.ensures.command ∙ ap command_in text.0)

pub returns-in-Err-clause-command : goal.returns-in-Err-clause-command
returns-in-Err-clause-command c = no_text c.args.text.now (sym c.is_empty.ensures ∙ c.if-is_empty.false) c.in-Err.ensures.cases.0
