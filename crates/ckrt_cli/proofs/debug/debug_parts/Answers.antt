use Rattle.ckrt_cli.proofs.ServedLemmas.{served}
use Rattle.ckrt_cli.proofs.debug.debug_parts.Goals as goal

pub returns-in-Ok-new : goal.returns-in-Ok-new
returns-in-Ok-new g c = record {
  debugs = served c.args.at c.args.parts c.in-Ok.first c.in-Ok.recorded c.is_some-has_older.result c.in-Ok.ensures.first c.in-Ok.ensures.run c.is_some-has_older.ensures
      c.in-Ok-new.stub _ _ _ c.in-Ok-new.ensures.within c.in-Ok-new.ensures.begun c.serve.ensures.serves;
}
