use Rattle.std.proofs.Common.{◌∙◌, subst, sym}
use Rattle.std.proofs.lemmas.List.{append-nil}
use Rattle.std.specs.Io.KnownBytes.{Appends}
use Rattle.ckrt_hunt_schedules.specs.Table.{done_text}
use Rattle.ckrt_hunt_schedules.specs.Tallies.{hunted_of}
use Rattle.ckrt_hunt_looks.proofs.HuntLemmas.{only_outcomes}
use Rattle.ckrt_hunt_looks.proofs.telling.hunt_as_asked.Goals as goal

-- no closer look was asked for
pub returns-in-Ok-clause-hunted : goal.returns-in-Ok-clause-hunted
returns-in-Ok-clause-hunted g c = record {
  hunted = c.in-Ok.ensures.hunted;
  looked = only_outcomes c.args.asked.now.look (hunted_of c.args.image.now c.args.asked.now.shape c.args.input) c.in-Ok.done.seeds (sym c.is_closer.ensures ∙ c.if-is_closer.false);
}

pub returns-in-Ok-clause-told : goal.returns-in-Ok-clause-told
returns-in-Ok-clause-told g c =
    subst (λ l. Appends (g.W.Write.contents c.args.out.now) (g.W.Write.contents c.hunt_and_tell.new.out) l) (sym (append-nil (done_text c.args.asked.now c.in-Ok.done))) c.in-Ok.ensures.told
