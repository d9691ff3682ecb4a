use Rattle.std.proofs.Common.{◌∙◌, ◌∷◌, [], sym, ap, subst}
use Rattle.ckrt_disk.specs.contracts.memory.MemoryDiskDisk.TheImpl as memory
use Rattle.ckrt_stored.specs.Programs.{RecoversTo, RecoversToStart}
use Rattle.ckrt_witness.proofs.closed_alike.alike.Goals as goal

pub returns : goal.returns
returns g c =
    let p = c.formatted-image.ensures in
    let first = c.committed-before.ensures p.0 (subst (RecoversToStart p.0) (sym (c.memory_disk.ensures.content ∙ c.copied.ensures ∙ c.deref.ensures.value)) p.1) in
    let one = c.committed-one.ensures p.0 (subst (RecoversToStart p.0) (sym c.memory_disk-2.ensures.content) p.1) in
    let left = c.stopping_disk.ensures.content ∙ c.into_image-left.ensures ∙ ap memory.ghosts.content c.into_disk.ensures in
    let other = c.recovered-other.ensures tt p.0 (c.args.event.now ∷ []) _ (subst (RecoversTo p.0 (c.args.event.now ∷ []) c.committed-before.result.progress.confirmed) (sym left) first.1) in
    c.answer_alike.ensures c.if-not-answer_alike.false p.0 (c.args.event.now ∷ []) (λ none. absurd (cc)) one.0 other
