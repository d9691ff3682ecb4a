use Rattle.std.proofs.Common.{sym, subst, refl}
use Rattle.ckrt_stored.specs.Format.{IsFormatted}
use Rattle.ckrt_main.proofs.many.formatted_image.Goals as goal

-- nothing is pending on a disk that was formatted
pub returns-in-Ok-clause-formatted : goal.returns-in-Ok-clause-formatted
returns-in-Ok-clause-formatted c =
    subst (IsFormatted c.args.config c.args.image.now) (sym c.into_image.ensures)
    ((c.in-Ok.ensures.made tt).formatted c.format.new.disk.marked.bytes.items (record { size = refl; same = λ i out. refl }))
