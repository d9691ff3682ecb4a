use Rattle.std.proofs.Common.{ℕ, Option, Some, ap, ◌∙◌}
use Rattle.ckrt_main.proofs.many.run.Goals as goal

abbrev some : ℕ → Option ℕ
some k = Some k

pub returns : goal.returns
returns c =
    let f = c.in_ok-released.ensures in (
      c.serve.new.session,
      record {
        recovered = ap some c.acknowledged-recovered.ensures.value;
        released_from = c.confirmed-released_from.ensures.value;
        acknowledged = c.acknowledged-acknowledged.ensures.value;
        left = c.into_image.ensures ∙ ap (λ d. d.marked.bytes.items) c.into_disk.ensures;
        does = f.does;
        confirmed = f.confirmed;
        recovers = f.left;
        never = f.never;
      },
    )
