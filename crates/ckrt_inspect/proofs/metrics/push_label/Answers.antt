use Rattle.std.proofs.Common.{◌++◌, ◌∙◌, ap, codes, decimal}
use Rattle.std.proofs.lemmas.Result.{on_ok_weaker}
use Rattle.ckrt_inspect.specs.declared.metrics.Metric.TheVariants.{Threads}
use Rattle.ckrt_inspect.specs.Metrics.{name_of}
use Rattle.ckrt_inspect.proofs.PushLemmas.{pushed_four}
use Rattle.ckrt_inspect.proofs.metrics.push_label.Goals as goal

pub returns : goal.returns
returns c =
    on_ok_weaker c.push-3.result
    (pushed_four c.args.out.now.items c.push.new.out.items c.push-2.new.out.items c.push_number.new.out.items c.push-3.new.out.items
    (name_of Threads) (codes "{thread=\"") (decimal c.args.id) (codes "\",does=\"")
    (c.in_ok-push.ensures ∙ ap (λ t. c.args.out.now.items ++ t) c.name_of.ensures) c.in_ok-push-2.ensures
    (c.in_ok-push_number.ensures ∙ ap (λ n. c.push-2.new.out.items ++ decimal n) c.from.ensures))
    c.push-3.ensures
