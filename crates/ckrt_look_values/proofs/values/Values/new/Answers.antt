use Rattle.ckrt_look_values.specs.Values.{found_in}
use Rattle.ckrt_look_values.proofs.FreshLemmas.{begun}
use Rattle.ckrt_look_values.proofs.values.Values.new.Goals as goal

pub returns : goal.returns
returns c =
    begun c.args.words c.in_ok-known_values.field-0.items c.in_ok-known_values-2.field-0.items (found_in c.in_ok-new.field-0)
    c.in_ok-known_values.ensures c.in_ok-known_values-2.ensures c.in_ok-new.ensures
