use Rattle.std.proofs.Common.{rules, ◌∙◌, ap}
use Rattle.ckrt_look_profile.specs.declared.functions.Function.{Function}
use Rattle.std.specs.Prelude.{slice_set}
use Rattle.ckrt_look_profile.proofs.ListLemmas.{joined_there}
use Rattle.ckrt_look_profile.proofs.functions.join_stack.Goals as goal

-- it joins the one at its place
pub returns-then-place-len : goal.returns-then-place-len
returns-then-place-len c =
    let fs = c.args.functions.now.items in
    let place = c.function_place-place.result in
    ap (λ (f : Function). slice_set fs place f) c.joined.ensures ∙ joined_there c.args.row.now fs place c.index.result.now (search rules) (search rules) (search rules)
