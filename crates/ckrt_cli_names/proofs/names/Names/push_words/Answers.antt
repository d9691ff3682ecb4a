use Rattle.std.proofs.Common.{◌∙◌, ◌++◌, ap₂}
use Rattle.std.proofs.lemmas.List.{take-append-drop}
use Rattle.ckrt_cli_names.proofs.PutLemmas.{marks_all, marks_left}
use Rattle.ckrt_cli_names.proofs.names.Names.push_words.Goals as goal

pub loop-preserved : goal.loop-preserved
loop-preserved c = λ is.
    let step = c.split_at in
    let parts = c.split_at-in-loop in
    marks_left c.loop.out.items c.push_step.new.out.items c.args.line.now c.loop.rest.now step.result.0.now parts.result.0.now parts.result.1.now step.result.1.now (c.in_ok-push_step.ensures is)
    (ap₂ ◌++◌ parts.ensures.front parts.ensures.back ∙ take-append-drop _ _) (ap₂ ◌++◌ step.ensures.front step.ensures.back ∙ take-append-drop _ _) (c.loop.invariant is)

pub returns : goal.returns
returns c = λ is. marks_all c.extend_from_slice.result c.loop.out.items c.extend_from_slice.new.self.items c.args.line.now c.loop.rest.now _ c.extend_from_slice.ensures.items (c.loop.invariant is)
