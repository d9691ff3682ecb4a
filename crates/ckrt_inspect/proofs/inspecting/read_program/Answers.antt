use Rattle.std.proofs.Common.{◌≡◌, ℕ, Option, None, Some, sym, subst}
use Rattle.ckrt_inspect.specs.Inspect.{AgreesAt}
use Rattle.ckrt_inspect.proofs.inspecting.read_program.Goals as goal

pub returns-in-Some-clause-exact : goal.returns-in-Some-clause-exact
returns-in-Some-clause-exact g c = λ honest.
    let is : c.args.at ≡ Some c.in-Some.count = c.in-Some.is in
    subst (λ (o : Option ℕ). AgreesAt o (g.D.Disk.content c.args.disk.now) c.read_at.result) (sym is) (c.read_at.ensures.exact honest)

pub returns-in-None-clause-exact : goal.returns-in-None-clause-exact
returns-in-None-clause-exact g c = λ honest.
    let is : c.args.at ≡ None = c.in-None.is in
    subst (λ (o : Option ℕ). AgreesAt o (g.D.Disk.content c.args.disk.now) c.read_whole.result) (sym is) (c.read_whole.ensures.exact honest)
