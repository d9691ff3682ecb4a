use Rattle.std.proofs.Common.{◌++◌, ◌∷◌, [], List, ℕ, sym, subst, ◌∙◌}
use Rattle.ckrt_main.specs.declared.life.LifeReport.{LifeReport}
use Rattle.ckrt_main.specs.LifePieces.{LivedSoFar, last_list}
use Rattle.ckrt_main.proofs.ManyLemmas.{so_far_push}
use Rattle.ckrt_main.proofs.many.live_on.Goals as goal

pub returns : goal.returns
returns c = λ p formatted before so_far.
    let report = c.in_ok-report.report in
    let push = so_far_push p formatted before c.args.reports.now.items c.args.image.items c.args.life.now report so_far (c.in_ok-report.ensures p (last_list [] so_far.lists) so_far.stands) in
    subst (λ (l : List ℕ). LivedSoFar p formatted (before ++ c.args.life.now ∷ []) c.push.new.self.items l) (sym (c.in_ok-left.ensures.items_if_clones_equal (λ x y e. e) ∙ c.deref.ensures.value))
    (subst (λ (l : List LifeReport). LivedSoFar p formatted (before ++ c.args.life.now ∷ []) l report.left.items) (sym c.in_ok-push.ensures.items) push)
