use Rattle.std.proofs.Common.{rules, ◌≡◌, ◌≢◌, ◌+◌, ◌++◌, ◌∷◌, [], List, replicate, subst, sym, ap, ◌∙◌}
use Rattle.ckrt_look_timeline.specs.declared.piece.Activity.{Activity}
use Rattle.ckrt_look_timeline.specs.Pieces.{ArePieces}
use Rattle.std.proofs.lemmas.Result.{on_ok_weaker}
use Rattle.ckrt_look_timeline.proofs.PieceLemmas.{followed, grown, piece}
use Rattle.ckrt_look_timeline.proofs.piece.extend.Goals as goal

pub returns-then-eq : goal.returns-then-eq
returns-then-eq c =
    let old = c.args.pieces.now.items in
    let init = c.pop.new.self.items in
    let last = c.in-Some.last in
    let a = c.args.activity in
    let n = c.args.steps in
    let were : old ≡ init ++ last ∷ [] = c.in-Some.ensures.items in
    let same : last.activity ≡ a = search rules in
    let go : c.push-then-eq.new.pieces.items ≡ init ++ piece a (last.steps + n) ∷ [] → (track : List Activity) → ArePieces track old → ArePieces (track ++ replicate n a) c.push-then-eq.new.pieces.items =
    λ is track are. subst (ArePieces (track ++ replicate n a)) (sym is)
    (grown init a last.steps n track c.requires.some (subst (ArePieces track) (were ∙ ap (λ (b : Activity). init ++ piece b last.steps ∷ []) same) are)) in
    record { extended = on_ok_weaker c.push-then-eq.result go c.push-then-eq.ensures.pushed }

pub returns : goal.returns
returns c =
    let old = c.args.pieces.now.items in
    let init = c.pop.new.self.items in
    let last = c.in-Some.last in
    let a = c.args.activity in
    let n = c.args.steps in
    let were : old ≡ init ++ last ∷ [] = c.in-Some.ensures.items in
    let other : last.activity ≢ a = search rules in
    let back : c.push-2.new.pieces.items ≡ init ++ last ∷ [] = c.in_ok-push.ensures.pushed in
    let go : c.push-3.new.pieces.items ≡ c.push-2.new.pieces.items ++ piece a n ∷ [] → (track : List Activity) → ArePieces track old → ArePieces (track ++ replicate n a) c.push-3.new.pieces.items =
    λ is track are. subst (ArePieces (track ++ replicate n a)) (sym (is ∙ ap (λ l. l ++ piece a n ∷ []) back))
    (followed init last a n track other c.requires.some (subst (ArePieces track) were are)) in
    record { extended = on_ok_weaker c.push-3.result go c.push-3.ensures.pushed }
