use Rattle.std.proofs.Common.{◌≡◌, ◌<◌, ◌+◌, ◌++◌, ◌∷◌, [], List, length, take, arith, sym, subst, ap, ◌∙◌}
use Rattle.std.proofs.lemmas.List.{take_more, take_all}
use Rattle.std.proofs.lemmas.List.Elements.{All-get_or}
use Rattle.ckrt_stored.specs.Programs.{Program, formatted_program}
use Rattle.ckrt_main.specs.declared.life.Life.{Life}
use Rattle.ckrt_main.specs.Lives.{IsInRangeLife}
use Rattle.ckrt_main.specs.LifePieces.{LivedSoFar}
use Rattle.ckrt_main.proofs.ManyLemmas.{so_far_start, all_lived}
use Rattle.ckrt_main.proofs.ByteLemmas.{same_bytes}
use Rattle.ckrt_main.proofs.many.lives.Goals as goal

pub loop-life-init : goal.loop-life-init
loop-life-init c = (c.in_ok-left.left.items, c.in_ok-left.ensures.formatted.recovers, rw c.new-reports.ensures.items (so_far_start (formatted_program c.args.config c.args.image.now) c.in_ok-left.left.items c.in_ok-left.ensures.formatted.recovers))

pub loop-life-preserved : goal.loop-life-preserved
loop-life-preserved c =
    let p : Program = formatted_program c.args.config c.args.image.now in
    let i = c.loop-life.life-index in
    let x = c.life-item.result in
    let xs = c.args.list.now in
    let before = c.loop-life.invariant in
    let lt : c.loop-life.life-index < length c.args.list.now = c.loop-life-test.true in
    let on = c.in_ok-left-2.ensures p before.0 (take i xs) before.2 in
    let next : take (i + 1) xs ≡ take i xs ++ x ∷ [] = take_more xs i x lt ∙ ap (λ (l : Life). take i xs ++ l ∷ []) (sym c.life-item.is) in
    (before.0, before.1, subst (λ (l : List Life). LivedSoFar p before.0 l c.live_on.new.reports.items c.in_ok-left-2.left.items) (sym next) on)

pub live_on-requires : goal.live_on-requires
live_on-requires c =
    let x = c.life-item.result in
    let xs = c.args.list.now in
    let to = c.loop-life.invariant.2.stands.to in
    let lt : c.loop-life.life-index < length c.args.list.now = c.loop-life-test.true in
    record {
      in_range = subst IsInRangeLife (sym c.life-item.is) (All-get_or IsInRangeLife xs c.loop-life.life-index x lt c.requires);
      recovers = (to.recovered, to.recovers);
    }

pub returns-clause-lived : goal.returns-clause-lived
returns-clause-lived c =
    let h = c.loop-life.invariant in
    let all = take_all c.loop-life.life-index c.args.list.now (omega (arith, c.loop-life-test.false)) in
    all_lived (formatted_program c.args.config c.args.image.now) h.0 (take c.loop-life.life-index c.args.list.now) c.args.list.now c.loop-life.reports.items _ all h.1 h.2

pub returns-clause-same_bytes : goal.returns-clause-same_bytes
returns-clause-same_bytes c =
    let h = c.loop-life.invariant in
    same_bytes (formatted_program c.args.config c.args.image.now) h.0 (take c.loop-life.life-index c.args.list.now) c.loop-life.reports.items h.2.lists h.1 h.2.each
