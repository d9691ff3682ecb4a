use Rattle.std.proofs.Common.{◌≡◌, ◌+◌, take, get_or, true, false, if◌then◌else◌, Bool, sym, ap, ◌∙◌, slice_set, arith}
use Rattle.std.proofs.lemmas.List.{set-get_or}
use Rattle.ckrt_look_clocks.specs.Histories.{is_before}
use Rattle.ckrt_look_clocks.specs.Detection.{joined, later, nothing}
use Rattle.ckrt_look_clocks.proofs.ListLemmas.{joined_at, joined_more, joined_none}
use Rattle.ckrt_look_clocks.proofs.clock.join.Goals.{then-is_before, else-is_before}
use Rattle.ckrt_look_clocks.proofs.clock.join.Goals as goal

pub loop-thread-init : goal.loop-thread-init
loop-thread-init c = joined_none c.args.seen.now

pub loop-thread-preserved : goal.loop-thread-preserved
loop-thread-preserved c =
    let xs = c.args.seen.now in let ys = c.args.more.now in let i = c.loop-thread.thread in
    let now = c.loop-thread.seen in
    let so_far : now ≡ joined xs (take i ys) = c.loop-thread.invariant in
    let same : get_or now i nothing ≡ get_or xs i nothing = ap (λ l. get_or l i nothing) so_far ∙ joined_at xs ys i nothing in
    let more : slice_set now i (later (get_or now i nothing) (get_or ys i nothing)) ≡ joined xs (take (i + 1) ys) =
    ap (λ l. slice_set l i (later (get_or now i nothing) (get_or ys i nothing))) so_far
    ∙ ap (λ p. slice_set (joined xs (take i ys)) i (later p (get_or ys i nothing))) same
    ∙ joined_more xs ys i nothing (omega (arith, c.told-seen, c.loop-thread-test.true)) (omega (arith, c.told-more, c.loop-thread-test.true)) in
    let picked : (t : Bool) → is_before (get_or now i nothing) (get_or ys i nothing) ≡ t
    → slice_set now i (if t then get_or ys i nothing else get_or now i nothing) ≡ joined xs (take (i + 1) ys) =
    λ t e. sym (ap (λ (u : Bool). slice_set now i (if u then get_or ys i nothing else get_or now i nothing)) e) ∙ more in
    elim c.if-is_before.branch as (λ _. c.if-is_before.seen ≡ joined xs (take (i + 1) ys)) [
      | then-is_before w ↦ w.seen-is ∙ picked true (sym c.is_before.ensures ∙ w.if-is_before.true)
      | else-is_before w ↦ w.seen-is ∙ sym (set-get_or now i nothing) ∙ picked false (sym c.is_before.ensures ∙ w.if-is_before.false)
    ]
