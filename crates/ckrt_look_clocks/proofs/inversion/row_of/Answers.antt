use Rattle.std.proofs.Common.{◌≡◌, ◌∙◌, add-one, ap, rules, sym}
use Rattle.ckrt_look_clocks.specs.Cycles.{are_at, latest, row_at, row_of}
use Rattle.ckrt_look_clocks.proofs.inversion.row_of.Goals as goal

-- one row more
pub loop-place-preserved : goal.loop-place-preserved
loop-place-preserved c =
    let rows = c.args.rows.now in let x = c.args.inversion.now in let n = c.loop-place.place in
    let here : c.is_at.result ≡ are_at x (row_at n rows) = search rules in
    c.latest-row.ensures ∙ ap (λ r. latest r n c.is_at.result) c.loop-place.invariant
    ∙ ap (λ b. latest (row_of n x rows) n b) here ∙ ap (λ k. row_of k x rows) (sym (add-one n))
