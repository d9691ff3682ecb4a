use Rattle.std.proofs.Common.{◌≡◌, ◌<◌, ◌∙◌, length, sym, ap, rules}
use Rattle.ckrt_hunt_looks.proofs.RowLemmas.{any_at, counted_none, counts_on, none_in_all, none_more, read_at}
use Rattle.ckrt_hunt_looks.proofs.row.count_again.Goals as goal

pub returns-then-is_at-clause-again : goal.returns-then-is_at-clause-again
returns-then-is_at-clause-again g c =
    let ps = c.args.rows.now.items in let i = c.loop-place.place in let p = c.index.result.now in
    let items : c.loop-place.rows.items ≡ ps = ap (λ v. v.items) c.loop-place.invariant.0 in
    let less : i < length c.loop-place.rows.items = search rules in
    sym (any_at g.F.Notable.kind c.args.found.now ps i p (read_at c.loop-place.rows.items ps i p items c.index.ensures less) (sym c.is_at.ensures ∙ c.if-is_at.true))

pub returns-then-is_at-clause-rows : goal.returns-then-is_at-clause-rows
returns-then-is_at-clause-rows g c =
    let xs = c.loop-place.rows.items in let ps = c.args.rows.now.items in let i = c.loop-place.place in
    let less : i < length xs = search rules in
    counts_on g.F.Notable.kind c.args.found.now xs ps i c.saturating_add.result c.index.result.now c.index-then-is_at.result.now c.index_mut.result.now
    (ap (λ v. v.items) c.loop-place.invariant.0) c.index.ensures c.index-then-is_at.ensures c.index_mut.ensures.value less c.loop-place.invariant.1
    (sym c.is_at.ensures ∙ c.if-is_at.true) c.saturating_add.ensures

pub loop-place-preserved : goal.loop-place-preserved
loop-place-preserved g c =
    let ps = c.args.rows.now.items in let i = c.loop-place.place in let p = c.index.result.now in
    let items : c.loop-place.rows.items ≡ ps = ap (λ v. v.items) c.loop-place.invariant.0 in
    let less : i < length c.loop-place.rows.items = search rules in (
      c.loop-place.invariant.0,
      none_more g.F.Notable.kind c.args.found.now ps i p c.loop-place.invariant.1 (read_at c.loop-place.rows.items ps i p items c.index.ensures less) (sym c.is_at.ensures ∙ c.if-is_at.false),
    )

pub returns-clause-again : goal.returns-clause-again
returns-clause-again g c = sym (none_in_all g.F.Notable.kind c.args.found.now c.args.rows.now.items c.loop-place.place (search rules) c.loop-place.invariant.1)

pub returns-clause-rows : goal.returns-clause-rows
returns-clause-rows g c =
    let none = none_in_all g.F.Notable.kind c.args.found.now c.args.rows.now.items c.loop-place.place (search rules) c.loop-place.invariant.1 in
    ap (λ v. v.items) c.loop-place.invariant.0 ∙ sym (counted_none g.F.Notable.kind c.args.found.now c.args.rows.now.items none)
