use Rattle.std.proofs.Common.{◌≡◌, ◌<◌, ◌∙◌, length, sym, ap, rules}
use Rattle.ckrt_look_heap.proofs.ListLemmas.{read_at}
use Rattle.ckrt_look_values.proofs.ListLemmas.{any_at, counted_none, counts_on, none_in_all, none_more}
use Rattle.ckrt_look_values.proofs.finding.count_again.Goals as goal

pub returns-then-is_at-clause-again : goal.returns-then-is_at-clause-again
returns-then-is_at-clause-again c =
    let ps = c.args.findings.now.items in let i = c.loop-place.place in let p = c.index.result.now in
    let items : c.loop-place.findings.items ≡ ps = ap (λ v. v.items) c.loop-place.invariant.0 in
    let less : i < length c.loop-place.findings.items = search rules in
    sym (any_at c.args.it.now ps i p (read_at c.loop-place.findings.items ps i p items c.index.ensures less) (sym c.is_at.ensures ∙ c.if-is_at.true))

pub returns-then-is_at-clause-rows : goal.returns-then-is_at-clause-rows
returns-then-is_at-clause-rows c =
    let xs = c.loop-place.findings.items in let ps = c.args.findings.now.items in let i = c.loop-place.place in
    let less : i < length xs = search rules in
    counts_on c.args.it.now xs ps i c.saturating_add.result c.index.result.now c.index-then-is_at.result.now c.index_mut.result.now
    (ap (λ v. v.items) c.loop-place.invariant.0) c.index.ensures c.index-then-is_at.ensures c.index_mut.ensures.value less c.loop-place.invariant.1
    (sym c.is_at.ensures ∙ c.if-is_at.true) c.saturating_add.ensures

pub loop-place-preserved : goal.loop-place-preserved
loop-place-preserved c =
    let ps = c.args.findings.now.items in let i = c.loop-place.place in let p = c.index.result.now in
    let items : c.loop-place.findings.items ≡ ps = ap (λ v. v.items) c.loop-place.invariant.0 in
    let less : i < length c.loop-place.findings.items = search rules in (
      c.loop-place.invariant.0,
      none_more c.args.it.now ps i p c.loop-place.invariant.1 (read_at c.loop-place.findings.items ps i p items c.index.ensures less) (sym c.is_at.ensures ∙ c.if-is_at.false),
    )

pub returns-clause-again : goal.returns-clause-again
returns-clause-again c = sym (none_in_all c.args.it.now c.args.findings.now.items c.loop-place.place (search rules) c.loop-place.invariant.1)

pub returns-clause-rows : goal.returns-clause-rows
returns-clause-rows c =
    let none = none_in_all c.args.it.now c.args.findings.now.items c.loop-place.place (search rules) c.loop-place.invariant.1 in
    ap (λ v. v.items) c.loop-place.invariant.0 ∙ sym (counted_none c.args.it.now c.args.findings.now.items none)
