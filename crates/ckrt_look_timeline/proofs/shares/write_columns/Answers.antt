use Rattle.std.proofs.Common.{◌≡◌, ◌∙◌, ◌+◌, ◌-◌, ◌++◌, ℕ, suc, List, drop, length, take, sym, ap, subst, arith}
use Rattle.std.specs.Prelude.{◌/◌}
use Rattle.std.specs.Io.KnownBytes.{Appends}
use Rattle.ckrt_look_timeline.specs.declared.piece.Activity.{Activity}
use Rattle.ckrt_look_timeline.specs.Shares.{column_text, columns_text, dense_text, rest_of}
use Rattle.ckrt_look_calls.proofs.AppendLemmas.{Completes, completes_all, completes_more}
use Rattle.ckrt_look_timeline.proofs.ShareLemmas.{counted_text, lengths, total_counted}
use Rattle.ckrt_look_timeline.proofs.shares.write_columns.Goals as goal

pub write_column-requires : goal.write_column-requires
write_column-requires g c = total_counted c.args.span (rest_of c.args.pieces.now c.loop-column.spot) c.next_column-next.result c.next_column-next.ensures.column

-- a column more
pub loop-column-preserved : goal.loop-column-preserved
loop-column-preserved g c =
    let has = g.W.Write.contents in
    let ps = c.args.pieces.now in
    let span = c.args.span in
    let t = c.args.thread in
    let x = c.loop-column.begin in
    let next = c.next_column-next.result in
    let so_far = c.loop-column.invariant in
    let done : List Activity = rest_of ps c.loop-column.spot in
    let behind : List Activity = rest_of ps c.next_column-next.new.spot in
    let rest : behind ≡ drop span done = c.next_column-next.ensures.rest in
    let steps : next.steps ≡ length (take span done) = c.next_column-next.ensures.column.steps in
    let many : ℕ = c.args.steps / span + 1 in
    let n : ℕ = many - (c.loop-column._column + 1) in
    let left : many - c.loop-column._column ≡ suc n = omega (arith, c.loop-column-test.true) in
    let a = has c.args.out.now in
    let b = has c.loop-column.out in
    let z = has c.write_column.new.out in
    let all : List ℕ = dense_text span c.args.steps t ps in
    let parts : columns_text (many - c.loop-column._column) span t x done ≡ column_text t x (take span done) ++ columns_text n span t (x + next.steps) behind =
    ap (λ j. columns_text j span t x done) left ∙ ap (λ j. column_text t x (take span done) ++ columns_text n span t (x + j) (drop span done)) (sym steps)
    ∙ ap (λ l. column_text t x (take span done) ++ columns_text n span t (x + next.steps) l) (sym rest) in
    let written : Appends b z (column_text t x (take span done)) =
    subst (λ (l : List ℕ). Appends b z l) (counted_text span done next c.next_column-next.ensures.column t x) c.in_ok-write_column.ensures in
    record {
      spot = c.next_column-next.ensures.spot;
      begin =
          (let both = lengths span done in let was = so_far.begin in let now : length behind ≡ length (drop span done) = ap (λ l. length l) rest in
          omega (arith, both, was, now, steps));
      text = completes_more a b z (column_text t x (take span done)) (columns_text n span t (x + next.steps) behind) all (subst (λ (l : List ℕ). Completes a b l all) parts so_far.text) written;
    }

pub returns : goal.returns
returns g c =
    let has = g.W.Write.contents in
    let ps = c.args.pieces.now in
    let span = c.args.span in
    let t = c.args.thread in
    let a = has c.args.out.now in
    let b = has c.loop-column.out in
    let all : List ℕ = dense_text span c.args.steps t ps in
    let none : c.args.steps / span + 1 - c.loop-column._column ≡ 0 = omega (arith, c.loop-column-test.false) in
    completes_all a b all (subst (λ j. Completes a b (columns_text j span t c.loop-column.begin (rest_of ps c.loop-column.spot)) all) none c.loop-column.invariant.text)
