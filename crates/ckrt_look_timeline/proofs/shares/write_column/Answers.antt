use Rattle.std.proofs.Common.{◌≡◌, ◌≤◌, ◌∙◌, ◌==◌, Bool, false, List, [], if◌then◌else◌, get_or, sym, ap, subst, arith}
use Rattle.std.proofs.lemmas.Bool.Decides.{nat_tests}
use Rattle.std.proofs.lemmas.Result.{on_ok_weaker}
use Rattle.std.specs.Io.KnownBytes.{Appends}
use Rattle.ckrt_look_timeline.specs.declared.shares.Share.{Share}
use Rattle.ckrt_look_timeline.specs.Shares.{by_kind, counted_column, filled_text, total}
use Rattle.ckrt_look_timeline.proofs.shares.write_column.Goals as goal

pub write_filled-requires : goal.write_filled-requires
write_filled-requires g c = subst (λ (l : List Share). total l ≤ c.args.column.now.steps) (sym c.shares_of.ensures) c.requires

pub returns : goal.returns
returns g c =
    let a = g.W.Write.contents c.args.out.now in
    let z = g.W.Write.contents c.write_filled.new.out in
    let t = c.args.thread in
    let x = c.args.begin in
    let column = c.args.column.now in
    let other : (get_or column.shares 10 0 == column.steps) ≡ false = grind (arith, nat_tests, c.if-column.false) in
    let text : filled_text t x column.steps c.shares_of.result ≡ counted_column t x column =
    ap (λ (l : List Share). filled_text t x column.steps l) c.shares_of.ensures
    ∙ ap (λ (b : Bool). if b then [] else filled_text t x column.steps (by_kind (λ k. get_or column.shares k 0))) (sym other) in
    on_ok_weaker c.write_filled.result (λ written. subst (Appends a z) text written) c.write_filled.ensures
