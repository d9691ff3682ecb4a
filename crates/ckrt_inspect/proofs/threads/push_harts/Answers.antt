use Rattle.std.proofs.Common.{◌≡◌, ◌<◌, ◌++◌, ◌∙◌, take, length, ap, arith}
use Rattle.ckrt_tables.proofs.Rows.{at_place}
use Rattle.ckrt_inspect.specs.Listing.{hart_line, hart_lines_from}
use Rattle.ckrt_inspect.proofs.PushLemmas.{pushed_hart}
use Rattle.ckrt_inspect.proofs.threads.push_harts.Goals as goal

pub loop-hart-preserved : goal.loop-hart-preserved
loop-hart-preserved c =
    let hs = c.args.threads.now.harts in
    let h = c.loop-hart.hart in
    let within : c.loop-hart.hart < length c.args.threads.now.harts = omega (arith, c.known.ensures.harts, c.known.ensures.hart_count, c.loop-hart-test.true, c.hart_count-hart-end.ensures) in
    pushed_hart hs h c.args.out.now.items c.loop-hart.out.items c.push_hart.new.out.items within c.loop-hart.invariant
    (c.in_ok-push_hart.ensures ∙ ap (λ o. c.loop-hart.out.items ++ hart_line h o) (c.on_hart.ensures.on ∙ at_place hs h within))

pub returns : goal.returns
returns c =
    let all : c.loop-hart.hart ≡ c.args.threads.now.hart_count = omega (arith, c.loop-hart-test.false, c.hart_count-hart-end.ensures, c.loop-hart.auto) in
    c.loop-hart.invariant ∙ ap (λ n. c.args.out.now.items ++ hart_lines_from 0 (take n c.args.threads.now.harts)) all
