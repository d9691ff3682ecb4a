use Rattle.std.proofs.Common.{◌++◌, ◌<◌, ◌^◌, length, sym, ◌∙◌, arith}
use Rattle.std.proofs.lemmas.Bool.Decides.{nat_tests}
use Rattle.ckrt_tables.proofs.reading_queues.read_queue.Goals as goal

pub returns-then-count-limit-clause-found : goal.returns-then-count-limit-clause-found
returns-then-count-limit-clause-found c = λ xs rest few e.
    let small : length xs < 256 ^ 2 = omega (arith, few, c.requires) in
    let n = c.half.ensures (length xs) (xs ++ rest) (grind (arith, nat_tests, small)) e in
    absurd (omega (arith, few, n.0, c.from-count.ensures, c.if-count-limit.true))

pub returns-clause-found : goal.returns-clause-found
returns-clause-found c = λ xs rest few e.
    let small : length xs < 256 ^ 2 = omega (arith, few, c.requires) in
    let n = c.half.ensures (length xs) (xs ++ rest) (grind (arith, nat_tests, small)) e in
    c.bytes.ensures.found xs rest (sym (c.from-count.ensures ∙ n.0)) n.1
