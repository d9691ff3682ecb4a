use Rattle.std.proofs.Common.{◌≡◌, ◌≤◌, ◌+◌, ◌∙◌, true, false, take, drop, List, ℕ, sym, ap, arith, rules}
use Rattle.std.proofs.lemmas.Bool.Decides.{nat_tests}
use Rattle.ckrt_cli_files.specs.Leftovers.{is_zero}
use Rattle.ckrt_cli_files.proofs.LeftoverLemmas.{zeros_by, zeros_stop}
use Rattle.ckrt_cli_files.proofs.leftover.is_blank.Goals as goal

pub returns-then-not-branch-clause-exact : goal.returns-then-not-branch-clause-exact
returns-then-not-branch-clause-exact g c = λ honest.
    let d = g.D.Disk in
    let at = c.loop-at.at in let count = c.min-count.result in let bytes = d.content c.args.disk.now in
    let went = c.in_ok-has_zeros.ensures in
    let before = went.read.same.honest honest in
    let same = c.loop-at.invariant.read.content before in
    let inside : at + count ≤ c.args.size = grind (arith, nat_tests, c.min-count.ensures, c.min-end.ensures, c.loop-at-test.true) in
    let stops : c.in_ok-has_zeros.field-0 ≡ false = search rules in
    sym (zeros_stop at count c.args.size bytes inside (c.loop-at.invariant.blank before)
    (ap (λ (l : List ℕ). is_zero (take count (drop at l))) (sym same) ∙ sym (went.exact honest) ∙ stops))

pub loop-at-preserved : goal.loop-at-preserved
loop-at-preserved g c =
    let d = g.D.Disk in
    let at = c.loop-at.at in let count = c.min-count.result in let bytes = d.content c.args.disk.now in
    let went = c.in_ok-has_zeros.ensures in
    let goes : c.in_ok-has_zeros.field-0 ≡ true = search rules in
    record {
      begun = grind (arith, nat_tests, c.min-count.ensures, c.loop-at-test.true);
      fits = omega (arith, c.loop-at.invariant.fits, went.read.same.size);
      read = search rules;
      blank = λ honest.
          let before = went.read.same.honest honest in
          let same = c.loop-at.invariant.read.content before in
          zeros_by at count bytes true (c.loop-at.invariant.blank before)
          (ap (λ (l : List ℕ). is_zero (take count (drop at l))) (sym same) ∙ sym (went.exact honest) ∙ goes);
    }
