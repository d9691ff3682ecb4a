use Rattle.std.proofs.Common.{rules, ◌≡◌, ◌≤◌, ◌<◌, true, length, arith}
use Rattle.std.specs.Prelude.{IsTrue}
use Rattle.ckrt_witness.proofs.LivesLemmas.{four_of}
use Rattle.ckrt_witness.proofs.lives.are_four.Goals as goal

pub returns : goal.returns
returns c = λ is.
    let xs = c.args.list.now in
    let long : 4 ≤ length xs = omega (arith, c.in-len4.len_at_least) in
    let short : length xs < 5 = omega (arith, c.in-len4.len_below) in
    let in_range : IsTrue c.are_in_range.result = search rules in
    record {
      cut = c.cut-item.result;
      early = c.early-item.result;
      one = c.one-item.result;
      other = c.other-item.result;
      all = four_of xs c.cut-item.result c.early-item.result c.one-item.result c.other-item.result long short c.cut-item.is c.early-item.is c.one-item.is c.other-item.is;
      in_range = c.are_in_range.ensures in_range;
      stops = c.are_stopped.ensures is;
    }
