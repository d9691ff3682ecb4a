use Rattle.std.proofs.Common.{rules, ◌≡◌, ◌≤◌, ◌<◌, true, length, arith}
use Rattle.ckrt_witness.proofs.LivesLemmas.{four_of}
use Rattle.ckrt_witness.proofs.lives.report_four.Goals as goal

pub returns-then-releases : goal.returns-then-releases
returns-then-releases c = λ is.
    let xs = c.args.reports.now in
    let long : 4 ≤ length xs = omega (arith, c.in-len4.len_at_least) in
    let short : length xs < 5 = omega (arith, c.in-len4.len_below) in
    let recovered : c.have_recovered.result ≡ true = search rules in
    let released : c.releases.result ≡ true = search rules in
    record {
      cut = c.cut-item.result;
      early = c.early-item.result;
      one = c.one-item.result;
      other = c.other-item.result;
      all = four_of xs c.cut-item.result c.early-item.result c.one-item.result c.other-item.result long short c.cut-item.is c.early-item.is c.one-item.is c.other-item.is;
      recovered = c.have_recovered.ensures recovered;
      offset = c.args.offset;
      byte = _;
      released = c.releases.ensures released;
      again = _;
      released_again = c.releases-then-releases.ensures is;
    }
