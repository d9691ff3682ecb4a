use Rattle.std.proofs.Common.{◌≡◌, drop, rules}
use Rattle.ckrt_cli_names.specs.Put.{contents_at_first}
use Rattle.ckrt_cli_names.proofs.PutLemmas.{shown_to}
use Rattle.ckrt_cli_names.proofs.named.NamedWriter.write_some.Goals as goal

pub invariant_of-self-2-clause-shown : goal.invariant_of-self-2-clause-shown
invariant_of-self-2-clause-shown g c =
    let s = c.args.self.now in
    let back : c.split_at.result.1.now ≡ drop s.written s.waiting.items = search rules in
    shown_to (contents_at_first g.W.Write.contents s.start.states) (g.W.Write.contents s.inner) (g.W.Write.contents c.write.new.self) s.waiting.items s.written c.in_ok-count.count c.split_at.result.1.now s.put.made s.shown back c.in_ok-count.ensures.bytes
