use Rattle.std.proofs.Common.{arith}
use Rattle.ckrt_thread.proofs.Paths.{chain_short, last_fits, chain_one, chain_more, others_one, others_more}
use Rattle.ckrt_thread.proofs.links.link.Goals as goal

pub overflow_add-ends : goal.overflow_add-ends
overflow_add-ends g c = (let s = chain_short c.args.links.now c.args.ends.now g.xs c.requires.1.1 in omega (arith, s))

pub bounds-links-before : goal.bounds-links-before
bounds-links-before g c = rw c.entry_of-before.ensures (last_fits c.args.links.now c.args.ends.now g.xs c.requires.1.1)

pub returns-then-last-eq0-clause-chain : goal.returns-then-last-eq0-clause-chain
returns-then-last-eq0-clause-chain g c = rw c.entry_of-here.ensures (chain_one c.args.links.now c.args.ends.now g.xs c.args.thread c.requires.1.1 c.requires.0.0 c.requires.0.1 c.requires.1.0 c.if-last-eq0.true)

pub returns-then-last-eq0-clause-others : goal.returns-then-last-eq0-clause-others
returns-then-last-eq0-clause-others g c = rw c.entry_of-here.ensures (others_one c.args.links.now g.xs c.args.thread c.args.ends.now.last)

pub returns-else-last-eq0-clause-chain : goal.returns-else-last-eq0-clause-chain
returns-else-last-eq0-clause-chain g c = rw (c.entry_of-here.ensures, c.entry_of-before.ensures) (chain_more c.args.links.now c.args.ends.now g.xs c.args.thread c.requires.1.1 c.requires.0.0 c.requires.0.1 c.requires.1.0 c.if-last-eq0.false)

pub returns-else-last-eq0-clause-others : goal.returns-else-last-eq0-clause-others
returns-else-last-eq0-clause-others g c = rw (c.entry_of-here.ensures, c.entry_of-before.ensures) (others_more c.args.links.now c.args.ends.now g.xs c.args.thread c.requires.1.1 c.if-last-eq0.false)
