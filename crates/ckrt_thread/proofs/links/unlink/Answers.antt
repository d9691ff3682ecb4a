use Rattle.std.proofs.Common.{◌≡◌, ◌≢◌, slice_index, slice_set}
use Rattle.ckrt_thread.proofs.Paths.{there_fits, after_fits, before_fits, forth_head, forth_mid, back_last_out, back_mid_out, set_size, after_there, ahead_there, others_next, others_previous, others_twice, fewer}
use Rattle.ckrt_thread.proofs.links.unlink.Goals as goal

pub bounds-links-here : goal.bounds-links-here
bounds-links-here g c = rw c.entry_of-here.ensures (there_fits c.args.links.now c.args.ends.now g.xs c.args.thread c.requires.1 c.requires.0)

pub bounds-links-here-2 : goal.bounds-links-here-2
bounds-links-here-2 g c = rw c.entry_of-here.ensures (there_fits c.args.links.now c.args.ends.now g.xs c.args.thread c.requires.1 c.requires.0)

pub bounds-links-behind : goal.bounds-links-behind
bounds-links-behind g c =
    let n : slice_index c.args.links.now.next c.args.thread ≢ 0 = rw c.entry_of-here.ensures at c.if-after-eq0.false in
    rw (c.entry_of-behind.ensures, c.entry_of-here.ensures) (after_fits c.args.links.now c.args.ends.now g.xs c.args.thread c.requires.1 c.requires.0 n)

pub bounds-links-ahead : goal.bounds-links-ahead
bounds-links-ahead g c =
    let n : slice_index c.args.links.now.previous c.args.thread ≢ 0 = rw c.entry_of-here.ensures at c.if-before-eq0.false in
    rw (c.entry_of-ahead.ensures, c.entry_of-here.ensures) (before_fits c.args.links.now c.args.ends.now g.xs c.args.thread c.requires.1 c.requires.0 n)

pub bounds-links-ahead-else-after-eq0-2 : goal.bounds-links-ahead-else-after-eq0-2
bounds-links-ahead-else-after-eq0-2 g c =
    let n : slice_index c.args.links.now.previous c.args.thread ≢ 0 = rw c.entry_of-here.ensures at c.if-before-eq0.false in
    rw (c.entry_of-ahead.ensures, c.entry_of-here.ensures) (before_fits c.args.links.now c.args.ends.now g.xs c.args.thread c.requires.1 c.requires.0 n)

pub bounds-links-behind-else-after-eq0-2 : goal.bounds-links-behind-else-after-eq0-2
bounds-links-behind-else-after-eq0-2 g c =
    let n : slice_index c.args.links.now.next c.args.thread ≢ 0 = rw c.entry_of-here.ensures at c.if-after-eq0-2.false in
    rw (c.entry_of-behind-else-after-eq0-2.ensures, c.entry_of-here.ensures) (after_fits c.args.links.now c.args.ends.now g.xs c.args.thread c.requires.1 c.requires.0 n)

pub returns-then-after-eq0-clause-chain : goal.returns-then-after-eq0-clause-chain
returns-then-after-eq0-clause-chain g c =
    let ls = c.args.links.now in let en = c.args.ends.now in let t = c.args.thread in
    let b : slice_index ls.previous t ≡ 0 = rw c.entry_of-here.ensures at c.if-before-eq0.true in
    let a : slice_index ls.next t ≡ 0 = rw c.entry_of-here.ensures at c.if-after-eq0.true in
    rw c.entry_of-here.ensures (record {
      next_size = c.requires.1.next_size;
      previous_size = c.requires.1.previous_size;
      forth = forth_head ls en g.xs t c.requires.1 c.requires.0 b;
      back = back_last_out ls en g.xs t c.requires.1 c.requires.0 a;
      count = fewer ls en g.xs t c.requires.1 c.requires.0;
    })

pub returns-else-after-eq0-clause-chain : goal.returns-else-after-eq0-clause-chain
returns-else-after-eq0-clause-chain g c =
    let ls = c.args.links.now in let en = c.args.ends.now in let t = c.args.thread in
    let b : slice_index ls.previous t ≡ 0 = rw c.entry_of-here.ensures at c.if-before-eq0.true in
    let a : slice_index ls.next t ≢ 0 = rw c.entry_of-here.ensures at c.if-after-eq0.false in
    rw (c.entry_of-behind.ensures, c.entry_of-here.ensures) (record {
      next_size = c.requires.1.next_size;
      previous_size = set_size ls.previous _ _ c.requires.1.previous_size;
      forth = forth_head ls en g.xs t c.requires.1 c.requires.0 b;
      back = back_mid_out ls en g.xs t c.requires.1 c.requires.0 a;
      count = fewer ls en g.xs t c.requires.1 c.requires.0;
    })

pub returns-else-after-eq0-clause-others : goal.returns-else-after-eq0-clause-others
returns-else-after-eq0-clause-others g c =
    let ls = c.args.links.now in let t = c.args.thread in
    let a : slice_index ls.next t ≢ 0 = rw c.entry_of-here.ensures at c.if-after-eq0.false in
    rw (c.entry_of-behind.ensures, c.entry_of-here.ensures) (others_previous g.xs ls (slice_index ls.next t) (slice_index ls.previous t) (after_there ls c.args.ends.now g.xs t c.requires.1 c.requires.0 a))

pub returns-then-after-eq0-2-clause-chain : goal.returns-then-after-eq0-2-clause-chain
returns-then-after-eq0-2-clause-chain g c =
    let ls = c.args.links.now in let en = c.args.ends.now in let t = c.args.thread in
    let b : slice_index ls.previous t ≢ 0 = rw c.entry_of-here.ensures at c.if-before-eq0.false in
    let a : slice_index ls.next t ≡ 0 = rw c.entry_of-here.ensures at c.if-after-eq0-2.true in
    rw (c.entry_of-ahead.ensures, c.entry_of-here.ensures) (record {
      next_size = set_size ls.next _ _ c.requires.1.next_size;
      previous_size = c.requires.1.previous_size;
      forth = forth_mid ls en g.xs t c.requires.1 c.requires.0 b;
      back = back_last_out ls en g.xs t c.requires.1 c.requires.0 a;
      count = fewer ls en g.xs t c.requires.1 c.requires.0;
    })

pub returns-then-after-eq0-2-clause-others : goal.returns-then-after-eq0-2-clause-others
returns-then-after-eq0-2-clause-others g c =
    let ls = c.args.links.now in let t = c.args.thread in
    let b : slice_index ls.previous t ≢ 0 = rw c.entry_of-here.ensures at c.if-before-eq0.false in
    rw (c.entry_of-ahead.ensures, c.entry_of-here.ensures) (others_next g.xs ls (slice_index ls.previous t) (slice_index ls.next t) (ahead_there ls c.args.ends.now g.xs t c.requires.1 c.requires.0 b))

pub returns-else-after-eq0-2-clause-chain : goal.returns-else-after-eq0-2-clause-chain
returns-else-after-eq0-2-clause-chain g c =
    let ls = c.args.links.now in let en = c.args.ends.now in let t = c.args.thread in
    let b : slice_index ls.previous t ≢ 0 = rw c.entry_of-here.ensures at c.if-before-eq0.false in
    let a : slice_index ls.next t ≢ 0 = rw c.entry_of-here.ensures at c.if-after-eq0-2.false in
    rw (c.entry_of-ahead.ensures, c.entry_of-behind-else-after-eq0-2.ensures, c.entry_of-here.ensures) (record {
      next_size = set_size ls.next _ _ c.requires.1.next_size;
      previous_size = set_size ls.previous _ _ c.requires.1.previous_size;
      forth = forth_mid ls en g.xs t c.requires.1 c.requires.0 b;
      back = back_mid_out ls en g.xs t c.requires.1 c.requires.0 a;
      count = fewer ls en g.xs t c.requires.1 c.requires.0;
    })

pub returns-else-after-eq0-2-clause-others : goal.returns-else-after-eq0-2-clause-others
returns-else-after-eq0-2-clause-others g c =
    let ls = c.args.links.now in let t = c.args.thread in
    let b : slice_index ls.previous t ≢ 0 = rw c.entry_of-here.ensures at c.if-before-eq0.false in
    let a : slice_index ls.next t ≢ 0 = rw c.entry_of-here.ensures at c.if-after-eq0-2.false in
    rw (c.entry_of-ahead.ensures, c.entry_of-behind-else-after-eq0-2.ensures, c.entry_of-here.ensures)
    (others_twice g.xs ls (record ls { next = slice_set ls.next (slice_index ls.previous t) (slice_index ls.next t) }) (record { next = slice_set ls.next (slice_index ls.previous t) (slice_index ls.next t); previous = slice_set ls.previous (slice_index ls.next t) (slice_index ls.previous t) })
    (others_next g.xs ls (slice_index ls.previous t) (slice_index ls.next t) (ahead_there ls c.args.ends.now g.xs t c.requires.1 c.requires.0 b))
    (others_previous g.xs (record ls { next = slice_set ls.next (slice_index ls.previous t) (slice_index ls.next t) }) (slice_index ls.next t) (slice_index ls.previous t) (after_there ls c.args.ends.now g.xs t c.requires.1 c.requires.0 a)))
