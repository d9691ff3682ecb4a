use Rattle.std.proofs.Common.{◌≡◌, ◌++◌, ◌∷◌, [], ◌∙◌, ap, sym, arith, length, take, rules}
use Rattle.std.proofs.lemmas.List.{length-map}
use Rattle.ckrt_thread.specs.Queues.{ids}
use Rattle.ckrt_thread.specs.WaitList.{entry_at}
use Rattle.ckrt_thread.proofs.Paths.{path_short}
use Rattle.ckrt_thread.proofs.Kept.{walk_at, length_taken}
use Rattle.ckrt_thread.proofs.wait_list.waits_from.Goals as goal

pub bounds-entries-thread : goal.bounds-entries-thread
bounds-entries-thread g c =
    let r = walk_at c.args.next.now c.args.entries.now c.loop-place.thread g.ws c.loop-place.place c.loop-place.invariant.ahead c.requires.1.1.0 (let k = c.requires.1.1.1 in omega arith) in
    let b = r.0 in let s = c.requires.0 in omega (arith, b, s.0)

pub push-requires : goal.push-requires
push-requires g c =
    let few = path_short c.args.next.now c.args.first (ids g.ws) c.requires.1.0 in
    let same = length-map g.ws (λ w. w.thread) in
    let shown : length c.loop-place.waits.items ≡ length (take c.loop-place.place g.ws) = ap length c.loop-place.invariant.shown in
    let taken = length_taken c.loop-place.place g.ws in
    let count = c.requires.1.1.1 in
    (search rules, omega (arith, few, same, shown, taken, count))

pub bounds-next-thread : goal.bounds-next-thread
bounds-next-thread g c =
    let r = walk_at c.args.next.now c.args.entries.now c.loop-place.thread g.ws c.loop-place.place c.loop-place.invariant.ahead c.requires.1.1.0 (let k = c.requires.1.1.1 in omega arith) in
    let b = r.0 in let s = c.requires.0 in omega (arith, b, s.1)

pub loop-place-preserved : goal.loop-place-preserved
loop-place-preserved g c =
    let r = walk_at c.args.next.now c.args.entries.now c.loop-place.thread g.ws c.loop-place.place c.loop-place.invariant.ahead c.requires.1.1.0 (let k = c.requires.1.1.1 in omega arith) in
    record { shown = c.push.ensures.items ∙ (ap (λ ws. ws ++ entry_at c.args.entries.now c.loop-place.thread ∷ []) c.loop-place.invariant.shown ∙ sym r.2); ahead = r.1 }
