use Rattle.std.proofs.Common.{◌≡◌, nat_eq, true, sym, ap, subst, ◌∙◌, arith}
use Rattle.std.specs.List.{list_any}
use Rattle.ckrt_thread.specs.Links.{dropped, IsChain, KeepsOthers}
use Rattle.ckrt_thread.specs.Queues.{ends_of, queued, no_ends}
use Rattle.ckrt_thread.proofs.Paths.{row_is, chain_filled}
use Rattle.ckrt_thread.proofs.QueueLemmas.{taken_none, taken_queues, queued_there, for_own, ends_none, forgotten_total}
use Rattle.ckrt_thread.proofs.queues.Queues.take_out.Goals as goal

pub returns-in_default : goal.returns-in_default
returns-in_default c = λ ws h. taken_none c.args.self.now ws c.args.wait.now.thread c.args.wait.now h.there (sym c.in_default.ensures) h.queues

pub unlink-requires : goal.unlink-requires
unlink-requires c =
    let o = c.in-Some.object in let ws = c.requires.0 in let h = c.requires.1 in
    let links = c.args.self.now.links in let ends = c.ends_of-ends.result in
    let q = c.ends_of-ends.ensures ∙ ap (ends_of c.in-Some.object) c.as_slice.ensures.value in
    let chain : IsChain c.args.self.now.links c.ends_of-ends.result (queued c.in-Some.object c.requires.0) = subst (λ e. IsChain c.args.self.now.links e (queued c.in-Some.object c.requires.0)) (sym q) (h.queues.chains o) in
    let e = row_is links ends (queued o ws) chain in
    let there = queued_there o c.args.wait.now.thread c.args.wait.now ws h.there (for_own o c.args.wait.now (sym c.in-Some.ensures)) in
    (subst (λ xs. list_any (nat_eq c.args.wait.now.thread) xs ≡ true) (sym e) there, subst (IsChain c.args.self.now.links c.ends_of-ends.result) (sym e) chain)

pub store_ends-requires-clause-room : goal.store_ends-requires-clause-room
store_ends-requires-clause-room c = λ z. absurd (
    let o = c.in-Some.object in let ws = c.requires.0 in let h = c.requires.1 in
    let there = queued_there o c.args.wait.now.thread c.args.wait.now ws h.there (for_own o c.args.wait.now (sym c.in-Some.ensures)) in
    let filled = chain_filled c.args.self.now.links (ends_of o c.args.self.now.directory.items) (queued o ws) c.args.wait.now.thread (h.queues.chains o) there in
    omega (arith, filled, z))

pub returns-then-ends-eq0 : goal.returns-then-ends-eq0
returns-then-ends-eq0 c = λ ws h.
    let o = c.in-Some.object in
    let links = c.args.self.now.links in let ends = c.ends_of-ends.result in
    let q = c.ends_of-ends.ensures ∙ ap (ends_of c.in-Some.object) c.as_slice.ensures.value in
    let chain : IsChain c.args.self.now.links c.ends_of-ends.result (queued c.in-Some.object ws) = subst (λ e. IsChain c.args.self.now.links e (queued c.in-Some.object ws)) (sym q) (h.queues.chains o) in
    let e = row_is links ends (queued o ws) chain in
    let left : IsChain c.unlink.new.links c.unlink.new.ends (dropped c.args.wait.now.thread (queued c.in-Some.object ws)) = subst (λ xs. IsChain c.unlink.new.links c.unlink.new.ends (dropped c.args.wait.now.thread xs)) e c.unlink.ensures.chain in
    let none = ends_none c.unlink.new.links c.unlink.new.ends (dropped c.args.wait.now.thread (queued o ws)) left c.if-ends-eq0.true in
    taken_queues o ws c.args.wait.now.thread c.args.wait.now c.args.self.now (record { links = c.unlink.new.links; directory = c.forget_ends.new.directory }) no_ends h.there (sym c.in-Some.ensures) h.once h.queues
    (subst (λ x. IsChain c.unlink.new.links x (dropped c.args.wait.now.thread (queued c.in-Some.object ws))) none left)
    (subst (λ xs. KeepsOthers xs c.args.self.now.links c.unlink.new.links) e c.unlink.ensures.others)
    c.forget_ends.ensures.directory c.forget_ends.ensures.ends (forgotten_total _ _ _ c.forget_ends.ensures.total)

pub returns-else-ends-eq0 : goal.returns-else-ends-eq0
returns-else-ends-eq0 c = λ ws h.
    let o = c.in-Some.object in
    let links = c.args.self.now.links in let ends = c.ends_of-ends.result in
    let q = c.ends_of-ends.ensures ∙ ap (ends_of c.in-Some.object) c.as_slice.ensures.value in
    let chain : IsChain c.args.self.now.links c.ends_of-ends.result (queued c.in-Some.object ws) = subst (λ e. IsChain c.args.self.now.links e (queued c.in-Some.object ws)) (sym q) (h.queues.chains o) in
    let e = row_is links ends (queued o ws) chain in
    taken_queues o ws c.args.wait.now.thread c.args.wait.now c.args.self.now (record { links = c.unlink.new.links; directory = c.store_ends.new.directory }) c.unlink.new.ends h.there (sym c.in-Some.ensures) h.once h.queues
    (subst (λ xs. IsChain c.unlink.new.links c.unlink.new.ends (dropped c.args.wait.now.thread xs)) e c.unlink.ensures.chain)
    (subst (λ xs. KeepsOthers xs c.args.self.now.links c.unlink.new.links) e c.unlink.ensures.others)
    c.store_ends.ensures.directory c.store_ends.ensures.ends c.store_ends.ensures.total
