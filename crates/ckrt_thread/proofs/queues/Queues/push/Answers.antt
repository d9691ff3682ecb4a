use Rattle.std.proofs.Common.{◌≡◌, ◌++◌, ◌∷◌, [], nat_eq, false, sym, ap, subst, ◌∙◌}
use Rattle.std.specs.List.{list_any}
use Rattle.ckrt_thread.specs.Links.{IsChain, KeepsOthers}
use Rattle.ckrt_thread.specs.Queues.{ends_of, queued}
use Rattle.ckrt_thread.proofs.Paths.{row_is}
use Rattle.ckrt_thread.proofs.QueueLemmas.{pushed_none, pushed_queues, not_queued, directory_room}
use Rattle.ckrt_thread.proofs.queues.Queues.push.Goals as goal

pub returns-in_default : goal.returns-in_default
returns-in_default c = λ ws h. pushed_none c.args.self.now ws c.args.wait.now (sym c.in_default.ensures) h.queues

pub link-requires : goal.link-requires
link-requires c =
    let o = c.in-Some.object in let ws = c.requires.0 in let h = c.requires.1 in
    let links = c.args.self.now.links in let ends = c.ends_of-ends.result in
    let q = c.ends_of-ends.ensures ∙ ap (ends_of c.in-Some.object) c.as_slice.ensures.value in
    let chain : IsChain c.args.self.now.links c.ends_of-ends.result (queued c.in-Some.object c.requires.0) = subst (λ e. IsChain c.args.self.now.links e (queued c.in-Some.object c.requires.0)) (sym q) (h.queues.chains o) in
    let e = row_is links ends (queued o ws) chain in (
      h.number,
      (
        subst (λ xs. list_any (nat_eq c.args.wait.now.thread) xs ≡ false) (sym e) (not_queued o c.args.wait.now.thread ws h.free),
        subst (IsChain c.args.self.now.links c.ends_of-ends.result) (sym e) chain,
      ),
    )

pub store_ends-requires-clause-room : goal.store_ends-requires-clause-room
store_ends-requires-clause-room c = λ _. directory_room c.args.self.now c.requires.0 c.requires.1.queues c.requires.1.room

pub returns : goal.returns
returns c = λ ws h.
    let o = c.in-Some.object in let t = c.args.wait.now.thread in
    let links = c.args.self.now.links in let ends = c.ends_of-ends.result in
    let q = c.ends_of-ends.ensures ∙ ap (ends_of c.in-Some.object) c.as_slice.ensures.value in
    let chain : IsChain c.args.self.now.links c.ends_of-ends.result (queued c.in-Some.object ws) = subst (λ e. IsChain c.args.self.now.links e (queued c.in-Some.object ws)) (sym q) (h.queues.chains o) in
    let e = row_is links ends (queued o ws) chain in
    pushed_queues o ws c.args.wait.now c.args.self.now (record { links = c.link.new.links; directory = c.store_ends.new.directory }) c.link.new.ends (sym c.in-Some.ensures) h.once h.free h.queues
    (subst (λ xs. IsChain c.link.new.links c.link.new.ends (xs ++ c.args.wait.now.thread ∷ [])) e c.link.ensures.chain)
    (subst (λ xs. KeepsOthers (c.args.wait.now.thread ∷ xs) c.args.self.now.links c.link.new.links) e c.link.ensures.others)
    c.store_ends.ensures.directory c.store_ends.ensures.ends c.store_ends.ensures.total
