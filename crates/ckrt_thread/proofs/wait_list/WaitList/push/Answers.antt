use Rattle.std.proofs.Common.{◌≡◌, ◌++◌, ◌∷◌, [], nat_eq, false, sym, subst, ◌∙◌}
use Rattle.std.specs.List.{list_any}
use Rattle.ckrt_thread.specs.Waits.{is_of}
use Rattle.ckrt_thread.specs.Links.{IsChain}
use Rattle.ckrt_thread.specs.WaitList.{waits_along}
use Rattle.ckrt_thread.proofs.QueueLemmas.{ids_any}
use Rattle.ckrt_thread.proofs.Kept.{kept_is, kept_view, kept_row, kept_more, may_join}
use Rattle.ckrt_thread.proofs.wait_list.WaitList.push.Goals as goal

pub link-requires : goal.link-requires
link-requires c =
    let e = kept_row c.self.inside.entries c.self.inside.waiting c.self.inside.links c.self.inside.ends c.self.inside.queues (waits_along c.self.inside.entries c.self.inside.links c.self.inside.ends) c.self.invariant in
    let free : list_any (is_of c.args.wait.thread) (waits_along c.self.inside.entries c.self.inside.links c.self.inside.ends) ≡ false = rw (← c.self.view_is) at c.requires.free in
    (c.requires.number, (subst (λ xs. list_any (nat_eq c.args.wait.thread) xs ≡ false) (sym e) (ids_any c.args.wait.thread (waits_along c.self.inside.entries c.self.inside.links c.self.inside.ends) ∙ free), subst (IsChain c.self.inside.links c.self.inside.ends) (sym e) c.self.invariant.order))

pub push-requires : goal.push-requires
push-requires c =
    let free : list_any (is_of c.args.wait.thread) (waits_along c.self.inside.entries c.self.inside.links c.self.inside.ends) ≡ false = rw (← c.self.view_is) at c.requires.free in
    ((waits_along c.self.inside.entries c.self.inside.links c.self.inside.ends), may_join c.self.inside.entries c.self.inside.waiting c.self.inside.links c.self.inside.ends c.self.inside.queues (waits_along c.self.inside.entries c.self.inside.links c.self.inside.ends) c.args.wait c.self.invariant c.requires.number free (rw (← c.self.view_is) at c.requires.room))

pub invariant_of-self : goal.invariant_of-self
invariant_of-self c =
    let e = kept_row c.self.inside.entries c.self.inside.waiting c.self.inside.links c.self.inside.ends c.self.inside.queues (waits_along c.self.inside.entries c.self.inside.links c.self.inside.ends) c.self.invariant in
    let free : list_any (is_of c.args.wait.thread) (waits_along c.self.inside.entries c.self.inside.links c.self.inside.ends) ≡ false = rw (← c.self.view_is) at c.requires.free in
    let joins = may_join c.self.inside.entries c.self.inside.waiting c.self.inside.links c.self.inside.ends c.self.inside.queues (waits_along c.self.inside.entries c.self.inside.links c.self.inside.ends) c.args.wait c.self.invariant c.requires.number free (rw (← c.self.view_is) at c.requires.room) in
    rw c.entry_of-place.ensures (kept_view _ _ _ _ _ ((waits_along c.self.inside.entries c.self.inside.links c.self.inside.ends) ++ c.args.wait ∷ []) (kept_more c.self.inside.entries c.self.inside.waiting c.self.inside.links c.self.inside.ends c.self.inside.queues (waits_along c.self.inside.entries c.self.inside.links c.self.inside.ends) c.args.wait c.link.new.links c.link.new.ends c.push.new.self c.self.invariant c.requires.number free
    (subst (λ xs. IsChain c.link.new.links c.link.new.ends (xs ++ c.args.wait.thread ∷ [])) e c.link.ensures.chain) (c.push.ensures (waits_along c.self.inside.entries c.self.inside.links c.self.inside.ends) joins)))

pub returns : goal.returns
returns c =
    let e = kept_row c.self.inside.entries c.self.inside.waiting c.self.inside.links c.self.inside.ends c.self.inside.queues (waits_along c.self.inside.entries c.self.inside.links c.self.inside.ends) c.self.invariant in
    let free : list_any (is_of c.args.wait.thread) (waits_along c.self.inside.entries c.self.inside.links c.self.inside.ends) ≡ false = rw (← c.self.view_is) at c.requires.free in
    let joins = may_join c.self.inside.entries c.self.inside.waiting c.self.inside.links c.self.inside.ends c.self.inside.queues (waits_along c.self.inside.entries c.self.inside.links c.self.inside.ends) c.args.wait c.self.invariant c.requires.number free (rw (← c.self.view_is) at c.requires.room) in
    record {
      items = rw (← c.self.view_is, c.entry_of-place.ensures) (kept_is _ _ _ _ _ ((waits_along c.self.inside.entries c.self.inside.links c.self.inside.ends) ++ c.args.wait ∷ []) (kept_more c.self.inside.entries c.self.inside.waiting c.self.inside.links c.self.inside.ends c.self.inside.queues (waits_along c.self.inside.entries c.self.inside.links c.self.inside.ends) c.args.wait c.link.new.links c.link.new.ends c.push.new.self c.self.invariant c.requires.number free
          (subst (λ xs. IsChain c.link.new.links c.link.new.ends (xs ++ c.args.wait.thread ∷ [])) e c.link.ensures.chain) (c.push.ensures (waits_along c.self.inside.entries c.self.inside.links c.self.inside.ends) joins)));
    }
