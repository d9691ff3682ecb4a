use Rattle.std.proofs.Common.{◌≡◌, ◌++◌, ◌∙◌, [], ℕ, List, Some, Result, Ok, Err, if◌then◌else◌, arith, sym, ap, subst}
use Rattle.std.specs.Prelude.{OnErr, OnOk, is_ok}
use Rattle.ckrt_main.specs.Pieces.{Tells}
use Rattle.ckrt_main.specs.Replies.{output_in, outputs}
use Rattle.ckrt_main.proofs.ReplyLemmas.{shown_in-outputs}
use Rattle.ckrt_disk.proofs.ListLemmas.{nothing_begins}
use Rattle.ckrt_main.proofs.TellLemmas.{tells_all, tells_nothing}
use Rattle.ckrt_disk.proofs.WriteLemmas.{map_err, map_ok}
use Rattle.ckrt_main.proofs.session.ReleasedListenerVecU8.output.Goals as goal

grown : {A E : Type 0} (r : Result A E) (old new bytes : List ℕ) → new ≡ (if is_ok r then old ++ bytes else old) → OnOk r (new ≡ old ++ bytes)
grown (Ok x) old new bytes e = e
grown (Err x) old new bytes e = tt

kept : {A E : Type 0} (r : Result A E) (old new bytes : List ℕ) → new ≡ (if is_ok r then old ++ bytes else old) → OnErr r (new ≡ old)
kept (Ok x) old new bytes e = tt
kept (Err x) old new bytes e = e

pub returns-clause-ok : goal.returns-clause-ok
returns-clause-ok c =
    let a = c.args.released.now.items in
    let b = c.extend_from_slice.new.self.items in
    let bytes = c.args.bytes.now in
    map_ok c.extend_from_slice.result _ _ (λ e. tells_all output_in (Some a) (Some b) (outputs c.args._offset bytes) (e ∙ ap (λ l. a ++ l) (sym (shown_in-outputs c.args._offset bytes))))
    (grown c.extend_from_slice.result a b bytes c.extend_from_slice.ensures.items)

pub returns-clause-broken : goal.returns-clause-broken
returns-clause-broken c =
    let a = c.args.released.now.items in
    let b = c.extend_from_slice.new.self.items in
    let bytes = c.args.bytes.now in
    map_err c.extend_from_slice.result _ _
    (λ e. record {
      replies = [];
      broken = [];
      one = omega arith;
      tells = subst (λ l. Tells output_in (Some a) (Some l) [] []) (sym e) (tells_nothing output_in (Some a));
      among = nothing_begins (outputs c.args._offset bytes);
    })
    (kept c.extend_from_slice.result a b bytes c.extend_from_slice.ensures.items)
