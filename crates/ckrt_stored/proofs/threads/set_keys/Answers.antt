use Rattle.std.proofs.Common.{◌≡◌, ◌∙◌, true, ap}
use Rattle.ckrt_thread.specs.Contents.{empty, are_all_of_keys, with_keys}
use Rattle.ckrt_stored.proofs.RowLemmas.{none_of_keys}
use Rattle.ckrt_stored.proofs.threads.set_keys.Goals as goal

pub returns : goal.returns
returns c =
    let keys = c.copied_keys.result in
    let all : are_all_of_keys keys c.args.threads.now ≡ true = ap (are_all_of_keys keys) c.requires.1 ∙ none_of_keys keys 65 in
    c.set_keys.ensures.set (c.set_keys.ensures.exact ∙ all)
    ∙ ap (with_keys keys) c.requires.1
    ∙ ap (λ k. empty k c.args.kept.now.hart_count) (c.copied_keys.ensures ∙ c.keys.ensures)
