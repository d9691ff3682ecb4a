use Rattle.std.proofs.Common.{◌≡◌, ◌<◌, ℕ, List, Option, ◌++◌, ◌∙◌, length, ap, arith}
use Rattle.std.specs.List.{flat_map}
use Rattle.std.proofs.lemmas.List.{take_all}
use Rattle.ckrt_tables.specs.Records.{words_from}
use Rattle.ckrt_inspect.specs.Listing.{key_line}
use Rattle.ckrt_inspect.proofs.PushLemmas.{pushed_word}
use Rattle.ckrt_inspect.proofs.keys.push_destructors.Goals as goal

pub loop-key-preserved : goal.loop-key-preserved
loop-key-preserved c =
    let os : List (Option ℕ) = c.args.destructors.now in
    let k = c.loop-key.key in
    let size : length os ≡ 32 = c.requires in
    let within : k < length os = omega (arith, size, c.loop-key-test.true) in
    pushed_word key_line os k c.args.out.now.items c.loop-key.out.items c.push_key.new.out.items within c.loop-key.invariant (c.in_ok-push_key.ensures)

pub returns : goal.returns
returns c =
    let os : List (Option ℕ) = c.args.destructors.now in
    let size : length os ≡ 32 = c.requires in
    c.loop-key.invariant ∙ ap (λ l. c.args.out.now.items ++ flat_map key_line (words_from 0 l)) (take_all c.loop-key.key os (omega (arith, size, c.loop-key-test.false)))
