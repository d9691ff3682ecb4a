use Rattle.std.proofs.Common.{◌≡◌, ◌∙◌, ◌==◌, ap}
use Rattle.std.proofs.lemmas.Result.{IfOk-weaker}
use Rattle.ckrt_look_calls.specs.Rooms.{slots_in, words_of}
use Rattle.ckrt_look_heap.specs.Within.{Noted, fresh_within}
use Rattle.ckrt_look_heap.proofs.recorded.shadow_for.Goals as goal

-- with a word for each of the memory
pub returns : goal.returns
returns c =
    let room = c.args.room in let whole = c.args.count == 0 in let words = words_of c.args.machine.now.state in
    IfOk-weaker c.new.result _ (λ (s : Noted). s ≡ fresh_within whole words (slots_in room 57344 words))
    (λ s is. is ∙ ap (λ k. fresh_within whole c.words_of-words.result k) c.slots_in.ensures ∙ ap (λ n. fresh_within whole n (slots_in room 57344 n)) c.words_of-words.ensures) c.new.ensures
