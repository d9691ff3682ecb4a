use Rattle.std.proofs.Common.{◌≡◌, ◌∙◌, ap}
use Rattle.std.proofs.lemmas.Result.{IfOk-weaker}
use Rattle.ckrt_look_clocks.specs.Within.{Detected, fresh_within}
use Rattle.ckrt_look_races.specs.Holders.{HOLDERS}
use Rattle.ckrt_look_calls.specs.Rooms.{slots_in, words_of}
use Rattle.ckrt_look_races.proofs.recorded.detector_for.Goals as goal

-- with a word for each of the memory
pub returns : goal.returns
returns c =
    let room = c.args.room in let words = words_of c.args.machine.now.state in
    IfOk-weaker c.new.result _ (λ (d : Detected). d ≡ fresh_within HOLDERS words (slots_in room 286720 words))
    (λ d is. is ∙ ap (λ k. fresh_within HOLDERS c.words_of-words.result k) c.slots_in.ensures ∙ ap (λ n. fresh_within HOLDERS n (slots_in room 286720 n)) c.words_of-words.ensures) c.new.ensures
