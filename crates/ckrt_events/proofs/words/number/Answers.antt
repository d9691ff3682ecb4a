use Rattle.std.proofs.Common.{◌≡◌, ◌<◌, true, false, length, take, get_or, arith, rules, refl}
use Rattle.std.proofs.lemmas.List.{take_more}
use Rattle.ckrt_events.specs.Words.{is_digit, all_digits}
use Rattle.ckrt_events.proofs.WordLemmas.{all_digits-more, all_digits-stop, value_from-more}
use Rattle.ckrt_events.proofs.words.number.Goals as goal

pub returns-then-not-is_ascii_digit-clause-value : goal.returns-then-not-is_ascii_digit-clause-value
returns-then-not-is_ascii_digit-clause-value c =
    let s = c.args.word.now in
    let no : is_digit (get_or s c.loop-b.b-index 0) ≡ false = search rules in
    let none : all_digits s ≡ false = all_digits-stop s c.loop-b.b-index (omega arith) no in
    rw none refl

pub loop-b-preserved : goal.loop-b-preserved
loop-b-preserved c =
    let s = c.args.word.now in
    let i = c.loop-b.b-index in
    let lt : i < length s = omega arith in
    let yes : is_digit (get_or s i 0) ≡ true = search rules in
    record {
      digits = rw (take_more s i 0 lt) (all_digits-more (take i s) (get_or s i 0) c.loop-b.invariant.digits yes);
      value = let v = value_from-more 0 (take i s) (get_or s i 0) in rw (take_more s i 0 lt, v) (omega arith);
    }
