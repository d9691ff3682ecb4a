use Rattle.std.proofs.Common.{rules, arith}
use Rattle.std.proofs.lemmas.Grind.{common_steps}
use Rattle.ckrt_gdb_forms.proofs.NumberLemmas.{number_text-digit, number_text-more}
use Rattle.ckrt_gdb_playback.proofs.bytes.+push_hex.Goals as goal

pub returns-in_err-push_hex-clause-fits : goal.returns-in_err-push_hex-clause-fits
returns-in_err-push_hex-clause-fits t c =
    let more = number_text-more c.args.number (omega arith) in rw more (first_of (search rules, grind (arith, common_steps)))

pub returns-then-number-lt16-clause-done : goal.returns-then-number-lt16-clause-done
returns-then-number-lt16-clause-done t c =
    let small = number_text-digit c.args.number (omega arith) in rw small (first_of (search rules, grind (arith, common_steps)))

pub returns-then-number-lt16-clause-fits : goal.returns-then-number-lt16-clause-fits
returns-then-number-lt16-clause-fits t c =
    let small = number_text-digit c.args.number (omega arith) in rw small (first_of (search rules, grind (arith, common_steps)))

pub returns-clause-done : goal.returns-clause-done
returns-clause-done t c =
    let more = number_text-more c.args.number (omega arith) in rw more (first_of (search rules, grind (arith, common_steps)))

pub returns-clause-fits : goal.returns-clause-fits
returns-clause-fits t c =
    let more = number_text-more c.args.number (omega arith) in rw more (first_of (search rules, grind (arith, common_steps)))
