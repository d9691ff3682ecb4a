use Rattle.std.proofs.Common.{rules, arith}
use Rattle.std.proofs.lemmas.Bool.Decides.{nat_tests}
use Rattle.ckrt_look_profile.proofs.LeavingLemmas.{leaves_by}
use Rattle.ckrt_look_profile.proofs.leaving.leaves_at.Goals as goal

-- by the word that stands there
pub returns : goal.returns
returns c =
    let m = c.args.bytes.now in
    let pc = c.args.pc in
    leaves_by m pc c.word_in-word.result c.leaves.result (grind (arith, nat_tests, c.if-pc-lt4096.false, c.if-bytes-at.false)) (search rules) c.leaves.ensures
