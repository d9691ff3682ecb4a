use Rattle.std.proofs.Common.{rules, arith}
use Rattle.std.proofs.lemmas.Grind.{common_steps}
use Rattle.ckrt_gdb_forms.proofs.PartLemmas.{motion_among-turns}
use Rattle.ckrt_gdb_forms.proofs.arguments.+motion.Goals as goal

pub returns-in_err-motion : goal.returns-in_err-motion
returns-in_err-motion t c =
    let turns = motion_among-turns c.args.actions.now in rw turns (first_of (search rules, grind (arith, common_steps)))

pub returns-in-Continue-Some : goal.returns-in-Continue-Some
returns-in-Continue-Some t c =
    let turns = motion_among-turns c.args.actions.now in rw turns (first_of (search rules, grind (arith, common_steps)))

pub returns-in_default : goal.returns-in_default
returns-in_default t c =
    let turns = motion_among-turns c.args.actions.now in rw turns (first_of (search rules, grind (arith, common_steps)))

pub returns-in_default-2 : goal.returns-in_default-2
returns-in_default-2 t c =
    let turns = motion_among-turns c.args.actions.now in rw turns (first_of (search rules, grind (arith, common_steps)))
