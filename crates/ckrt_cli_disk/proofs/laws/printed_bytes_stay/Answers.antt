use Rattle.ckrt_cli_disk.proofs.PrintLemmas.{holds_on, prints_on}
use Rattle.ckrt_cli_disk.proofs.laws.printed_bytes_stay.Goals as goal

pub returns-clause-served : goal.returns-clause-served
returns-clause-served g c = λ a b r s run honest p before held. prints_on g.D.Disk c.args.start.now c.args.end.now a b r s p before held run honest

pub returns-clause-unrecovered : goal.returns-clause-unrecovered
returns-clause-unrecovered g c = λ a b r s fault run honest p before held. holds_on g.D.Disk c.args.start.now c.args.end.now a b r s p before held fault run honest
