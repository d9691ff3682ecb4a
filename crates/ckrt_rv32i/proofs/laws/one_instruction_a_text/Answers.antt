use Rattle.ckrt_rv32i.proofs.ParsingLaws.{one_text}
use Rattle.ckrt_rv32i.proofs.laws.one_instruction_a_text.Goals as goal

pub returns : goal.returns
returns c = one_text
