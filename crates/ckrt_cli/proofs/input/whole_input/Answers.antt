use Rattle.std.proofs.Common.{rules, ◌∙◌}
use Rattle.ckrt_cli_disk.proofs.FrontLemmas.{front_longer, front_whole}
use Rattle.ckrt_cli.proofs.input.whole_input.Goals as goal

-- one byte more than the limit was asked for
pub returns-then-len-gt-LONGEST_INPUT-clause-unfit : goal.returns-then-len-gt-LONGEST_INPUT-clause-unfit
returns-then-len-gt-LONGEST_INPUT-clause-unfit g c = (
  search rules,
  λ bytes known.
      let read = c.in_ok-input.ensures.bytes bytes (c.in_ok-reader.ensures.bytes ∙ known) in
      front_longer 1048576 bytes c.in_ok-input.input.items read (search rules),
)

-- what was read is all
pub returns-clause-bytes : goal.returns-clause-bytes
returns-clause-bytes g c bytes known =
    let read = c.in_ok-input.ensures.bytes bytes (c.in_ok-reader.ensures.bytes ∙ known) in
    front_whole 1048576 bytes c.in_ok-input.input.items read (search rules)
