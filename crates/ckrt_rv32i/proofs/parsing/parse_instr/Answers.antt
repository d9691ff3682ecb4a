use Rattle.std.proofs.Common.{◌≡◌, Some, None, rules, sym, ◌∙◌, subst}
use Rattle.ckrt_rv32i.specs.declared.instruction.Instr.{Instr}
use Rattle.ckrt_rv32i.specs.Table.{IsInRange}
use Rattle.ckrt_rv32i.specs.Text.{text_of}
use Rattle.ckrt_rv32i.proofs.ParsingLaws.{parsed, not_parsed, not_both}
use Rattle.ckrt_rv32i.proofs.parsing.parse_instr.Goals as goal

pub returns-in_err-instr-clause-exact : goal.returns-in_err-instr-clause-exact
returns-in_err-instr-clause-exact c =
    let nothing : c.from_residual.result ≡ None = search rules in
    rw nothing (not_parsed c.args.text.now None (sym c.read.ensures ∙ c.in_err-instr.was) (λ i e. absurd (cc)))

pub returns-then-is_text_of-clause-exact : goal.returns-then-is_text_of-clause-exact
returns-then-is_text_of-clause-exact c =
    let h = c.is_text_of.ensures.0 (search rules) in
    parsed c.args.text.now c.in_ok-instr.instr h.0 h.1

pub returns-else-is_text_of-clause-exact : goal.returns-else-is_text_of-clause-exact
returns-else-is_text_of-clause-exact c =
    let i : Instr = c.in_ok-instr.instr in
    let IsText : Instr → Type 0 = λ j. IsInRange j × (c.args.text.now ≡ text_of j) in
    let other : IsText i → ⊥ = λ h. not_both c.is_text_of.result c.if-is_text_of.false (c.is_text_of.ensures.1 h) in
    not_parsed c.args.text.now (Some i) (sym c.read.ensures ∙ c.in_ok-instr.was) (λ j e h. let same : j ≡ i = cc in other (subst IsText same h))
