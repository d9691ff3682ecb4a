use Rattle.std.proofs.Common.{◌∙◌, ap, sym}
use Rattle.std.specs.List.{fold}
use Rattle.std.proofs.lemmas.List.Sums.{fold-append}
use Rattle.ckrt_hunt_schedules.specs.LastLines.{heard, no_line}
use Rattle.ckrt_hunt_schedules.specs.declared.last_line.LastLine.{LastLine}
use Rattle.ckrt_hunt_schedules.proofs.heard.Heard.hear.Goals as goal

-- both go on
pub returns : goal.returns
returns c = λ output h. record {
  digest = c.update.ensures output h.digest;
  last_line = c.hear.ensures ∙ ap (λ (l : LastLine). fold heard l c.args.bytes.now) h.last_line ∙ sym (fold-append heard no_line output c.args.bytes.now);
}
