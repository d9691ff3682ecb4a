use Rattle.std.proofs.Common.{◌≡◌, ◌∙◌, ap, rules, subst}
use Rattle.ckrt_cli_disk.specs.Equipping.{with_left_closed}
use Rattle.ckrt_cli_disk.specs.declared.equipping.Left.{Left}
use Rattle.ckrt_cli_disk.proofs.driving.drive_onto_stream.Goals as goal

-- the stream begins at the offset, and disk and input were closed as the drive left them
pub returns : goal.returns
returns g c =
    let u = c.drive_streamed-session.result in
    let e = c.drive_streamed-session.ensures in
    let left : Left g.row.D.Denot = record { input = u.input; history = u.history } in
    record {
      stream = c.new-stream.result;
      begins = c.new-stream.ensures.from ∙ c.offset_of.ensures;
      after = u.session;
      end = u.output;
      left = left;
      kept = e.kept;
      answer = u.driven;
      drives = e.drives;
      why = c.last_reason-why.result;
      gives = c.answer_of.ensures;
      lent = record { before = ap g.W.Write.contents c.new-stream.ensures.writer; behind = search rules };
      closes = subst (λ x. g.S.Closes.openings c.close_all.new.sources ≡ with_left_closed (g.S.Closes.openings c.args.sources.now) left x) c.into_disk.ensures c.close_all.ensures;
    }
