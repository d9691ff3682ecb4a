use Rattle.std.proofs.Common.{◌≡◌, subst}
use Rattle.ckrt_cli_disk.specs.Equipping.{with_left_closed}
use Rattle.ckrt_cli_disk.specs.declared.equipping.Left.{Left}
use Rattle.ckrt_cli_disk.proofs.driving.drive_onto.Goals as goal

-- all were closed as the drive left them
pub returns : goal.returns
returns g c =
    let u = c.drive_session-undertaken.result in
    let e = c.drive_session-undertaken.ensures in
    let left : Left g.row.D.Denot = record { input = u.input; history = u.history } in
    record {
      after = u.session;
      end = u.output;
      left = left;
      kept = e.kept;
      answer = u.driven;
      drives = e.drives;
      why = c.last_reason-why.result;
      gives = c.answer_of.ensures;
      closes = subst (λ x. g.S.Closes.openings c.close_all.new.sources ≡ with_left_closed x left u.session.disk) c.close_output.ensures.closed
          (subst (λ x. g.S.Closes.openings c.close_all.new.sources ≡ with_left_closed (g.S.Closes.openings c.close_output.new.self) left x) c.into_disk.ensures c.close_all.ensures);
    }
