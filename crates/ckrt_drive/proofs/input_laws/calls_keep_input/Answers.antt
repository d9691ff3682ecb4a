use Rattle.std.proofs.Common.{[], ◌∷◌, sym, ◌∙◌}
use Rattle.ckrt_drive.specs.Fed.{IsFed}
use Rattle.ckrt_drive.proofs.CallLemmas.{commit_keeps, commit_moment}
use Rattle.ckrt_drive.proofs.KeepLemmas.{fed_kept, keeps_more, keeps_same}
use Rattle.ckrt_drive.proofs.input_laws.calls_keep_input.Goals as goal

pub returns : goal.returns
returns g c =
    let old = c.args.before.now in
    let new = c.args.after.now in
    record {
      commit = λ result is. (
        λ honest p events fed. commit_moment p IsFed (fed_kept p) events old new fed.0 fed.1 honest (λ image left. g.met.D.Disk.only_now old.disk image (is.honest honest) left) (λ image le left. g.met.D.Disk.counts_now new.disk (g.D.Disk.moment old.disk) image honest le left) (is.any_moment honest p events fed.0) result is,
        λ honest p events fed. (
          is.represents honest p events fed.0,
          commit_keeps p IsFed (fed_kept p) events old new fed.0 fed.1 honest (λ image left. g.met.D.Disk.only_now old.disk image (is.honest honest) left) (λ image le left. g.met.D.Disk.counts_now new.disk (g.D.Disk.moment old.disk) image honest le left) (is.any_moment honest p events fed.0) result is,
        ),
      );
      submit = λ e p events is fed. (is.represents p events fed.0, keeps_more IsFed events (e ∷ []) old new fed.0.acknowledged is.acknowledged (is.running.1 ∙ sym is.running.0) is.running.0 is.disk fed.1);
      aside = λ p events is fed. (is.represents p events fed.0, keeps_same IsFed events old new is.acknowledged is.failed is.disk fed.1);
    }
