use Rattle.std.proofs.Common.{◌≡◌, ◌∙◌, ap, subst}
use Rattle.std.proofs.lemmas.Result.{on_ok_weaker}
use Rattle.std.specs.Io.KnownBytes.{Appends}
use Rattle.ckrt_look_profile.specs.Counts.{Counts, behind_all, nothing}
use Rattle.ckrt_look_profile.specs.Steps.{notes}
use Rattle.ckrt_look_profile.specs.Texts.{profile_text}
use Rattle.ckrt_look_profile.proofs.recorded.write_profile.Goals as goal

pub returns-clause-profile : goal.returns-clause-profile
returns-clause-profile g c =
    let s = c.args.machine.now.state in
    let ns = notes c.args.events.now s in
    let all : c.count_all.new.counts ≡ behind_all ns nothing = c.if-not-count_all.ensures.counted ∙ ap (λ (w : Counts). behind_all ns w) c.in-Ok.ensures in
    let a = g.W.Write.contents c.args.out.now in let z = g.W.Write.contents c.write_form.new.out in
    on_ok_weaker c.write_form.result (λ written. subst (λ (w : Counts). Appends a z (profile_text c.args.form w)) all written) c.write_form.ensures.profile
