use Rattle.std.proofs.Common.{◌≡◌, ◌∙◌, false, sym, subst, inl, inr, true≢false}
use Rattle.std.specs.Prelude.{◌↔◌, IsTrue}
use Rattle.std.proofs.lemmas.Result.{IfOk-weaker}
use Rattle.ckrt_cli_files.specs.Leftovers.{HasNotBegun, is_unfinished}
use Rattle.ckrt_cli_files.proofs.leftover.look_at_leftover.Goals as goal

-- a file that has something is a disk in the making where its program hasn't begun
pub returns-in-Ok-false : goal.returns-in-Ok-false
returns-in-Ok-false g c =
    let d = g.D.Disk in
    let content = d.content c.args.disk in
    let e = c.in-Ok-false.ensures in
    let looked = c.has_not_begun.ensures in
    IfOk-weaker c.has_not_begun.result.is_in_making _ _
    (λ f is honest.
    let before = looked.same.honest honest in
    let has_some : is_unfinished content ≡ false = sym (e.exact before) ∙ c.in-Ok-false.field-0-test in
    let told = subst (λ bytes. IsTrue f ↔ HasNotBegun bytes) (e.read.content before) (is honest) in
    (λ t. inr (told.0 t), λ m. elim m [ inl closed ↦ absurd (true≢false (sym closed ∙ has_some)) | inr begun ↦ told.1 begun ]))
    looked.found
