use Rattle.std.proofs.Common.{◌≡◌, ◌-◌, ℕ, suc, slice_get, Some, sym, subst, ◌∙◌, arith}
use Rattle.std.proofs.lemmas.Result.{on_ok_weaker}
use Rattle.std.specs.Io.KnownBytes.{Appends}
use Rattle.ckrt_look_profile.specs.declared.row.Base.{Base}
use Rattle.ckrt_look_profile.specs.Texts.{base_text}
use Rattle.ckrt_look_profile.proofs.FrameLemmas.{frames_both}
use Rattle.ckrt_look_profile.proofs.folded.+write_base.Goals as goal

-- the frame of the row, behind those that it stands on
pub returns-in_ok-write_base-in-Row : goal.returns-in_ok-write_base-in-Row
returns-in_ok-write_base-in-Row g t c =
    let has = g.W.Write.contents in let rows = c.args.rows.now in
    let a = has c.args.out.now in let b = has c.write_base.new.out in let z = has c.write_entry.new.out in
    let m : ℕ = c.args.most - 1 in
    let is : suc m ≡ c.args.most = omega arith in
    let there : slice_get rows c.in-Row.row ≡ Some c.in-Some.below = sym c.row_of.ensures ∙ c.in-Some.is in
    on_ok_weaker c.write_entry.result (λ last. subst (λ (x : Base). Appends a z (base_text rows c.args.most x)) (sym c.in-Row.is)
    (frames_both rows m c.args.most c.in-Row.row c.in-Some.below a b z is there c.in_ok-write_base-in-Row.ensures last)) c.write_entry.ensures
