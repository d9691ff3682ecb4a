-- The frames of a row, behind those that it stands on.
use Rattle.std.proofs.Common.{◌≡◌, ◌++◌, ℕ, suc, List, slice_get, Option, Some, sym, ap, ◌∙◌, subst}
use Rattle.std.specs.Io.KnownBytes.{Appends}
use Rattle.ckrt_look_profile.specs.declared.row.Base.TheVariants as base
use Rattle.ckrt_look_profile.specs.declared.row.Row.{Row}
use Rattle.ckrt_look_calls.proofs.AppendLemmas.{appends_both}
use Rattle.ckrt_look_profile.specs.Texts.{base_text, entry_text, frame_text}

pub frames_both : (rows : List Row) (m most k : ℕ) (r : Row) (a b c : Option (List ℕ)) → suc m ≡ most → slice_get rows k ≡ Some r
    → Appends a b (base_text rows m r.base) → Appends b c (entry_text r.entry) → Appends a c (base_text rows most (base.Row k))
frames_both rows m most k r a b c is there first last =
    let all : base_text rows most (base.Row k) ≡ base_text rows m r.base ++ entry_text r.entry =
    ap (λ n. base_text rows n (base.Row k)) (sym is) ∙ ap (frame_text (base_text rows m)) there in
    subst (Appends a c) (sym all) (appends_both a b c (base_text rows m r.base) (entry_text r.entry) first last)
