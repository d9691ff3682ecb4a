-- Callers, one after another.
use Rattle.std.proofs.Common.{ℕ, zero, suc, ◌≡◌, ◌<◌, ◌-◌, ◌++◌, ◌∙◌, List, [], Option, Some, None, ap, refl, arith}
use Rattle.std.specs.Option.{option_map_or}
use Rattle.ckrt_look_recording.specs.Frames.{next_frame}
use Rattle.ckrt_look_recording.specs.declared.frame.Frame.{Frame}
use Rattle.ckrt_look_recording.specs.declared.rule.Rule.{Rule}
use Rattle.ckrt_look_calls.specs.declared.moment.Moment.{Moment}
use Rattle.ckrt_look_calls.specs.Moments.{caller_line, caller_lines}

-- where there is no caller
pub no_more : (left : ℕ) (m : Moment) (rules : List Rule) (bytes : List ℕ) (f : Frame) → next_frame rules bytes f ≡ None → caller_lines left m rules bytes f ≡ []
no_more zero m rules bytes f none = refl
no_more (suc left) m rules bytes f none = ap (λ (o : Option Frame). option_map_or (λ c. caller_line m c ++ caller_lines left m rules bytes c) o []) none

less_one : (left : ℕ) → left ≡ suc left - 1
less_one left = omega arith

-- and where there is one
pub one_more : (left : ℕ) (m : Moment) (rules : List Rule) (bytes : List ℕ) (f caller : Frame) → 0 < left → next_frame rules bytes f ≡ Some caller
    → caller_lines left m rules bytes f ≡ caller_line m caller ++ caller_lines (left - 1) m rules bytes caller
one_more zero m rules bytes f caller some is = absurd (omega (arith, some))
one_more (suc left) m rules bytes f caller some is =
    ap (λ (o : Option Frame). option_map_or (λ c. caller_line m c ++ caller_lines left m rules bytes c) o []) is
    ∙ ap (λ (n : ℕ). caller_line m caller ++ caller_lines n m rules bytes caller) (less_one left)
