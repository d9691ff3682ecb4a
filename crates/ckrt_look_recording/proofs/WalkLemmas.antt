-- A step of the walk out of a kit.
use Rattle.std.proofs.Common.{ℕ, List, ◌≡◌, ◌<◌, ◌-◌, ◌∙◌, Bool, Option, Some, true, if◌then◌else◌, zero, suc, ap, sym, arith}
use Rattle.ckrt_look_recording.specs.Frames.{◌>>=◌, call_within, caller_of, is_kit, rule_at}
use Rattle.ckrt_look_recording.specs.declared.frame.Frame.{Frame}
use Rattle.ckrt_look_recording.specs.declared.rule.Rule.{Rule}
use Rattle.ckrt_look_recording.specs.declared.rule.Stretch.{Stretch}
use Rattle.ckrt_look_recording.specs.declared.walk.Call.{Call}

-- what comes of a caller
abbrev onward : ℕ → List Stretch → List Rule → List ℕ → (frame caller : Frame) → Bool → Option Call
onward more kit rules bytes frame caller within =
    if within then call_within more kit rules bytes caller else Some (record { within = frame.place; from = caller.place })

-- the same of what may be a caller, or a rule
abbrev from_caller : ℕ → List Stretch → List Rule → List ℕ → Frame → Option Frame → Option Call
from_caller more kit rules bytes frame found = found >>= (λ caller. onward more kit rules bytes frame caller (is_kit kit caller.place))

abbrev from_rule : ℕ → List Stretch → List Rule → List ℕ → Frame → Option Rule → Option Call
from_rule more kit rules bytes frame found = found >>= (λ rule. from_caller more kit rules bytes frame (caller_of bytes rule frame))

step : (more : ℕ) (kit : List Stretch) (rules : List Rule) (bytes : List ℕ) (frame caller : Frame) (rule : Rule) (within : Bool) → rule_at rules frame.place ≡ Some rule → caller_of bytes rule frame ≡ Some caller
    → is_kit kit caller.place ≡ within → call_within (suc more) kit rules bytes frame ≡ onward more kit rules bytes frame caller within
step more kit rules bytes frame caller rule within found called is =
    ap (from_rule more kit rules bytes frame) found
    ∙ (ap (from_caller more kit rules bytes frame) called ∙ ap (onward more kit rules bytes frame caller) is)

less_one : (more : ℕ) → more ≡ suc more - 1
less_one more = omega arith

-- a caller that is the kit's
pub goes_on : (left : ℕ) (kit : List Stretch) (rules : List Rule) (bytes : List ℕ) (frame caller : Frame) (rule : Rule) → 0 < left → rule_at rules frame.place ≡ Some rule → caller_of bytes rule frame ≡ Some caller
    → is_kit kit caller.place ≡ true → call_within (left - 1) kit rules bytes caller ≡ call_within left kit rules bytes frame
goes_on zero kit rules bytes frame caller rule some found called within = absurd (omega (arith, some))
goes_on (suc more) kit rules bytes frame caller rule some found called within =
    ap (λ (n : ℕ). call_within n kit rules bytes caller) (sym (less_one more))
    ∙ sym (step more kit rules bytes frame caller rule true found called within)
