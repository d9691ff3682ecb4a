-- What a session replies to a line whose event it takes.
use Rattle.std.proofs.Common.{◌≡◌, ◌≢◌, ◌∙◌, ℕ, zero, suc, ◌+◌, ◌||◌, ◌&&◌, not, Bool, true, false, List, [], ◌∷◌, ◌++◌, length, take, drop, Option, Some, None, Result, Ok, Err, refl, sym, ap, subst, arith}
use Rattle.std.proofs.lemmas.Bool.{false≢true}
use Rattle.std.specs.Prelude.{◌==◌, MatchOption, is_ok}
use Rattle.std.specs.List.{list_any}
use Rattle.std.specs.Str.Lines.{lines}
use Rattle.ckrt_main.specs.Replies.{Reply, outputs, outputs_by}
use Rattle.ckrt_main.specs.Transcript.{followed_by, respond, respond_all, submitted, transcript}
use Rattle.ckrt_events.specs.Line.{command_of}
use Rattle.ckrt_events.specs.declared.command.Command.{Command}
use Rattle.ckrt_events.specs.declared.command.Command.TheVariants.{Submit}
use Rattle.ckrt_events.specs.declared.command.LineFault.{LineFault}
use Rattle.ckrt_events.specs.declared.event.Event.{Event}
use Rattle.ckrt_main.specs.Alike.{NoneIsLocal}
use Rattle.ckrt_main.specs.Service.{is_open}
use Rattle.ckrt_main.proofs.LineLemmas.{respond-last}
use Rattle.ckrt_recovery.specs.View.{View, confirmed_to, refusal_of, released_output}
use Rattle.ckrt_recovery.specs.declared.fault.SubmitFault.{SubmitFault}

all_joined : (xs ys : List Reply) → NoneIsLocal xs → NoneIsLocal ys → NoneIsLocal (xs ++ ys)
all_joined [] ys h k = k
all_joined (x ∷ xs) ys h k = (h.0, all_joined xs ys h.1 k)

outputs_are_shared : (n offset : ℕ) (bytes : List ℕ) → NoneIsLocal (outputs_by n offset bytes)
outputs_are_shared zero offset bytes = tt
outputs_are_shared (suc n) offset bytes = (refl, outputs_are_shared n (offset + length (take 64 bytes)) (drop 64 bytes))

step_open : (t rest opened : Bool) → (t || rest) ≡ false → (rest ≡ false → opened ≡ true) → (not t && opened) ≡ true
step_open true rest opened h more = absurd (cc)
step_open false rest opened h more = more h

-- without a line feed a line is open
pub open_line : (l : List ℕ) → list_any (λ b. b == 10) l ≡ false → is_open l ≡ true
open_line [] h = refl
open_line (b ∷ bs) h = step_open (b == 10) (list_any (λ c. c == 10) bs) (is_open bs) h (open_line bs)

some_bytes : (l : List ℕ) → l ≢ [] → length l ≢ 0
some_bytes [] some none = some refl
some_bytes (x ∷ l) some none = absurd (omega (arith, none))

-- what answered Ok wasn't refused
pub none_refused : {X : Type 0} (refusal : Option SubmitFault) (x : X) (result : Result X SubmitFault) → is_ok result ≡ true → MatchOption refusal (result ≡ Ok x) (λ fault. result ≡ Err fault) → refusal ≡ None
none_refused None x result well answer = refl
none_refused (Some fault) x result well answer = absurd (false≢true (sym (ap is_ok answer) ∙ well))

-- the event of a line is taken, once all output is confirmed
pub takes_line : (v w : View) (line : List ℕ) (e : Event) → list_any (λ b. b == 10) line ≡ false → line ≢ [] → command_of line ≡ Ok (Submit e) → w ≡ confirmed_to v v.released → refusal_of w e ≡ None → NoneIsLocal (transcript None v line).replies
takes_line v w line e no_feed some command behind taken =
    let z = confirmed_to v v.released in
    let none : refusal_of z e ≡ None = ap (λ (x : View). refusal_of x e) (sym behind) ∙ taken in
    let answered : NoneIsLocal (followed_by (submitted None z e (refusal_of z e)) (respond_all [])).replies =
    subst (λ (o : Option SubmitFault). NoneIsLocal (followed_by (submitted None z e o) (respond_all [])).replies) (sym none) (refl, tt) in
    let by_command : NoneIsLocal (followed_by (respond (command_of line) None z) (respond_all [])).replies =
    subst (λ (r : Result Command LineFault). NoneIsLocal (followed_by (respond r None z) (respond_all [])).replies) (sym command) answered in
    let all : NoneIsLocal (respond_all (lines line) None z).replies =
    subst (λ (t : _). NoneIsLocal t.replies) (sym (respond-last None z line (open_line line no_feed) (some_bytes line some))) by_command in
    all_joined (outputs v.recovered.confirmed (released_output v)) (respond_all (lines line) None z).replies (outputs_are_shared _ v.recovered.confirmed (released_output v)) all
