-- The commands of a life up to one, and the next.
use Rattle.std.proofs.Common.{◌≡◌, ℕ, ◌<◌, ◌+◌, true, false, List, [], ◌∷◌, ◌++◌, length, take, drop, get_or, None, Ok, sym, ◌∙◌, ap, subst}
use Rattle.std.proofs.lemmas.List.{take_more, take-append-drop}
use Rattle.ckrt_disk.specs.declared.disk.Disk.{Ghosts}
use Rattle.ckrt_events.specs.declared.command.Command.{Command}
use Rattle.ckrt_recovery.specs.declared.session.Session.{Session}
use Rattle.ckrt_recovery.specs.View.{View, view_of}
use Rattle.ckrt_main.specs.Transcript.{Transcript, respond}
use Rattle.ckrt_main.specs.Commands.{respond_to}
use Rattle.ckrt_main.specs.LifePieces.{Does}
use Rattle.ckrt_main.proofs.LifePieceLemmas.{does_more}
use Rattle.ckrt_main.proofs.TranscriptLemmas.{respond_to-push, respond_to-push_quit, respond_to-quit}

-- the commands before the i-th
abbrev pub front : List Command → View → ℕ → Transcript
front commands v i = respond_to (take i commands) None v

next_is : (commands : List Command) (i : ℕ) (command : Command) → i < length commands → command ≡ get_or commands i command → take (i + 1) commands ≡ take i commands ++ command ∷ []
next_is commands i command lt is = take_more commands i command lt ∙ ap (λ (c : Command). take i commands ++ c ∷ []) (sym is)

pub quits_next : (commands : List Command) (v : View) (i : ℕ) (command : Command) (w : View) → i < length commands → command ≡ get_or commands i command → (front commands v i).quit ≡ false → (front commands v (i + 1)).quit ≡ (respond (Ok command) None w).quit
quits_next commands v i command w lt is goes = ap (λ (l : List Command). (respond_to l None v).quit) (next_is commands i command lt is) ∙ respond_to-push_quit (take i commands) command None None v w goes

module _ {D : Type 0} {g : Ghosts D} where
  pub does_next : (commands : List Command) (v : View) (i : ℕ) (command : Command) (x y z : List ℕ) (s m u : Session D g) → i < length commands → command ≡ get_or commands i command → (front commands v i).quit ≡ false
      → Does (front commands v i) x y s m → Does (respond (Ok command) None (view_of m)) y z m u → Does (front commands v (i + 1)) x z s u
  does_next commands v i command x y z s m u lt is goes first second = subst (λ (t : Transcript). Does t x z s u)
      (sym (ap (λ (l : List Command). respond_to l None v) (next_is commands i command lt is) ∙ respond_to-push (take i commands) command None v))
      (does_more (front commands v i) (respond (Ok command)) x y z s m u goes first second)

  -- behind a quit there is nothing
  pub does_quit : (commands : List Command) (v : View) (i : ℕ) (x y : List ℕ) (s u : Session D g) → (front commands v i).quit ≡ true → Does (front commands v i) x y s u → Does (respond_to commands None v) x y s u
  does_quit commands v i x y s u quit does = subst (λ (t : Transcript). Does t x y s u)
      (sym (respond_to-quit (take i commands) (drop i commands) None v quit) ∙ ap (λ (l : List Command). respond_to l None v) (take-append-drop i commands)) does
