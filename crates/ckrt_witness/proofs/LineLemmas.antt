-- Lines of output that goes on.
use Rattle.std.proofs.Common.{◌≡◌, ◌∙◌, ℕ, zero, suc, ◌+◌, ◌≤◌, ◌<◌, List, [], ◌∷◌, ◌++◌, length, take, drop, refl, sym, ap, arith, append-nil, length-append}
use Rattle.std.proofs.lemmas.List.{length-drop, length-take-le, take_all}
use Rattle.ckrt_disk.specs.declared.disk.Disk.{Ghosts}
use Rattle.ckrt_events.specs.declared.event.Event.{Event}
use Rattle.ckrt_machine.specs.Events.{fold, output_of}
use Rattle.ckrt_machine.specs.Steps.{State}
use Rattle.ckrt_recovery.specs.Between.{StandsIn}
use Rattle.ckrt_recovery.specs.Represents.{Represents}
use Rattle.ckrt_recovery.specs.declared.session.Session.{Session}
use Rattle.ckrt_stored.specs.Programs.{Program, output_after, start_of, state_after}
use Rattle.ckrt_witness.specs.Lines.{LinesWitness}

joined : (n : ℕ) (l : List ℕ) → l ≡ take n l ++ (drop n l ++ [])
joined zero l = sym (append-nil l)
joined (suc n) [] = refl
joined (suc n) (x ∷ l) = ap (λ (m : List ℕ). x ∷ m) (joined n l)

-- the bytes of an output from an offset on stand in it
stands_from : (n : ℕ) (out : List ℕ) → n ≤ length out → StandsIn out (n, drop n out)
stands_from n out inside = (take n out, [], length-take-le n out inside, joined n out)

some_from : (n : ℕ) (out : List ℕ) → n < length out → 0 < length (drop n out)
some_from n out inside = omega (arith, length-drop n out, inside)

module _ {D : Type 0} {g : Ghosts D} (p : Program) where
  -- where all events are acknowledged all of their output is released
  all_released : (es : List Event) (s : Session D g) → Represents p es s → s.acknowledged ≡ s.progress.count → s.released ≡ length (output_after p es)
  all_released es s reps all = reps.released ∙ ap (λ (l : List Event). length (output_after p l)) (take_all s.acknowledged es (omega (arith, all, reps.count)))

  pub lines_met : ((es more : List Event) (x : State) → output_of (es ++ more) x ≡ output_of es x ++ output_of more (fold es x).state) → (es more : List Event) (s t : Session D g) → Represents p es s → s.acknowledged ≡ s.progress.count
      → Represents p (es ++ more) t → t.acknowledged ≡ t.progress.count → s.progress.confirmed < s.released → s.released < t.released → LinesWitness p
  lines_met goes_on es more s t one all other also_all some_more =
      let n = s.progress.confirmed in
      let out = output_after p es in
      let rest = output_of more (state_after p es) in
      let whole : output_after p (es ++ more) ≡ out ++ rest = goes_on es more (start_of p) in
      let first : s.released ≡ length out = all_released es s one all in
      let second : t.released ≡ length (out ++ rest) = all_released (es ++ more) t other also_all ∙ ap length whole in
      λ longer. record {
        events = es;
        more = more;
        goes_on = λ none. omega (arith, longer, first, second, length-append out rest, ap length none);
        line = (n, drop n out);
        stands = stands_from n out (omega (arith, some_more, first));
        other = (n, drop n (out ++ rest));
        stands_on = stands_from n (out ++ rest) (omega (arith, some_more, longer, second));
        place = 0;
        inside = some_from n out (omega (arith, some_more, first));
        other_place = 0;
        other_inside = some_from n (out ++ rest) (omega (arith, some_more, longer, second));
        one_offset = refl;
      }
