-- What steps of a drive give to its output, one after another.
use Rattle.std.proofs.Common.{◌≡◌, ◌+◌, ◌-◌, ◌≤◌, ℕ, Bool, true, false, List, [], ◌∷◌, ◌++◌, length, take, drop, refl, sym, ◌∙◌, ap, subst, arith, append_assoc, append-nil, length-append}
use Rattle.std.specs.List.{concat}
use Rattle.std.proofs.lemmas.List.{take_all, drop_all, take-append-le, drop-append-le, drop-take, length-take, length-take-le}
use Rattle.std.proofs.lemmas.List.Folds.{concat-append}
use Rattle.std.proofs.Math.Seq.{take-add}
use Rattle.ckrt_disk.specs.declared.disk.Disk.{Ghosts}
use Rattle.ckrt_events.specs.declared.event.Event.{Event}
use Rattle.ckrt_stored.specs.Programs.{Program, output_after}
use Rattle.ckrt_recovery.specs.declared.session.Session.{Session}
use Rattle.ckrt_disk.specs.Lists.{IsBeginningOf}
use Rattle.ckrt_recovery.specs.Represents.{Represents, acknowledged_of}
use Rattle.ckrt_recovery.specs.View.{View, view_of, released_output}
use Rattle.ckrt_recovery.specs.Accepts.{Accepts}
use Rattle.ckrt_recovery.proofs.AcceptLemmas.{output_begins}
use Rattle.ckrt_disk.proofs.ListLemmas.{taken_begins}
use Rattle.ckrt_drive.specs.Output.{acknowledged_output}
use Rattle.ckrt_disk.specs.Synced.{FailsToWriteSynced, WritesSyncedOrFails}
use Rattle.ckrt_drive.specs.PutOut.{PutsAllOut, PutsOutput, between}

-- BYTES BETWEEN OFFSETS

-- those from one offset to another, and then those up to a third
between_more : (a b c : ℕ) (few all : List ℕ) → IsBeginningOf few all → a ≤ b → b ≤ c → b ≤ length few → between a b few ++ between b c all ≡ between a c all
between_more a b c few all begins ab bc short =
    let same : take b few ≡ take b all = sym (ap (take b) begins.1 ∙ take-append-le b few begins.0 short) in
    let split : b + (c - b) ≡ c = omega (arith, bc) in
    let behind : drop b (take c all) ≡ take (c - b) (drop b all) = ap (λ n. drop b (take n all)) (sym split) ∙ drop-take b (c - b) all in
    let whole : take c all ≡ take b all ++ take (c - b) (drop b all) = ap (λ n. take n all) (sym split) ∙ take-add b (c - b) all in
    let size : length all ≡ length few + length begins.0 = ap length begins.1 ∙ length-append few begins.0 in
    let front : length (take b all) ≡ b = length-take-le b all (omega (arith, size, short)) in
    ap (λ (l : List ℕ). drop a l ++ between b c all) same
    ∙ (ap (λ (l : List ℕ). drop a (take b all) ++ l) behind
    ∙ (sym (drop-append-le a (take b all) (take (c - b) (drop b all)) (omega (arith, front, ab))) ∙ ap (drop a) (sym whole)))

-- none lie between an offset and itself
between_none : (n : ℕ) (out : List ℕ) → between n n out ≡ []
between_none n out = drop_all n (take n out) (omega (arith, length-take n out))

-- those up to the end
between_end : (a b : ℕ) (out : List ℕ) → length out ≤ b → between a b out ≡ drop a out
between_end a b out le = ap (drop a) (take_all b out le)

-- the output of the first so many of some events
abbrev output_taken : Program → ℕ → List Event → List ℕ
output_taken p n events = output_after p (take n events)

-- PIECES

module _ {O : Type 0} (o : Ghosts O) where
  puts_more : (at : ℕ) (xs ys : List (List ℕ)) (a b c : O) → PutsAllOut o at xs a b → PutsAllOut o (at + length (concat xs)) ys b c → PutsAllOut o at (xs ++ ys) a c
  puts_more at [] ys a b c h k =
      let none : at + 0 ≡ at = omega arith in
      subst (λ (x : O). PutsAllOut o at ys x c) h (subst (λ n. PutsAllOut o n ys b c) none k)
  puts_more at (x ∷ xs) ys a b c (mid, put, h) k =
      let further : at + length (x ++ concat xs) ≡ at + length x + length (concat xs) = omega (arith, length-append x (concat xs)) in
      (mid, put, puts_more (at + length x) xs ys mid b c h (subst (λ n. PutsAllOut o n ys b c) further k))

  module _ {D : Type 0} {g : Ghosts D} where
    -- nothing was put out, and no more is confirmed
    pub puts_nothing : (accepted : List Event) (s t : Session D g) (a : O) → t.progress.confirmed ≡ s.progress.confirmed → PutsOutput o accepted s t a a false
    puts_nothing accepted s t a same = record {
      pieces = [];
      last = a;
      puts = refl;
      reach = omega (arith, same);
      are = λ honest p events reps. sym (ap (λ n. between s.progress.confirmed n (acknowledged_output p (events ++ accepted) t)) same ∙ between_none s.progress.confirmed (acknowledged_output p (events ++ accepted) t));
      rest = refl;
    }

    -- the output failed a call for the released bytes
    pub puts_torn : (s t : Session D g) (a b : O) (bytes : List ℕ) (failed : Bool) → view_of t ≡ view_of s → bytes ≡ released_output (view_of s) → failed ≡ true → WritesSyncedOrFails o s.progress.confirmed bytes a b failed → PutsOutput o [] s t a b true
    unfolding puts_nothing
    puts_torn s t a b bytes failed view are is put =
        let still = puts_nothing [] s t a (ap (λ (v : View). v.recovered.confirmed) view) in
        let torn : FailsToWriteSynced o s.progress.confirmed bytes a b = subst (λ f. WritesSyncedOrFails o s.progress.confirmed bytes a b f) is put in
        record {
          pieces = still.pieces;
          last = a;
          puts = still.puts;
          reach = still.reach;
          are = still.are;
          rest = subst (λ (v : View). FailsToWriteSynced o v.recovered.confirmed (released_output v) a b) (sym view) (subst (λ (l : List ℕ). FailsToWriteSynced o s.progress.confirmed l a b) are torn);
        }

    -- the released bytes were put out, and confirmed
    pub puts_released : (s t : Session D g) (a b : O) (bytes : List ℕ) (failed : Bool) → t.progress.confirmed ≡ s.released → t.acknowledged ≡ s.acknowledged → s.progress.confirmed + length bytes ≡ s.released
        → ((p : Program) (events : List Event) → Represents p events s → bytes ≡ drop s.progress.confirmed (acknowledged_output p events s))
        → failed ≡ false → WritesSyncedOrFails o s.progress.confirmed bytes a b failed → PutsOutput o [] s t a b false
    puts_released s t a b bytes failed confirmed same end output is put = record {
      pieces = bytes ∷ [];
      last = b;
      puts = (b, subst (λ f. WritesSyncedOrFails o s.progress.confirmed bytes a b f) is put, refl);
      reach = omega (arith, end, confirmed, ap length (append-nil bytes));
      are = λ honest p events reps.
          let out = acknowledged_output p events s in
          let now : acknowledged_output p (events ++ []) t ≡ out = ap (λ (l : List Event). acknowledged_output p l t) (append-nil events) ∙ ap (λ n. output_taken p n events) same in
          append-nil bytes ∙ (output p events reps
          ∙ (sym (between_end s.progress.confirmed t.progress.confirmed out (omega (arith, confirmed, reps.released))) ∙ ap (between s.progress.confirmed t.progress.confirmed) (sym now)));
      rest = refl;
    }

    -- one step after another
    pub puts_output_more : (xs ys : List Event) (s m u : Session D g) (a b c : O) (failed : Bool) → Accepts xs s m → Accepts ys m u → PutsOutput o xs s m a b false → PutsOutput o ys m u b c failed → PutsOutput o (xs ++ ys) s u a c failed
    puts_output_more xs ys s m u a b c failed first second h k = record {
      pieces = h.pieces ++ k.pieces;
      last = k.last;
      puts = puts_more s.progress.confirmed h.pieces k.pieces a h.last k.last h.puts (subst (λ (x : O). PutsAllOut o (s.progress.confirmed + length (concat h.pieces)) k.pieces x k.last) h.rest (subst (λ n. PutsAllOut o n k.pieces b k.last) (sym h.reach) k.puts));
      reach = omega (arith, h.reach, k.reach, ap length (concat-append h.pieces k.pieces), length-append (concat h.pieces) (concat k.pieces));
      are = λ honest p events reps.
          let there = first.represents (second.honest honest) p events reps in
          let few = acknowledged_output p (events ++ xs) m in
          let all = acknowledged_output p ((events ++ xs) ++ ys) u in
          let begins = output_begins p (acknowledged_of (events ++ xs) m) (acknowledged_of ((events ++ xs) ++ ys) u) (taken_begins m.acknowledged u.acknowledged (events ++ xs) ys there.acknowledged second.acknowledged) in
          concat-append h.pieces k.pieces
          ∙ (ap (λ (l : List ℕ). l ++ concat k.pieces) (h.are (second.honest honest) p events reps)
          ∙ (ap (λ (l : List ℕ). between s.progress.confirmed m.progress.confirmed few ++ l) (k.are honest p (events ++ xs) there)
          ∙ (between_more s.progress.confirmed m.progress.confirmed u.progress.confirmed few all begins first.confirmed second.confirmed (omega (arith, there.released, m.released_from))
          ∙ ap (λ (l : List Event). between s.progress.confirmed u.progress.confirmed (acknowledged_output p l u)) (append_assoc events xs ys))));
      rest = k.rest;
    }
