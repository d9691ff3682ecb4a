-- Lives one after another.
use Rattle.std.proofs.Common.{◌≡◌, ⊎_elim, ℕ, zero, suc, ◌≤◌, ◌<◌, List, [], ◌∷◌, ◌++◌, length, take, Some, None, Option, refl, sym, ◌∙◌, ap, subst, arith, length-take-le}
use Rattle.std.specs.Prelude.{slice_get}
use Rattle.ckrt_events.specs.declared.event.Event.{Event}
use Rattle.ckrt_stored.specs.Programs.{RecoversToStart, Program, RecoversTo, formatted}
use Rattle.ckrt_stored.specs.Recovery.{Recovered}
use Rattle.ckrt_stored.proofs.RecoverLemmas.{recovered_once}
use Rattle.ckrt_main.specs.declared.life.Life.{Life}
use Rattle.ckrt_main.specs.declared.life.LifeReport.{LifeReport}
use Rattle.ckrt_disk.specs.Lists.{IsBeginningOf}
use Rattle.ckrt_main.specs.Lives.{HasRecovered, HasNotRecovered, IsLife, AreLives, AreLivesFrom, AreDurable, acknowledged_in, released_to}
use Rattle.ckrt_main.specs.LifePieces.{Stands, last_left, last_list, LivedSoFar}
use Rattle.ckrt_disk.proofs.ListLemmas.{begins_itself, begins_taken, begins_through, fewer_begin}

-- AFTER ONE LIFE

-- What a life that began at an image of n events of a list left: what it recovers to holds these events, and those that the life acknowledged.
pub record GoesOn (p : Program) (report : LifeReport) (n : ℕ) (before events : List Event) : Type 0 where
  pub stands : Stands p report.left.items events
  pub grown : n ≤ stands.many
  pub kept : IsBeginningOf (take n before) (take stands.many events)
  pub acknowledged : report.acknowledged ≤ stands.many

pub begun_count : (p : Program) (life : Life) (report : LifeReport) (image : List ℕ) (before events : List Event) (s : Stands p image before) → (h : HasRecovered p life report image before events) → h.opening.count ≡ s.many
begun_count p life report image before events s h =
    let same : s.to.recovered ≡ h.opening = recovered_once image s.to.recovered h.opening s.to.recovers h.recovers in
    sym (ap (λ (r : Recovered). r.count) same) ∙ (s.to.has_events.count ∙ length-take-le s.many before s.among)

pub list_begins : (p : Program) (life : Life) (report : LifeReport) (image : List ℕ) (before events : List Event) (s : Stands p image before) → HasRecovered p life report image before events → IsBeginningOf (take s.many before) events
list_begins p life report image before events s h =
    let count = begun_count p life report image before events s h in
    (h.accepted, h.list ∙ ap (λ (k : ℕ). take k before ++ h.accepted) count)

pub life_goes_on : (p : Program) (life : Life) (report : LifeReport) (image : List ℕ) (before events : List Event) (s : Stands p image before) → IsLife p life report image before events → GoesOn p report s.many before events
life_goes_on p life report image before events s is = ⊎_elim
    (λ (none : _).
    let h = none.1 in
    record {
      stands = record {
        many = s.many;
        among = subst (λ (l : List Event). s.many ≤ length l) (sym h.list) s.among;
        limit = s.limit;
        to = subst (λ (l : List Event). RecoversTo p (take s.many l) s.limit report.left.items) (sym h.list) (subst (λ (l : List ℕ). RecoversTo p (take s.many before) s.limit l) (sym h.left) s.to);
      };
      grown = omega arith;
      kept = subst (λ (l : List Event). IsBeginningOf (take s.many before) (take s.many l)) (sym h.list) (begins_itself (take s.many before));
      acknowledged = omega (arith, h.acknowledged);
    })
    (λ (some : _).
    let h = some.1 in
    let count = begun_count p life report image before events s h in
    let le : s.many ≤ h.many = omega (arith, count, h.at_least, h.holds) in
    record {
      stands = record { many = h.many; among = h.no_more; limit = released_to report; to = h.left };
      grown = le;
      kept = begins_taken h.many (take s.many before) events (omega (arith, length-take-le s.many before s.among, le)) (list_begins p life report image before events s h);
      acknowledged = h.holds;
    })
    is

-- EVERY LATER LIFE

same_some : {A : Type 0} (x y : A) → ◌≡◌ {A = Option A} (Some x) (Some y) → x ≡ y
same_some x y e = cc

has_not : (life : Life) (report : LifeReport) (image : List ℕ) (before events : List Event) (m : ℕ) → HasNotRecovered report image before events → report.recovered ≡ Some m → ⊥
has_not life report image before events m h is = let no : ◌≡◌ {A = Option ℕ} None (Some m) = sym h.recovered ∙ is in absurd (cc)

-- a life that recovered from the image
first_later : (p : Program) (life : Life) (report : LifeReport) (image : List ℕ) (before events : List Event) (s : Stands p image before) (m : ℕ) → IsLife p life report image before events → report.recovered ≡ Some m → (s.many ≤ m) × IsBeginningOf (take s.many before) events
first_later p life report image before events s m is recovered = ⊎_elim
    (λ (none : _). absurd (has_not life report image before events m none.1 recovered))
    (λ (some : _).
    let h = some.1 in
    let count = begun_count p life report image before events s h in
    let number : h.opening.count ≡ m = same_some h.opening.count m (sym h.recovered ∙ recovered) in
    (omega (arith, count, number), list_begins p life report image before events s h))
    is

pub later : (p : Program) (image : List ℕ) (before : List Event) (lives : List Life) (reports : List LifeReport) (lists : List (List Event)) → AreLivesFrom p image before lives reports lists → (s : Stands p image before)
    → (j m : ℕ) (report : LifeReport) (events : List Event) → slice_get reports j ≡ Some report → slice_get lists j ≡ Some events → report.recovered ≡ Some m → (s.many ≤ m) × IsBeginningOf (take s.many before) events
later p image before [] [] [] are s j m report events at in_list recovered = absurd (cc)
later p image before [] [] (es ∷ lists) are s j m report events at in_list recovered = absurd are
later p image before [] (r ∷ reports) lists are s j m report events at in_list recovered = absurd are
later p image before (l ∷ lives) [] lists are s j m report events at in_list recovered = absurd are
later p image before (l ∷ lives) (r ∷ reports) [] are s j m report events at in_list recovered = absurd are
later p image before (l ∷ lives) (r ∷ reports) (es ∷ lists) are s zero m report events at in_list recovered =
    let same_report : r ≡ report = same_some r report at in
    let same_list : es ≡ events = same_some es events in_list in
    subst (λ (x : List Event). (s.many ≤ m) × IsBeginningOf (take s.many before) x) same_list
    (first_later p l r image before es s m are.0 (ap (λ (x : LifeReport). x.recovered) same_report ∙ recovered))
later p image before (l ∷ lives) (r ∷ reports) (es ∷ lists) are s (suc j) m report events at in_list recovered =
    let on = life_goes_on p l r image before es s are.0 in
    let rest = later p r.left.items es lives reports lists are.1 on.stands j m report events at in_list recovered in
    (omega (arith, on.grown, rest.0), begins_through (take s.many before) (take on.stands.many es) events on.kept rest.1)

pub durable : (p : Program) (image : List ℕ) (before : List Event) (lives : List Life) (reports : List LifeReport) (lists : List (List Event)) → AreLivesFrom p image before lives reports lists → Stands p image before
    → (i j n : ℕ) (earlier more : LifeReport) (few all : List Event) → i < j
    → slice_get reports i ≡ Some earlier → slice_get lists i ≡ Some few → slice_get reports j ≡ Some more → slice_get lists j ≡ Some all
    → more.recovered ≡ Some n → (earlier.acknowledged ≤ n) × IsBeginningOf (acknowledged_in earlier few) all
durable p image before [] [] [] are s i j n earlier more few all lt a b c d recovered = absurd (cc)
durable p image before [] [] (es ∷ lists) are s i j n earlier more few all lt a b c d recovered = absurd are
durable p image before [] (r ∷ reports) lists are s i j n earlier more few all lt a b c d recovered = absurd are
durable p image before (l ∷ lives) [] lists are s i j n earlier more few all lt a b c d recovered = absurd are
durable p image before (l ∷ lives) (r ∷ reports) [] are s i j n earlier more few all lt a b c d recovered = absurd are
durable p image before (l ∷ lives) (r ∷ reports) (es ∷ lists) are s i zero n earlier more few all lt a b c d recovered = absurd (omega (arith, lt))
durable p image before (l ∷ lives) (r ∷ reports) (es ∷ lists) are s zero (suc j) n earlier more few all lt a b c d recovered =
    let same_report : r ≡ earlier = same_some r earlier a in
    let same_list : es ≡ few = same_some es few b in
    let on = life_goes_on p l r image before es s are.0 in
    let rest = later p r.left.items es lives reports lists are.1 on.stands j n more all c d recovered in
    subst (λ (x : LifeReport). (x.acknowledged ≤ n) × IsBeginningOf (acknowledged_in x few) all) same_report
    (subst (λ (x : List Event). (r.acknowledged ≤ n) × IsBeginningOf (acknowledged_in r x) all) same_list
    (omega (arith, on.acknowledged, rest.0), begins_through (acknowledged_in r es) (take on.stands.many es) all (fewer_begin r.acknowledged on.stands.many es on.acknowledged) rest.1))
durable p image before (l ∷ lives) (r ∷ reports) (es ∷ lists) are s (suc i) (suc j) n earlier more few all lt a b c d recovered =
    let on = life_goes_on p l r image before es s are.0 in
    durable p r.left.items es lives reports lists are.1 on.stands i j n earlier more few all (omega (arith, lt)) a b c d recovered

-- ONE LIFE MORE

pub lives_push : (p : Program) (image : List ℕ) (before : List Event) (lives : List Life) (reports : List LifeReport) (lists : List (List Event)) (life : Life) (report : LifeReport) (events : List Event)
    → AreLivesFrom p image before lives reports lists → IsLife p life report (last_left image reports) (last_list before lists) events → AreLivesFrom p image before (lives ++ life ∷ []) (reports ++ report ∷ []) (lists ++ events ∷ [])
lives_push p image before [] [] [] life report events are is = (is, tt)
lives_push p image before [] [] (es ∷ lists) life report events are is = absurd are
lives_push p image before [] (r ∷ reports) lists life report events are is = absurd are
lives_push p image before (l ∷ lives) [] lists life report events are is = absurd are
lives_push p image before (l ∷ lives) (r ∷ reports) [] life report events are is = absurd are
lives_push p image before (l ∷ lives) (r ∷ reports) (es ∷ lists) life report events are is = (are.0, lives_push p r.left.items es lives reports lists life report events are.1 is)

left_push : (image : List ℕ) (reports : List LifeReport) (report : LifeReport) → last_left image (reports ++ report ∷ []) ≡ report.left.items
left_push image [] report = refl
left_push image (r ∷ reports) report = left_push r.left.items reports report

list_push : (before : List Event) (lists : List (List Event)) (events : List Event) → last_list before (lists ++ events ∷ []) ≡ events
list_push before [] events = refl
list_push before (es ∷ lists) events = list_push es lists events

-- the lives with one more
pub so_far_push : (p : Program) (formatted : List ℕ) (lives : List Life) (reports : List LifeReport) (image : List ℕ) (life : Life) (report : LifeReport) (so_far : LivedSoFar p formatted lives reports image)
    → (events : List Event) × IsLife p life report image (last_list [] so_far.lists) events → LivedSoFar p formatted (lives ++ life ∷ []) (reports ++ report ∷ []) report.left.items
so_far_push p formatted lives reports image life report so_far next =
    let events = next.0 in
    let on = life_goes_on p life report image (last_list [] so_far.lists) events so_far.stands next.1 in
    record {
      lists = so_far.lists ++ events ∷ [];
      each = lives_push p formatted [] lives reports so_far.lists life report events so_far.each (subst (λ (l : List ℕ). IsLife p life report l (last_list [] so_far.lists) events) so_far.left next.1);
      left = sym (left_push formatted reports report);
      stands = subst (λ (l : List Event). Stands p report.left.items l) (sym (list_push [] so_far.lists events)) on.stands;
    }

-- no event yet
pub stands_formatted : (p : Program) (image : List ℕ) → RecoversToStart p image → Stands p image []
stands_formatted p image is = record {
  many = 0;
  among = omega arith;
  limit = 0;
  to = record {
    recovered = formatted p;
    recovers = is;
    has_events = record { config = refl; accepted = tt; count = refl; state = refl; held = refl; within = omega arith };
    held_from = omega arith;
  };
}

pub so_far_start : (p : Program) (image : List ℕ) → RecoversToStart p image → LivedSoFar p image [] [] image
so_far_start p image is = record { lists = []; each = tt; left = refl; stands = stands_formatted p image is }

pub durable_all : (p : Program) (image : List ℕ) (lives : List Life) (reports : List LifeReport) (lists : List (List Event)) → RecoversToStart p image → AreLivesFrom p image [] lives reports lists → AreDurable reports lists
durable_all p image lives reports lists is are i j n earlier more few all lt a b c d recovered = durable p image [] lives reports lists are (stands_formatted p image is) i j n earlier more few all lt a b c d recovered

pub all_lived : (p : Program) (image : List ℕ) (some all : List Life) (reports : List LifeReport) (left : List ℕ) → some ≡ all → RecoversToStart p image → LivedSoFar p image some reports left → AreLives p all reports
all_lived p image some all reports left same is so_far = subst (λ (l : List Life). AreLives p l reports) same (record {
  formatted = image;
  starts = is;
  lists = so_far.lists;
  each = so_far.each;
  durable = durable_all p image some reports so_far.lists is so_far.each;
})
