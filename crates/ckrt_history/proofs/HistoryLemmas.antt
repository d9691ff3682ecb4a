-- A history has one thing recorded only, and no fault beside it.
use Rattle.std.proofs.Common.{◌≡◌, inl, inr, ⊎_elim, ℕ, List, Result, Ok, Err, sym, ◌∙◌, ap, subst}
use Rattle.ckrt_journal.specs.declared.fault.JournalFault.{JournalFault}
use Rattle.ckrt_stored.specs.declared.area.Area.{Area}
use Rattle.ckrt_stored.specs.declared.config.Config.{Config}
use Rattle.ckrt_look_recording.specs.Recording.{HasInArea, Recorded, RecordsFrom}
use Rattle.ckrt_look_recording.proofs.RecordedLemmas.{records_once}
use Rattle.ckrt_history.specs.declared.fault.HistoryFault.{HistoryFault}
use Rattle.ckrt_history.specs.Front.{front_of}
use Rattle.ckrt_history.specs.History.{HasHistory, HasNoFault, IsDamagedBehind, IsRecordedOnce, long_chain, with_batches}
use Rattle.ckrt_history.proofs.FrontLemmas.{same_front}

pub same_chain : (b c : List (List ℕ)) → ◌≡◌ {A = Result (List (List ℕ)) JournalFault} (Ok b) (Ok c) → b ≡ c
same_chain b c e = cc

not_chain : (b : List (List ℕ)) (e : JournalFault) → ◌≡◌ {A = Result (List (List ℕ)) JournalFault} (Ok b) (Err e) → ⊥
not_chain b e is = absurd (cc)

not_front : (u : Config × Area) (e : HistoryFault) → ◌≡◌ {A = Result (Config × Area) HistoryFault} (Ok u) (Err e) → ⊥
not_front u e is = absurd (cc)

-- a front that was found is that of the history
pub front_once : (image : List ℕ) (c : Config) (a : Area) (r : Recorded) → front_of image ≡ Ok (c, a) → (has : HasHistory image r) → ◌≡◌ {A = Config × Area} (has.config, has.area) (c, a)
front_once image c a r front has = same_front has.config c has.area a (sym has.front ∙ front)

pub recorded_once : IsRecordedOnce
recorded_once image r s x y =
    let front : ◌≡◌ {A = Config × Area} (x.config, x.area) (y.config, y.area) = front_once image y.config y.area r y.front x in
    let begun : x.begun ≡ y.begun = records_once y.config y.area image x.begun y.begun (subst (λ (u : Config × Area). RecordsFrom u.0 u.1 image x.begun) front x.areas) y.areas in
    let chain : long_chain y.config image ≡ Ok x.batches = subst (λ (u : Config × Area). long_chain u.0 image ≡ Ok x.batches) front x.chain in
    let batches : x.batches ≡ y.batches = same_chain x.batches y.batches (sym chain ∙ y.chain) in
    x.is ∙ ap (λ (b : Recorded). with_batches x.batches b) begun ∙ ap (λ (l : List (List ℕ)). with_batches l y.begun) batches ∙ sym y.is

pub no_fault : HasNoFault
no_fault image r e has (inl front) = not_front (has.config, has.area) e (sym has.front ∙ front)
no_fault image r e has (inr fault) =
    let d : IsDamagedBehind image = fault.1 in
    let front : ◌≡◌ {A = Config × Area} (has.config, has.area) (d.config, d.area) = front_once image d.config d.area r d.front has in
    ⊎_elim (λ none. none has.areas.newer (subst (λ (u : Config × Area). HasInArea u.0 u.1 image has.areas.newer) front has.areas.has))
    (λ broken. not_chain has.batches _ (sym (subst (λ (u : Config × Area). long_chain u.0 image ≡ Ok has.batches) front has.chain) ∙ broken)) d.damaged
