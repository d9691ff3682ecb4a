-- Lives that released a byte at one offset released the same byte.
use Rattle.std.proofs.Common.{◌≡◌, inl, inr, ⊎_elim, ℕ, zero, suc, ◌<◌, ◌+◌, ◌-◌, List, [], ◌∷◌, length, get_or, Some, Option, refl, sym, ◌∙◌, ap, subst, arith, length-drop, length-take-le, get_or-drop}
use Rattle.std.specs.Prelude.{slice_get, slice_index}
use Rattle.std.proofs.lemmas.List.{get_or_append_left}
use Rattle.std.proofs.lemmas.Bool.Decides.{leb_tells}
use Rattle.ckrt_events.specs.declared.event.Event.{Event}
use Rattle.ckrt_machine.specs.Events.{output_of}
use Rattle.ckrt_stored.specs.Programs.{RecoversToStart, Program, start_of, state_after, output_after}
use Rattle.ckrt_stored.proofs.ReplayLemmas.{output-append}
use Rattle.ckrt_main.specs.declared.life.Life.{Life}
use Rattle.ckrt_main.specs.declared.life.LifeReport.{LifeReport}
use Rattle.ckrt_disk.specs.Lists.{IsBeginningOf}
use Rattle.ckrt_main.specs.Lives.{HasRecovered, IsLife, AreLivesFrom, AreSameBytes, Releases, acknowledged_in}
use Rattle.ckrt_disk.proofs.ListLemmas.{begins_taken}
use Rattle.ckrt_main.proofs.ManyLemmas.{durable_all}

-- a life of the list, with its own
record LifeAt (p : Program) (report : LifeReport) (lists : List (List Event)) (i : ℕ) : Type 0 where
  life : Life
  image : List ℕ
  before : List Event
  events : List Event
  at : slice_get lists i ≡ Some events
  is : IsLife p life report image before events

life_at : (p : Program) (image : List ℕ) (before : List Event) (lives : List Life) (reports : List LifeReport) (lists : List (List Event)) → AreLivesFrom p image before lives reports lists → (i : ℕ) (report : LifeReport) → slice_get reports i ≡ Some report → LifeAt p report lists i
life_at p image before [] [] [] are i report at = absurd (cc)
life_at p image before [] [] (es ∷ lists) are i report at = absurd are
life_at p image before [] (r ∷ reports) lists are i report at = absurd are
life_at p image before (l ∷ lives) [] lists are i report at = absurd are
life_at p image before (l ∷ lives) (r ∷ reports) [] are i report at = absurd are
life_at p image before (l ∷ lives) (r ∷ reports) (es ∷ lists) are zero report at =
    let same : r ≡ report = cc in
    record { life = l; image = image; before = before; events = es; at = refl; is = subst (λ (x : LifeReport). IsLife p l x image before es) same are.0 }
life_at p image before (l ∷ lives) (r ∷ reports) (es ∷ lists) are (suc i) report at =
    let rest = life_at p r.left.items es lives reports lists are.1 i report at in
    record { life = rest.life; image = rest.image; before = rest.before; events = rest.events; at = rest.at; is = rest.is }

-- a life that released a byte recovered
did_recover : (p : Program) (life : Life) (report : LifeReport) (image : List ℕ) (before events : List Event) (offset byte : ℕ) → IsLife p life report image before events → Releases report offset byte → HasRecovered p life report image before events
did_recover p life report image before events offset byte is byte_at = ⊎_elim
    (λ (none : _). absurd (omega (arith, byte_at.from, byte_at.to, ap length none.1.released)))
    (λ (some : _). some.1)
    is

-- the byte is that of the plain fold's output
byte_of : (p : Program) (life : Life) (report : LifeReport) (image : List ℕ) (before events : List Event) (offset byte : ℕ) (h : HasRecovered p life report image before events) → Releases report offset byte
    → (offset < length (output_after p (acknowledged_in report events))) × (get_or (output_after p (acknowledged_in report events)) offset 0 ≡ byte)
byte_of p life report image before events offset byte h byte_at =
    let out = output_after p (acknowledged_in report events) in
    let size : length report.released.items ≡ length out - report.released_from = ap length h.released ∙ length-drop report.released_from out in
    let place : report.released_from + (offset - report.released_from) ≡ offset = omega (arith, byte_at.from) in (
      omega (arith, size, h.within, byte_at.to),
      ap (λ n. get_or out n 0) (sym place) ∙ (sym (get_or-drop report.released_from out (offset - report.released_from) 0) ∙ (ap (λ (l : List ℕ). get_or l (offset - report.released_from) 0) (sym h.released) ∙ byte_at.is)),
    )

-- more events keep the bytes
byte_kept : (p : Program) (few all : List Event) (offset : ℕ) → IsBeginningOf few all → offset < length (output_after p few) → get_or (output_after p all) offset 0 ≡ get_or (output_after p few) offset 0
byte_kept p few all offset h lt =
    ap (λ (l : List Event). get_or (output_after p l) offset 0) h.1
    ∙ (ap (λ (l : List ℕ). get_or l offset 0) (output-append few h.0 (start_of p)) ∙ get_or_append_left (output_after p few) (output_of h.0 (state_after p few)) 0 offset lt)

module _ (p : Program) (image : List ℕ) (lives : List Life) (reports : List LifeReport) (lists : List (List Event)) (starts : RecoversToStart p image) (are : AreLivesFrom p image [] lives reports lists) where
  in_order : (i j offset x y : ℕ) (a b : LifeReport) → i < j → slice_get reports i ≡ Some a → slice_get reports j ≡ Some b → Releases a offset x → Releases b offset y → x ≡ y
  in_order i j offset x y a b lt at_i at_j first second =
      let k = life_at p image [] lives reports lists are i a at_i in
      let l = life_at p image [] lives reports lists are j b at_j in
      let h = did_recover p k.life a k.image k.before k.events offset x k.is first in
      let m = did_recover p l.life b l.image l.before l.events offset y l.is second in
      let d = durable_all p image lives reports lists starts are i j m.opening.count a b k.events l.events lt at_i k.at at_j l.at m.recovered in
      let size : length (acknowledged_in a k.events) ≡ a.acknowledged = length-take-le a.acknowledged k.events h.acknowledged in
      let begins : IsBeginningOf (acknowledged_in a k.events) (acknowledged_in b l.events) = begins_taken b.acknowledged (acknowledged_in a k.events) l.events (omega (arith, size, d.0, m.at_least)) d.1 in
      let few = byte_of p k.life a k.image k.before k.events offset x h first in
      let all = byte_of p l.life b l.image l.before l.events offset y m second in
      sym few.1 ∙ (sym (byte_kept p (acknowledged_in a k.events) (acknowledged_in b l.events) offset begins few.0) ∙ all.1)

  same_report : (i j offset x y : ℕ) (a b : LifeReport) → i ≡ j → slice_get reports i ≡ Some a → slice_get reports j ≡ Some b → Releases a offset x → Releases b offset y → x ≡ y
  same_report i j offset x y a b same at_i at_j first second =
      let both : slice_get reports j ≡ Some a = subst (λ n. slice_get reports n ≡ Some a) same at_i in
      let e : a ≡ b = same_some a b (sym both ∙ at_j) in
      sym first.is ∙ (ap (λ (r : LifeReport). slice_index r.released.items (offset - r.released_from)) e ∙ second.is)
    where
      same_some : (x y : LifeReport) → ◌≡◌ {A = Option LifeReport} (Some x) (Some y) → x ≡ y
      same_some x y e = cc

  pub same_bytes : AreSameBytes reports
  same_bytes i j offset x y a b at_i at_j first second = elim (leb_tells (i + 1) j) [
    | inl lt ↦ in_order i j offset x y a b (omega (arith, lt.1)) at_i at_j first second
    | inr ge ↦ elim (leb_tells (j + 1) i) [
      | inl gt ↦ sym (in_order j i offset y x b a (omega (arith, gt.1)) at_j at_i second first)
      | inr le ↦ same_report i j offset x y a b (omega (arith, ge.1, le.1)) at_i at_j first second
    ]
  ]
