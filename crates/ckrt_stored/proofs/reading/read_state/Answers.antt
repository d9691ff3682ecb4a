use Rattle.std.proofs.Common.{◌≡◌, ◌⊎◌, ⊎_elim, ℕ, ◌+◌, ◌<◌, ◌^◌, true, false, cond, List, Some, Err, sym, ◌∙◌, ap, subst, rules}
use Rattle.ckrt_journal.specs.declared.journal.Journal.{Journal}
use Rattle.ckrt_machine.specs.Steps.{State}
use Rattle.ckrt_tables.specs.Decoding.{Saved}
use Rattle.ckrt_memory.specs.Marks.{Memory}
use Rattle.ckrt_stored.specs.Holds.{BothStand}
use Rattle.ckrt_stored.specs.Areas.{is_known_version}
use Rattle.ckrt_stored.specs.Layout.{memory_of}
use Rattle.ckrt_stored.specs.declared.fault.RecoverFault.TheVariants.{Damaged}
use Rattle.ckrt_stored.specs.Recovery.{is_end_in_range, unreplayed}
use Rattle.ckrt_stored.proofs.RecoverLemmas.{ok, small_journal}
use Rattle.ckrt_stored.proofs.reading.read_state.Goals as goal

pub returns-then-not-ends_in_range-clause-exact : goal.returns-then-not-ends_in_range-clause-exact
returns-then-not-ends_in_range-clause-exact g c = λ honest.
    let read = c.in-Ok.ensures.exact honest in
    let image = g.D.Disk.content c.args.disk.now in
    let config = c.args.config.now in
    let area = c.args.area.now in
    let s : Saved = record { tables = c.in-Ok.tables; held = c.in-Ok.held.items } in
    let past : is_end_in_range area s.held ≡ false = search rules in
    record {
      saved = Some s;
      decodes = read.decodes;
      gives = ap (λ b. cond b (ok (unreplayed config area (memory_of config area.index image) s)) (Err Damaged)) past;
    }

pub returns-in-Ok-clause-exact : goal.returns-in-Ok-clause-exact
returns-in-Ok-clause-exact g c = λ honest.
    let read = c.in-Ok.ensures.exact honest in
    let image = g.D.Disk.content c.args.disk.now in
    let config = c.args.config.now in
    let area = c.args.area.now in
    let memory = c.in-Ok.memory in
    let s : Saved = record { tables = c.in-Ok.tables; held = c.in-Ok.held.items } in
    let within : is_end_in_range area s.held ≡ true = search rules in
    record {
      saved = Some s;
      decodes = read.decodes;
      gives = ap (λ b. cond b (ok (unreplayed config area (memory_of config area.index image) s)) (Err Damaged)) within
          ∙ ap (λ (m : List _). ok (unreplayed config area m s)) (sym read.pages)
          ∙ ap (λ (j : Journal). ok (record (unreplayed config area memory.bytes s) { journal = j })) (sym c.journal_of.ensures)
          ∙ ap (λ (x : State). ok (record (unreplayed config area memory.bytes s) { journal = c.journal_of.result; state = x })) (sym c.from_parts.ensures.state);
    }

pub returns-in-Ok-clause-pages : goal.returns-in-Ok-clause-pages
returns-in-Ok-clause-pages g c = λ honest.
    subst (λ (m : Memory). BothStand c.args.config.now m (g.D.Disk.content c.args.disk.now)) (sym c.from_parts.ensures.memory) (c.in-Ok.ensures.pages honest)

-- the fields of the state one by one
pub invariant_of-result-clause-valid : goal.invariant_of-result-clause-valid
invariant_of-result-clause-valid g c = search rules

pub invariant_of-result-clause-small : goal.invariant_of-result-clause-small
invariant_of-result-clause-small g c =
    subst (λ (j : Journal). j.at + j.size < 2 ^ 64) (sym c.journal_of.ensures) (small_journal c.args.config.now c.args.area.now.index c.requires.valid c.requires.picked.index)

known_of : (version : ℕ) → (version ≡ 1) ⊎ (version ≡ 2) → is_known_version version ≡ true
known_of version = ⊎_elim (λ one. ap is_known_version one) (λ two. ap is_known_version two)

pub invariant_of-result-clause-known_version : goal.invariant_of-result-clause-known_version
invariant_of-result-clause-known_version g c =
    subst (λ (j : Journal). is_known_version j.version ≡ true) (sym c.journal_of.ensures) (known_of _ c.requires.picked.version)
