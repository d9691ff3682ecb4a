use Rattle.std.proofs.Common.{◌≡◌, refl, sym, ap, ◌∙◌, rules}
use Rattle.std.specs.List.{list_all}
use Rattle.ckrt_thread.specs.State.{is_proper_slot}
use Rattle.ckrt_tables.specs.Savable.{is_byte, fit_keys, fits_slot, fits_wait, fits_mutex, fits_barrier, fits_rwlock}
use Rattle.ckrt_tables.proofs.AllFit.{all_true, all_of_two, proper_slots, harts_fit}
use Rattle.ckrt_tables.proofs.fitting.known_savable.Goals as goal

pub known_all-requires : goal.known_all-requires
known_all-requires c = ap (list_all is_proper_slot) c.slots.ensures.slots ∙ proper_slots c.args.tables.now.threads c.requires.well_formed.threads

pub known_all-requires-2 : goal.known_all-requires-2
known_all-requires-2 c = all_true c.as_slice.result.now

pub known_all-requires-4 : goal.known_all-requires-4
known_all-requires-4 c = all_true c.rows-2.result.now

pub returns : goal.returns
returns c =
    let s = c.args.tables.now in
    let rows : s.mutexes ≡ c.as_slice-2.result.now = search rules in
    record {
      well_formed = c.requires.well_formed;
      fit = record {
        clock = search rules;
        status = c.known_status.ensures;
        harts = harts_fit s.threads c.requires.well_formed.threads;
        threads = ap (list_all fits_slot) (sym c.slots.ensures.slots) ∙ c.known_all.ensures;
        waits = ap (list_all fits_wait) (sym (c.as_slice.ensures.value ∙ c.waits.ensures)) ∙ c.known_all-2.ensures;
        keys = ap fit_keys (sym c.keys.ensures) ∙ c.known_keys.ensures;
        mutexes = ap (list_all fits_mutex) rows ∙ c.known_all-3.ensures;
        barriers = ap (list_all fits_barrier) (sym c.rows-2.ensures) ∙ c.known_all-4.ensures;
        rwlocks = ap (list_all fits_rwlock) (sym c.rows-3.ensures) ∙ c.known_all-5.ensures;
        input = all_of_two is_byte c.as_slices.result.0.now c.as_slices.result.1.now s.input c.as_slices.ensures.bytes c.known_bytes.ensures c.known_bytes-2.ensures;
      };
      said = c.requires.said;
      hart_count = refl;
      is_held = c.requires.held;
      held_bytes = all_of_two is_byte c.as_slices-2.result.0.now c.as_slices-2.result.1.now c.args.held.now.items c.as_slices-2.ensures c.known_bytes-3.ensures c.known_bytes-4.ensures;
    }
