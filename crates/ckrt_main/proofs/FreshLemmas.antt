-- What recovery finds on a disk that was just formatted.
use Rattle.std.proofs.Common.{⊎_elim, ◌⊎◌, Bool, true, false, None, refl, ◌≡◌, ◌-◌, ◌∙◌, ℕ, List, [], Ok, Err, Result, Option, sym, ap, subst, arith}
use Rattle.std.specs.Prelude.{OnOk}
use Rattle.ckrt_disk.specs.Disk.{HasFailed}
use Rattle.ckrt_disk.specs.declared.disk.Disk.{Ghosts}
use Rattle.ckrt_stored.specs.declared.config.Config.{Config}
use Rattle.ckrt_stored.specs.declared.fault.RecoverFault.{RecoverFault}
use Rattle.ckrt_stored.specs.declared.fault.RecoverFault.TheVariants.{NotFormatted, Version, Damaged, Device, OutOfMemory}
use Rattle.ckrt_stored.specs.Reads.{is_device}
use Rattle.ckrt_recovery.specs.declared.session.Session.{Session}
use Rattle.ckrt_stored.specs.Progress.{recovered_of}
use Rattle.ckrt_stored.specs.Format.{IsFormatted}
use Rattle.ckrt_stored.specs.Recovery.{AgreesOnFault, Recovered, Recovers}
use Rattle.ckrt_stored.specs.Programs.{Program, formatted, formatted_program}
use Rattle.ckrt_stored.proofs.RecoverLemmas.{recovered_once, recovers_once}
use Rattle.ckrt_recovery.specs.View.{View, view_of, opened, fresh}
use Rattle.ckrt_main.specs.Transcript.{transcript, view_after}
use Rattle.ckrt_main.specs.Service.{Processes, Served, ServedPart, Shows}
use Rattle.ckrt_disk.proofs.WriteLemmas.{Appends-nothing}
use Rattle.ckrt_main.proofs.ProcessLemmas.{consumes_nothing}

-- a session that was opened over such a disk
pub view_of_fresh : {D : Type 0} {g : Ghosts D} (config : Config) (image : List ℕ) (s : Session D g) (content : List ℕ) → IsFormatted config image content → Recovers content (Ok (recovered_of s.progress))
    → view_of s ≡ opened (recovered_of s.progress) → view_of s ≡ fresh config image
view_of_fresh config image s content is found_by view =
    let p : Program = formatted_program config image in
    view ∙ ap opened (recovered_once content (recovered_of s.progress) (formatted p) found_by is.recovers)

-- a disk that never fails counts no failure
pub none_failed : ¬ HasFailed 0 0
none_failed h = ⊎_elim (λ (lt : _). omega (arith, lt)) (λ (le : _). omega (arith, le)) h

no_fault : (config : Config) (image content : List ℕ) (fault : RecoverFault) → IsFormatted config image content → Recovers content (Err fault) → ⊥
no_fault config image content fault is found =
    let both : ◌≡◌ {A = Result Recovered RecoverFault} (Ok (formatted (formatted_program config image))) (Err fault) = recovers_once content _ _ is.recovers found in
    absurd (cc)

-- and nothing but want of memory keeps it from being recovered
pub only_memory : (config : Config) (image content : List ℕ) (fault : RecoverFault) → IsFormatted config image content → AgreesOnFault fault (Recovers content) → (is_device {X = Unit {0}} (Err fault) ≡ true → ⊥) → (fault ≡ OutOfMemory → ⊥) → ⊥
only_memory config image content NotFormatted is found device memory = no_fault config image content NotFormatted is found
only_memory config image content Version is found device memory = no_fault config image content Version is found
only_memory config image content Damaged is found device memory = no_fault config image content Damaged is found
only_memory config image content Device is found device memory = device refl
only_memory config image content OutOfMemory is found device memory = memory refl

-- without the session after it
pub served_alone : {E : Type 0} (result : Result (Unit {0}) E) (a b r s : Option (List ℕ)) (v w u : View) (P Q : Type 0) → v ≡ w → P → Q → OnOk result (P → Q → (served : Served a b r s v) × (u ≡ view_after v served.read)) → OnOk result (Served a b r s w)
served_alone (Ok x) a b r s v w u P Q e p q h = subst (Served a b r s) e (h p q).0
served_alone (Err fault) a b r s v w u P Q e p q h = tt

-- before anything was read or written
pub served_nothing : (a r : Option (List ℕ)) (v : View) → ServedPart a a r r v
served_nothing a r v = record {
  read = [];
  consumed = consumes_nothing r;
  shows = record { replies = []; broken = []; one = omega arith; part = []; written = Appends-nothing a; begun = ([], refl); among = ((transcript None v []).replies, refl) };
}

module _ {D : Type 0} {g : Ghosts D} where
  not_failed : (b : Bool) (old new : Session D g) → new.failed ≡ b → old.failed ≡ false → (new.failed ≡ true → (old.failed ≡ true) ⊎ HasFailed (g.failures old.disk) (g.failures new.disk)) → ¬ HasFailed (g.failures old.disk) (g.failures new.disk) → new.failed ≡ false
  not_failed false old new is was failed none = is
  not_failed true old new is was failed none = ⊎_elim (λ (had : _). let no : true ≡ false = sym had ∙ was in absurd (cc)) (λ (grew : _). absurd (none grew)) (failed is)

  -- a service whose disk failed no call
  pub served_part : (a b r s : Option (List ℕ)) (old new : Session D g) (v : View) → view_of old ≡ v → old.failed ≡ false → (new.failed ≡ true → (old.failed ≡ true) ⊎ HasFailed (g.failures old.disk) (g.failures new.disk)) → ¬ HasFailed (g.failures old.disk) (g.failures new.disk)
      → Processes a b r s old new → ServedPart a b r s v
  served_part a b r s old new v view was failed none h =
      let runs = not_failed new.failed old new refl was failed none in
      record {
        read = h.read;
        consumed = h.consumed;
        shows = subst (λ w. Shows a b (transcript None w h.read).replies) view (subst (λ f. Shows a b (transcript f (view_of old) h.read).replies) (h.fated.1 runs) h.shows);
      }
