-- How a making ends that came to its formatting.
use Rattle.std.proofs.Common.{◌≡◌, ◌≤◌, ℕ, Bool, true, false, not, cond, nat_lt, List, length, Option, Some, None, Result, Ok, Err, sym, ◌∙◌, ap, subst, arith}
use Rattle.std.proofs.lemmas.Bool.Decides.{nat_tests}
use Rattle.ckrt_disk.specs.declared.disk.Disk.{Ghosts}
use Rattle.ckrt_stored.specs.declared.config.Config.{Config}
use Rattle.ckrt_stored.specs.Layout.{is_valid, memory_size, size_needed}
use Rattle.ckrt_stored.specs.declared.fault.FormatFault.{FormatFault}
use Rattle.ckrt_stored.specs.declared.fault.FormatFault.TheVariants.{AlreadyFormatted, TooSmall, BadConfig, ImageTooLong, Device, OutOfMemory}
use Rattle.ckrt_stored.specs.Format.{IsRefusedBy, format_refusal}
use Rattle.ckrt_cli_files.specs.Openings.{Openings, opened, with_disk, with_image}
use Rattle.ckrt_cli_reports.specs.declared.fault.JobFault.{JobFault}
use Rattle.ckrt_cli_disk.specs.Making.{EndsMaking, FormatsOpened, IsFit, MakesDisk, answer_of}

-- where configuration and image fit only the size is refused
only_size : (size : ℕ) (config : Config) (guest : List ℕ) → is_valid config ≡ true → length guest ≤ memory_size config
    → format_refusal size config guest ≡ cond (nat_lt size (size_needed config)) (Some TooSmall) None
only_size size config guest valid fits =
    let short : nat_lt (memory_size config) (length guest) ≡ false = grind (arith, nat_tests, fits) in
    let last : Option FormatFault = cond (nat_lt size (size_needed config)) (Some TooSmall) None in
    ap (λ b. cond (not b) (Some BadConfig) (cond (nat_lt (memory_size config) (length guest)) (Some ImageTooLong) last)) valid
    ∙ ap (λ b. cond b (Some ImageTooLong) last) short

no_bad_config : (b : Bool) → IsRefusedBy {X = Unit {0}} (cond b (Some TooSmall) None) (Err BadConfig) → ⊥
no_bad_config true is = absurd (cc)
no_bad_config false none = none tt

no_long_image : (b : Bool) → IsRefusedBy {X = Unit {0}} (cond b (Some TooSmall) None) (Err ImageTooLong) → ⊥
no_long_image true is = absurd (cc)
no_long_image false none = none tt

module _ {D : Type 0} (d : Ghosts D) (config : Config) (known : Option (List ℕ)) (Fills : D → Type 0) (image disk : List ℕ) (old new : Openings D) (fit : IsFit config known) where
  abbrev asked : Openings D
  asked = with_disk (with_image old (opened image)) (opened disk)

  by_answer : (b : Bool) (answer : Result (Unit {0}) FormatFault) → IsRefusedBy (cond b (Some TooSmall) None) answer → MakesDisk d config known Fills asked new (answer_of answer)
      → EndsMaking d config known Fills image disk old new (answer_of answer)
  by_answer b (Ok done) refused makes = (fit, makes)
  by_answer b (Err AlreadyFormatted) refused makes = (fit, makes)
  by_answer b (Err TooSmall) refused makes = (fit, makes)
  by_answer b (Err BadConfig) refused makes = absurd (no_bad_config b refused)
  by_answer b (Err ImageTooLong) refused makes = absurd (no_long_image b refused)
  by_answer b (Err Device) refused makes = (fit, makes)
  by_answer b (Err OutOfMemory) refused makes = (fit, makes)

  pub ends_formatted : (result : Result (Unit {0}) JobFault) (guest : List ℕ) (start : D) → is_valid config ≡ true → length guest ≤ memory_size config
      → ((bytes : List ℕ) → known ≡ Some bytes → guest ≡ bytes) → Fills start → FormatsOpened d config guest start asked new result → EndsMaking d config known Fills image disk old new result
  ends_formatted result guest start valid fits is_guest is_opened formats =
      let makes : MakesDisk d config known Fills asked new result = record { guest = guest; is_guest = is_guest; start = start; is_opened = is_opened; ends = formats } in
      let refused = subst (λ o. IsRefusedBy o formats.answer) (only_size (d.size start) config guest valid fits) formats.formats.is_refused in
      subst (λ r. EndsMaking d config known Fills image disk old new r) (sym formats.gives)
      (by_answer (nat_lt (d.size start) (size_needed config)) formats.answer refused (subst (λ r. MakesDisk d config known Fills asked new r) formats.gives makes))
