-- A drive that came to its end, as a run of the program.
use Rattle.std.proofs.Common.{◌≡◌, ◌<◌, ◌^◌, ◌-◌, ℕ, true, [], Some, None, Ok, refl}
use Rattle.ckrt_disk.specs.declared.disk.Disk.{Ghosts}
use Rattle.ckrt_drive.specs.Runs.{Runs}
use Rattle.ckrt_drive.specs.Stages.{GoesBySteps, IsOver, stage}
use Rattle.ckrt_drive.specs.declared.options.Options.{Options}
use Rattle.ckrt_drive.proofs.LeftLemmas.{starts_formatted}
use Rattle.ckrt_recovery.specs.Represents.{RepresentsDisk}
use Rattle.ckrt_recovery.specs.declared.session.Session.{Session}
use Rattle.ckrt_schedule.specs.declared.next.ScheduleEnd.{ScheduleEnd}
use Rattle.ckrt_stored.specs.Programs.{Program, RecoversToStart}
use Rattle.ckrt_cli_disk.specs.Driving.{driven_of}
use Rattle.ckrt_cli_reports.specs.Lengths.{fits, lengths_of}
use Rattle.ckrt_witness.specs.Lengths.{LengthWitness}

module _ {D O : Type 0} (d : Ghosts D) (o : Ghosts O) (disk input input_end : D) (options : Options) (left taken : ℕ) (s t : Session D d) (a b : O) (ending : ScheduleEnd) where
  pub ended : Runs o options (2 ^ 64 - 1) options.events left s t a b (Ok (Some ending))
      → GoesBySteps options (d.is_honest input_end) (Some (d.content input)) (stage o options.events 0 s a) (stage o left taken t b)
      → (d.is_honest input_end → IsOver options (Some (d.content input)) (stage o left taken t b) ending)
      → RepresentsDisk disk s → (size : ℕ) → fits (lengths_of size s) ≡ true → size < t.released
      → d.is_honest t.disk → (p : Program) → RecoversToStart p (d.content disk) → LengthWitness d o size
  ended runs by_steps over given size fit longer honest p start = record {
    run = record {
      start = disk;
      options = options;
      beside = record { intake = Some (record { file = input; taken = 0 }); history = None };
      left = record { input = Some input_end; history = None };
      before = s;
      after = t;
      output = a;
      end = b;
      answer = driven_of t.progress.machine.state (Ok (Some ending));
      drives = record {
        ran = Ok (Some ending);
        steps = 2 ^ 64 - 1;
        told = Ok (Some ending);
        tells = (refl, refl);
        left = left;
        taken = taken;
        runs = runs;
        by_steps = by_steps;
        over = over;
        gets = (refl, tt);
        gives = refl;
        output = tt;
      };
    };
    fed = refl;
    honest = honest;
    program = p;
    events = [];
    represents = given (runs.accepts.honest honest) p [] 0 (starts_formatted p (d.content disk) start);
    fit = fit;
    saved = runs.goes.why.2.saved;
    longer = longer;
  }
