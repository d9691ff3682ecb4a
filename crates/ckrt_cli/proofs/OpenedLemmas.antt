-- What was opened for a look is what the path stands for.
use Rattle.std.proofs.Common.{◌≡◌, ℕ, List, Bool, true, false, Option, Result, sym, subst, inl, inr}
use Rattle.ckrt_disk.specs.declared.disk.Disk.{Ghosts}
use Rattle.ckrt_look_calls.specs.Stretches.{Account}
use Rattle.ckrt_look_recording.specs.declared.parts.Parts.{Parts}
use Rattle.ckrt_cli_words.specs.Jobs.{DiskStretch}
use Rattle.ckrt_cli_files.specs.Openings.{Openings}
use Rattle.ckrt_cli_reports.specs.Outside.{Outside}
use Rattle.ckrt_cli_reports.specs.declared.fault.JobFault.{JobFault}
use Rattle.ckrt_cli.specs.Debugging.{ReadsAt}
use Rattle.ckrt_cli.specs.Histories.{LacksMade, MakesOpened, MakesWith, MeasuresOpened, files_of, place}
use Rattle.ckrt_cli.specs.declared.made.Origin.{Origin}
use Rattle.ckrt_cli.specs.Looking.{LooksAt, sight}
use Rattle.ckrt_cli_files.specs.Openings.{opened, with_history}
use Rattle.ckrt_cli_files.specs.declared.file.JobFile.{JobFile}
use Rattle.ckrt_cli_files.specs.declared.output.OpenedOutput.{OpenedOutput}
use Rattle.ckrt_history.specs.declared.joined.Joined.{Joined}
use Rattle.ckrt_history.specs.declared.span.Span.{Span}

-- a look at a stretch, of a disk or of a history
pub looked_there : {D : Type 0} (d : Ghosts D) (is_history : Bool) (s : DiskStretch) (P : D → Type 0) (a : Account) (it : D) (asked₁ asked new : Outside D) (result : Result (Unit {0}) JobFault)
    → P it → asked₁ ≡ asked → LooksAt is_history d (sight s (λ start. start ≡ it) a) asked₁ new result → LooksAt is_history d (sight s P a) asked new result
looked_there d is_history s P a it asked₁ asked new result there same looks =
    subst (λ x. LooksAt is_history d (sight s P a) x new result) same (go is_history looks)
  where
    go : (h : Bool) → LooksAt h d (sight s (λ start. start ≡ it) a) asked₁ new result → LooksAt h d (sight s P a) asked₁ new result
    go true o = record {
      start = o.start;
      is_opened = subst P (sym o.is_opened) there;
      end = o.end;
      near = o.near;
      openings = o.openings;
      reads = o.reads;
      tells = o.tells;
      closes = o.closes;
      unread = o.unread;
    }
    go false o = record {
      start = o.start;
      is_opened = subst P (sym o.is_opened) there;
      end = o.end;
      answer = o.answer;
      gives = o.gives;
      read = o.read;
      tells = o.tells;
      closes = o.closes;
      unread = o.unread;
    }

-- what is read for a session with a debugger
pub read_there : {D : Type 0} (d : Ghosts D) (is_history : Bool) (at : Option ℕ) (P : D → Type 0) (it : D) (asked₁ asked new : Openings D) (result : Result Parts JobFault)
    → P it → asked₁ ≡ asked → ReadsAt is_history d at (λ start. start ≡ it) asked₁ new result → ReadsAt is_history d at P asked new result
read_there d is_history at P it asked₁ asked new result there same reads =
    subst (λ x. ReadsAt is_history d at P x new result) same (go is_history reads)
  where
    go : (h : Bool) → ReadsAt h d at (λ start. start ≡ it) asked₁ new result → ReadsAt h d at P asked₁ new result
    go true o = record {
      start = o.start;
      is_opened = subst P (sym o.is_opened) there;
      end = o.end;
      near = o.near;
      openings = o.openings;
      reads = o.reads;
      gives = o.gives;
      closes = o.closes;
    }
    go false o = record {
      start = o.start;
      is_opened = subst P (sym o.is_opened) there;
      end = o.end;
      answer = o.answer;
      gives = o.gives;
      read = o.read;
      records = o.records;
      is_read = o.is_read;
      closes = o.closes;
    }

-- how far a history goes that was opened
pub measured_there : {D : Type 0} (d : Ghosts D) (P : D → Type 0) (it : D) (asked₁ asked new : Openings D) (result : Result (Option Joined × Span) JobFault)
    → P it → asked₁ ≡ asked → MeasuresOpened d (λ start. start ≡ it) asked₁ new result → MeasuresOpened d P asked new result
measured_there d P it asked₁ asked new result there same o =
    subst (λ x. MeasuresOpened d P x new result) same (record {
      start = o.start;
      is_opened = subst P (sym o.is_opened) there;
      end = o.end;
      answer = o.answer;
      gives = o.gives;
      measures = o.measures;
      closes = o.closes;
    })

-- the file that was opened to have a history
pub made_there : {D : Type 0} (d : Ghosts D) (kind : Origin) (P : D → Type 0) (Q : OpenedOutput D → Type 0) (it : OpenedOutput D) (asked₁ asked new : Openings D) (result : Result (Option Joined × Span) JobFault)
    → Q it → asked₁ ≡ asked → MakesOpened d kind P (λ x. x ≡ it) asked₁ new result → MakesOpened d kind P Q asked new result
made_there d kind P Q it asked₁ asked new result there same o =
    subst (λ x. MakesOpened d kind P Q x new result) same (record {
      source = o.source;
      is_source = o.is_source;
      output = o.output;
      is_output = subst Q (sym o.is_output) there;
      end = o.end;
      makes = o.makes;
      closes = o.closes;
    })

-- and what was opened that it is made of, where no more outputs may be given behind that
module _ {D : Type 0} (d : Ghosts D) (kind : Origin) (P : D → Type 0) (it : D) (path : List ℕ) (O₁ O : OpenedOutput D → Type 0) (there : P it) (fewer : (x : OpenedOutput D) → O₁ x → O x) where
  lacks : (at : JobFile) (asked new : Openings D) (result : Result (Option Joined × Span) JobFault) → LacksMade at (λ x. x ≡ it) path asked new result → LacksMade at P path asked new result
  lacks at asked new result o = record {
    source = o.source;
    is_source = subst P (sym o.is_source) there;
    why = o.why;
    is = o.is;
    closes = o.closes;
  }

  makes : (asked new : Openings D) (result : Result (Option Joined × Span) JobFault) → MakesOpened d kind (λ x. x ≡ it) O₁ asked new result → MakesOpened d kind P O asked new result
  makes asked new result o = record {
    source = o.source;
    is_source = subst P (sym o.is_source) there;
    output = o.output;
    is_output = fewer o.output o.is_output;
    end = o.end;
    makes = o.makes;
    closes = o.closes;
  }

  by_kind : (asked new : Openings D) (result : Result (Option Joined × Span) JobFault) → MakesWith d kind (λ x. x ≡ it) (place path O₁) asked new result → MakesWith d kind P (place path O) asked new result
  by_kind asked new result (inl o) = inl (lacks (files_of kind).1 asked new result o)
  by_kind asked new result (inr o) = inr (makes (with_history asked (opened path)) new result o)

  pub with_there : (asked₁ asked new : Openings D) (result : Result (Option Joined × Span) JobFault) → asked₁ ≡ asked → MakesWith d kind (λ x. x ≡ it) (place path O₁) asked₁ new result → MakesWith d kind P (place path O) asked new result
  with_there asked₁ asked new result same o =
      subst (λ x. MakesWith d kind P (place path O) x new result) same (by_kind asked₁ new result o)
