use Rattle.std.proofs.Common.{ℕ, List, None, inl, Ok, Err, refl, subst}
use Rattle.ckrt_disk.proofs.FrameLemmas.{read_on}
use Rattle.ckrt_history.specs.Reads.{is_device}
use Rattle.ckrt_cli_disk.specs.Near.{AnswersFor}
use Rattle.ckrt_cli_disk.proofs.near.read_near.Goals as goal

pub returns-in-Ok-clause-reads : goal.returns-in-Ok-clause-reads
returns-in-Ok-clause-reads g c =
    let d = g.D.Disk in let s₀ = c.args.history.now in let s₁ = c.read_history.new.file in let s₂ = c.begin_near.new.history in
    let begins = c.begin_near.ensures.begins in
    record {
      read = read_on d s₀ s₁ s₂ (is_device c.begin_near.result.answer) c.in-Ok.ensures.read begins.read;
      whole = Ok c.in-Ok.whole;
      records = λ honest. c.in-Ok.ensures.exact (begins.read.same.honest honest);
      found = begins.found;
      finds = begins.finds;
      file = begins.file;
      answers = λ honest.
          subst (λ (l : List ℕ). AnswersFor l c.args.stretch.now begins.found.snapshot (Ok c.in-Ok.whole) c.begin_near.result.answer) (c.in-Ok.ensures.read.content (begins.read.same.honest honest)) (begins.answers honest);
    }

pub returns-in-Err-clause-reads : goal.returns-in-Err-clause-reads
returns-in-Err-clause-reads g c = record {
  read = c.in-Err.ensures.read;
  whole = Err c.in-Err.fault;
  records = c.in-Err.ensures.exact;
  found = record { snapshot = None; file = None };
  finds = (refl, inl refl);
  file = refl;
  answers = λ honest. refl;
}
