use Rattle.std.proofs.Common.{◌++◌}
use Rattle.std.specs.Prelude.{codes}
use Rattle.ckrt_gdb_forms.specs.Numbers.{byte_text}
use Rattle.ckrt_gdb_forms.specs.Replies.{why_text}
use Rattle.ckrt_gdb_forms.proofs.PayloadLemmas.{done_behind}
use Rattle.ckrt_gdb_forms.proofs.reply.push_stop.Goals as goal

pub returns-clause-done : goal.returns-clause-done
returns-clause-done c =
    done_behind c.push_why.result c.args.out.now.items c.push_byte_behind.new.out.items c.push_why.new.out.items (codes "T" ++ byte_text c.args.signal) (why_text c.args.cause c.args.thread)
    c.in_ok-push_byte_behind.ensures.done c.push_why.ensures.done
