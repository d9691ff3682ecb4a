use Rattle.std.proofs.Common.{◌≡◌, ◌∙◌, ap, sym}
use Rattle.ckrt_memory.specs.Pages.{page_of, with_page}
use Rattle.ckrt_gdb_history.proofs.PageLemmas.{page_again}
use Rattle.ckrt_gdb_history.proofs.pages.restore_page.Goals as goal

pub returns-else-not-is_same_page : goal.returns-else-not-is_same_page
returns-else-not-is_same_page c =
    let bytes = c.args.memory.now.bytes in let p = c.args.page in
    let same : page_of bytes p ≡ c.args.from.now = sym c.page.ensures ∙ c.is_same_page.ensures c.if-not-is_same_page.false in
    sym (page_again bytes p c.requires.low) ∙ ap (with_page bytes p) same
