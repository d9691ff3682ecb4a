use Rattle.std.proofs.Common.{◌≡◌, ◌∙◌, ◌++◌, ap, arith, length, map}
use Rattle.ckrt_cli_files.specs.ImageWords.{texts}
use Rattle.ckrt_cli_files.proofs.TextLemmas.{no_longer, put_over, same_record}
use Rattle.ckrt_cli_files.proofs.image_words.put_at.Goals as goal

pub returns : goal.returns
returns c =
    let given = c.args.words.now.arguments.now in let set = c.args.words.now.variables.now in
    let old = c.args.image.now in let now = c.push_texts-2.new.image in
    let begins : c.len-size.result ≡ length old.items = omega (arith, c.len-size.ensures, old.ok.0) in
    let ends : c.len.result ≡ length now.items = omega (arith, c.len.ensures, now.ok.0) in
    let again : c.len-2.result ≡ length now.items = omega (arith, c.len-2.ensures, now.ok.0) in
    let all = c.in_ok-push_texts-2.ensures.pushed
    ∙ ap (λ l. l ++ texts (map (λ s. s.now) set)) c.in_ok-push_texts.ensures.pushed in
    let same = same_record c.len-size.result c.len-2.result old.items _ _ given set begins again all in (
      no_longer c.len.result _ _ ends all c.if-len-gt-LARGEST_IMAGE.false,
      put_over c.args.place _ _ _ _ c.put_record.new.image.items all (c.deref.ensures.0 ∙ c.record_of-record.ensures ∙ same)
          c.put_record.ensures,
    )
