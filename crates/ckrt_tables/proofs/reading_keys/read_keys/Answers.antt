use Rattle.std.proofs.Common.{◌≡◌, ◌∷◌, ◌++◌, Some, true, length, refl, sym, ◌∙◌}
use Rattle.std.specs.List.{flat_map}
use Rattle.ckrt_tables.specs.Records.{key_entry_bytes, words_from}
use Rattle.ckrt_tables.proofs.KeyEntries.{off_keys, keys_in_1, keys_in_2, keys_made, few_keys}
use Rattle.ckrt_tables.proofs.Distinct.{words_in}
use Rattle.ckrt_tables.proofs.reading_keys.read_keys.Goals as goal

pub returns-then-version-eq1 : goal.returns-then-version-eq1
returns-then-version-eq1 c = λ keys rest are e.
    (c.off.ensures ∙ sym (off_keys keys are.proper (are.said c.if-version-eq1.true)), e ∙ keys_in_1 c.args.version keys rest c.if-version-eq1.true)

pub returns-in-Some : goal.returns-in-Some
returns-in-Some c = λ keys rest are e.
    let words = words_in keys are.fit in
    let tail = flat_map key_entry_bytes (words_from 0 keys.destructors) ++ rest in
    let m = c.read_mark-is_on.ensures keys.is_on (length (words_from 0 keys.destructors) ∷ tail) refl (e ∙ keys_in_2 c.args.version keys rest c.if-version-eq1.false) in
    let n = c.byte-count.ensures (length (words_from 0 keys.destructors)) tail (few_keys keys.destructors words.0) m.1 in
    let w = c.read_words-words.ensures keys.destructors rest words n.0 n.1 in
    let made = keys_made c.read_mark-is_on.result c.read_words-words.result keys m.0 w.0 are.proper in
    let found : Some c.in-Some.keys ≡ Some keys = c.in-Some.ensures ∙ made in
    (let same : c.in-Some.keys ≡ keys = cc in same, w.1)

pub returns-in-None : goal.returns-in-None
returns-in-None c = λ keys rest are e.
    let words = words_in keys are.fit in
    let tail = flat_map key_entry_bytes (words_from 0 keys.destructors) ++ rest in
    let m = c.read_mark-is_on.ensures keys.is_on (length (words_from 0 keys.destructors) ∷ tail) refl (e ∙ keys_in_2 c.args.version keys rest c.if-version-eq1.false) in
    let n = c.byte-count.ensures (length (words_from 0 keys.destructors)) tail (few_keys keys.destructors words.0) m.1 in
    let w = c.read_words-words.ensures keys.destructors rest words n.0 n.1 in
    let made = keys_made c.read_mark-is_on.result c.read_words-words.result keys m.0 w.0 are.proper in
    absurd (let none = c.in-None.ensures ∙ made in cc)
