-- A text by its parts.
use Rattle.std.specs.Prelude.{ℕ, List, decimal}
use Rattle.std.specs.List.{flat_map}
use Rattle.ckrt_look_timeline.specs.declared.part.Part.{Part}
use Rattle.ckrt_look_timeline.specs.declared.part.Part.TheVariants as part
use Rattle.ckrt_look_timeline.specs.Words.{kind_of, object_of, size_of, words_of}

-- texts one behind another
abbrev pub joined : List (List ℕ) → List ℕ
joined texts = flat_map (λ text. text) texts

abbrev pub part_text : Part → List ℕ
part_text (part.Text text) = text.now
part_text (part.Number n) = decimal n
part_text (part.Kind a) = kind_of a
part_text (part.Words a) = words_of a
part_text (part.Object a) = object_of a
part_text (part.Size a) = size_of a

abbrev pub parts_text : List Part → List ℕ
parts_text parts = flat_map part_text parts
