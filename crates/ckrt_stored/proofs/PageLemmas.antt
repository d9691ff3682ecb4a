-- What keeps the clean pages of a program's memory in their slots.
use Rattle.std.proofs.Common.{◌≡◌, List, ℕ, sym, subst}
use Rattle.ckrt_memory.specs.Marks.{Follows}
use Rattle.ckrt_stored.specs.declared.config.Config.{Config}
use Rattle.ckrt_stored.specs.Holds.{BothStand}
use Rattle.ckrt_stored.proofs.SlotLemmas.{follows_stand}
use Rattle.ckrt_machine.specs.Events.{memory_in}
use Rattle.ckrt_stored.specs.declared.progress.Progress.{Progress}
use Rattle.ckrt_stored.specs.Progress.{PagesStand}

-- events mark what they change
pub pages_follow : (old new : Progress) (content : List ℕ) → new.config ≡ old.config → Follows (memory_in old.machine) (memory_in new.machine) → PagesStand old content → PagesStand new content
pages_follow old new content config follows stand = subst (λ (c : Config). BothStand c (memory_in new.machine) content) (sym config)
    (λ area low. follows_stand old.config area (memory_in old.machine) (memory_in new.machine) content low follows (stand area low))
