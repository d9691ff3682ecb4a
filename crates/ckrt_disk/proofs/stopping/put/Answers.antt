use Rattle.ckrt_disk.proofs.Images.{filled_image, image_of_image, written_image}
use Rattle.ckrt_disk.proofs.stopping.put.Goals as goal

pub returns-then-eq-2-clause-image : goal.returns-then-eq-2-clause-image
returns-then-eq-2-clause-image c = image_of_image _ _ _ _ (written_image _ _ _ _ c.overwrite.ensures c.requires.room _ c.requires.marked) (filled_image _ _ _ _ c.lay.ensures)

pub returns-else-eq-2-clause-image : goal.returns-else-eq-2-clause-image
returns-else-eq-2-clause-image c = written_image _ _ _ _ c.overwrite.ensures c.requires.room _ c.requires.marked
