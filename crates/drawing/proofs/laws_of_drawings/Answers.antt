use Rattle.drawing.proofs.Readings.{elements_read, cells_drawn, starts_read, ends_read}
use Rattle.drawing.proofs.laws_of_drawings.Goals as goal

pub returns : goal.returns
returns c = record { start = starts_read; cell = cells_drawn; element = elements_read; end = ends_read }
