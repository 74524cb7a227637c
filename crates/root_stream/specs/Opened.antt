-- Document 01, "Cells": the elements of cell 0's stream.
use Rattle.std.specs.Prelude.{List, map}
use Rattle.drawing.specs.Tables.{Tables, drawn_in}
use Rattle.pruning.specs.Sides.{paint, flat}
use Rattle.cells.specs.Cells.{root}
use Rattle.cells.specs.Drawings.{Drawing}
use Rattle.cells.specs.Streams.{source, made}
use Rattle.cells.specs.Elements.{Element, elements_of}
use Rattle.stream.specs.declared.Words.{Words}
use Rattle.evaluate.specs.Words.{words_of}
use Rattle.plans.specs.Plans.{drawing_from}

-- the drawing that lent tables hold
abbrev pub drawing_in : Tables → Drawing
drawing_in t = drawing_from (drawn_in t)

-- "Cell 0's stream is made from the drawing"
unfoldable pub elements_opened : Tables → List Element
elements_opened t = elements_of (flat paint (made (drawing_in t) root (source (drawing_in t))))

unfoldable pub words_opened : Tables → List Words
words_opened t = map words_of (elements_opened t)
