-- Document 01, "Cells": the words of the stream that is made, in a cell, of the stream that the words of entries say.
use Rattle.std.specs.Prelude.{List, map}
use Rattle.pruning.specs.Sides.{paint, flat}
use Rattle.cells.specs.Cells.{Cell}
use Rattle.cells.specs.Drawings.{Drawing}
use Rattle.cells.specs.Streams.{made}
use Rattle.cells.specs.Elements.{Element, elements_of, stream_of, role_in}
use Rattle.stream.specs.declared.Words.{Words}
use Rattle.evaluate.specs.Reading.{elements_in}
use Rattle.evaluate.specs.Words.{words_of}

-- "A child is made from its parent's stream by this rule, orders kept. ... It is then pruned". The areas and corners that entries name are the drawing's.
unfoldable pub elements_made : Drawing → Cell → List Words → List Element
elements_made D c ws = elements_of (flat paint (made D c (stream_of (role_in D) (elements_in ws))))

unfoldable pub words_made : Drawing → Cell → List Words → List Words
words_made D c ws = map words_of (elements_made D c ws)
