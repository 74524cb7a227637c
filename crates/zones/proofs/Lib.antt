-- Places and results fit the low half of an answer.
mod Low
-- The place of a refused row of pixels.
mod Rows
