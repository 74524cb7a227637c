-- Document 01, "Winding and meaning": the colour of a shown set.
use Rattle.std.specs.Prelude.{ℕ, ◌+◌, ◌*◌, ◌-◌, ◌/◌, ◌≤◌}
use Rattle.paint.specs.Sets.{each}
use Rattle.paint.specs.declared.area.Paint.{Paint}
use Rattle.paint.specs.declared.colour.Mix.{Mix}
use Rattle.paint.specs.declared.colour.Channels.{Channels}
use Rattle.paint.specs.declared.colour.Colour.{Colour}

-- "weight = (left × alpha + 127) / 255 rounded down"
abbrev pub weight : (left alpha : ℕ) → ℕ
weight left alpha = (left * alpha + 127) / 255

-- "and left falls by it"; the sums of weight × channel
abbrev pub add_by : (w : ℕ) → Paint → Mix → Mix
add_by w p m = record { left = m.left - w; red = m.red + w * p.red; green = m.green + w * p.green; blue = m.blue + w * p.blue }

abbrev pub add : Paint → Mix → Mix
add p m = add_by (weight m.left p.alpha) p m

-- "left = 255. For each shown area, front first, ..."
abbrev pub start : Mix
start = record { left = 255; red = 0; green = 0; blue = 0 }

unfoldable pub mix_of : (ℕ → Paint) → (set : ℕ) → Mix
mix_of paint set = each set (λ n m. add (paint n) m) start

-- "sum of weight × channel + left × 255"; "the ground is white"
abbrev pub over : Mix → Channels
over m = record { red = m.red + m.left * 255; green = m.green + m.left * 255; blue = m.blue + m.left * 255 }

-- the three unrounded channel sums of a shown set
abbrev pub sums_of : (ℕ → Paint) → (set : ℕ) → Channels
sums_of paint set = over (mix_of paint set)

-- each sum and half the whole, over the whole, rounded down
abbrev pub rounded_by : (whole : ℕ) → Channels → Colour
rounded_by whole c = record { red = (c.red + whole / 2) / whole; green = (c.green + whole / 2) / whole; blue = (c.blue + whole / 2) / whole }

-- "Each channel is (sum of weight × channel + left × 255 + 127) / 255 rounded down"
abbrev pub rounded : Channels → Colour
rounded c = record { red = (c.red + 127) / 255; green = (c.green + 127) / 255; blue = (c.blue + 127) / 255 }

abbrev pub colour_of : (ℕ → Paint) → (set : ℕ) → Colour
colour_of paint set = rounded (sums_of paint set)

-- "the weights and what is left always make 255": what is left, and the sum of the weights
pub data Shares : Type 0 where
  shares : (left weights : ℕ) → Shares

abbrev pub left : Shares → ℕ
left (shares l w) = l

abbrev pub weights : Shares → ℕ
weights (shares l w) = w

abbrev pub share : Paint → Shares → Shares
share p (shares l w) = shares (l - weight l p.alpha) (w + weight l p.alpha)

unfoldable pub shares_of : (ℕ → Paint) → (set : ℕ) → Shares
shares_of paint set = each set (λ n s. share (paint n) s) (shares 255 0)

-- ---- ranges: what is left is at most 255, and each channel sum over the ground at most 255 × 255

pub record MixIn (m : Mix) : Type 0 where
  pub left_in : m.left ≤ 255
  pub red_in : m.red + m.left * 255 ≤ 65025
  pub green_in : m.green + m.left * 255 ≤ 65025
  pub blue_in : m.blue + m.left * 255 ≤ 65025

pub record ChannelsIn (c : Channels) : Type 0 where
  pub red_in : c.red ≤ 65025
  pub green_in : c.green ≤ 65025
  pub blue_in : c.blue ≤ 65025

pub record ColourIn (c : Colour) : Type 0 where
  pub red_in : c.red ≤ 255
  pub green_in : c.green ≤ 255
  pub blue_in : c.blue ≤ 255
