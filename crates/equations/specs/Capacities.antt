-- Net capacity (NTC) and available capacity (ATC) of the four kinds of border, in one direction, in MW.
use Rattle.std.specs.Prelude.{cond, ℤ, pos, ◌+ℤ◌, ◌-ℤ◌, neg_ℤ, int_lt}
use Rattle.std.specs.Int.{int_max, int_min}
use Rattle.equations.specs.Ranges.{between}
use Rattle.equations.specs.declared.capacity.Side.{Side}
use Rattle.equations.specs.declared.capacity.Direction.{Direction}
use Rattle.equations.specs.declared.capacity.Direction.TheVariants.{Forward, Backward}
use Rattle.equations.specs.declared.capacity.Formula.{Formula}
use Rattle.equations.specs.declared.capacity.Formula.TheVariants.{Cable, Settlement, Line, Given}

-- a flow given forward, counted in a direction
abbrev pub counted : Direction → ℤ → ℤ
counted Forward x = x
counted Backward x = neg_ℤ x

-- at a settlement border a capacity below 50 counts as 0
abbrev pub settled_capacity : ℤ → ℤ
settled_capacity x = cond (int_lt x (pos 50)) (pos 0) x

-- the most that a settlement border carries: forward 488 with 2 circuits and else 485, backward 492
abbrev pub circuit_cap : Direction → ℤ → ℤ
circuit_cap Forward n = cond (between (pos 2) n (pos 2)) (pos 488) (pos 485)
circuit_cap Backward n = pos 492

-- NTC before it is cut at 0
abbrev pub uncut_capacity : Formula → Direction → Side → ℤ
uncut_capacity Cable to s = int_min s.first s.second
uncut_capacity (Settlement n) to s = int_min (int_min (settled_capacity s.first) (settled_capacity s.second)) (circuit_cap to n)
uncut_capacity Line to s = int_min (s.first +ℤ s.reserve -ℤ s.margin) (s.second -ℤ s.margin)
uncut_capacity Given to s = s.first

-- a capacity below 0 becomes 0
abbrev pub cut_at_0 : ℤ → ℤ
cut_at_0 x = int_max x (pos 0)

-- NTC
abbrev pub net_capacity : Formula → Direction → Side → ℤ
net_capacity f to s = cut_at_0 (uncut_capacity f to s)

-- ATC of a line, with its NTC c, margin m, flow a and power flow p counted in the direction: the direction is that of the flow only if a is above 0
unfoldable pub line_available : ℤ → ℤ → ℤ → ℤ → ℤ
line_available c m a p = cond (int_lt (pos 0) a) (int_min (c -ℤ p) (c -ℤ a +ℤ m)) (c -ℤ p)

-- ATC at a flow a and a power flow p, both given forward: NTC less what flows that way, except for the line
abbrev pub available : Formula → Direction → Side → ℤ → ℤ → ℤ
available Cable to s a p = net_capacity Cable to s -ℤ counted to a
available (Settlement n) to s a p = net_capacity (Settlement n) to s -ℤ counted to a
available Line to s a p = line_available (net_capacity Line to s) s.margin (counted to a) (counted to p)
available Given to s a p = net_capacity Given to s -ℤ counted to a

-- the limit that a flow a and its available capacity give in a direction: forward above a, backward below it
abbrev pub limit_of : Formula → Direction → Side → ℤ → ℤ → ℤ
limit_of f Forward s a p = a +ℤ available f Forward s a p
limit_of f Backward s a p = a -ℤ available f Backward s a p
