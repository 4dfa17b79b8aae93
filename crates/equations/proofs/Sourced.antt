-- What a source within its bounds weighs.
use Rattle.std.proofs.Common.{◌≡◌, ℕ, ◌*◌, true, ℤ, pos, negsuc, ◌*ℤ◌, ◌≤ℤ◌, arith}
use Rattle.std.proofs.lemmas.Int.{ints}
use Rattle.std.proofs.lemmas.Bool.Decides.{nat_tests}
use Rattle.equations.specs.declared.sources.Source.{Source}
use Rattle.equations.specs.declared.sources.Row.{Row}
use Rattle.equations.specs.declared.sources.Row.TheVariants.{Hundred, Fifty, Zero}
use Rattle.equations.specs.Reserves.{source_allowed, coefficient}
use Rattle.equations.proofs.Products.{near_product}

-- what the code reads past the end of a slice, which it never does
abbrev pub blank : Source
blank = record { power = pos 0; row100 = pos 0; row50 = pos 0; row0 = pos 0 }

pub power_between : (s : Source) → source_allowed s ≡ true → (pos 0 ≤ℤ s.power) × (s.power ≤ℤ pos 5000)
power_between s e = (grind (arith, ints, nat_tests), grind (arith, ints, nat_tests))

pub coefficient_between : (row : Row) (s : Source) → source_allowed s ≡ true → (pos 0 ≤ℤ coefficient row s) × (coefficient row s ≤ℤ pos 100)
coefficient_between Hundred s e = (grind (arith, ints, nat_tests), grind (arith, ints, nat_tests))
coefficient_between Fifty s e = (grind (arith, ints, nat_tests), grind (arith, ints, nat_tests))
coefficient_between Zero s e = (grind (arith, ints, nat_tests), grind (arith, ints, nat_tests))

product_least : (a b : ℤ) → pos 0 ≤ℤ a → pos 0 ≤ℤ b → pos 0 ≤ℤ (a *ℤ b)
product_least (pos a) (pos b) h k = omega (arith, ints)
product_least (pos a) (negsuc b) h k = absurd k.le
product_least (negsuc a) b h k = absurd h.le

pub product_between : (a b : ℤ) (A B : ℕ) → (pos 0 ≤ℤ a) × (a ≤ℤ pos A) → (pos 0 ≤ℤ b) × (b ≤ℤ pos B) → (pos 0 ≤ℤ (a *ℤ b)) × ((a *ℤ b) ≤ℤ pos (A * B))
product_between a b A B h k = (product_least a b h.0 k.0, (near_product A B a b (omega (arith, ints), h.1) (omega (arith, ints), k.1)).1)
