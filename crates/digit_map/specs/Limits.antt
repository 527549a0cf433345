-- How many positions and alternatives a map may have. Assumes nothing.
use Rattle.std.specs.Prelude.{ℕ}

-- the most positions and alternatives
pub record Limits : Type 0 where
  pub positions : ℕ
  pub alternatives : ℕ

-- those of a sale
abbrev pub sale : Limits
sale = record { positions = 255; alternatives = 64 }
