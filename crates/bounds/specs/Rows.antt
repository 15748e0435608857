-- The item that a row is.
use Rattle.std.specs.Prelude.{ℕ, cond, ◌&&◌, Err, nat_lt}
use Rattle.bounds.specs.declared.fault.Fault.TheVariants.{NoSuchStep}
use Rattle.bounds.specs.Items.{Item}
use Rattle.bounds.specs.declared.row.Row.{Row}
use Rattle.bounds.specs.Made.{made_bound}

-- both steps are below n; only then is the bound made
abbrev pub row_item : ℕ → Row → Item
row_item n row = cond (nat_lt row.from n && nat_lt row.to n) (made_bound row) (Err NoSuchStep)
