-- A context as C passes it: four numbers.
use Rattle.std.specs.Prelude.{ℕ}
use Rattle.weights.specs.declared.Context.{Context}

abbrev pub at : ℕ → ℕ → ℕ → ℕ → Context
at minute day zone date = record { minute = minute; day = day; zone = zone; date = date }
