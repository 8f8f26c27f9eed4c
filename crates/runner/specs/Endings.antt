-- How a part of a script ends.
use Rattle.std.specs.Prelude.{ℕ, ◌<◌, Some, None, Option}
use Rattle.runner.specs.declared.run.Ending.{Ending}

-- where the script goes on, less of it is left than before
abbrev pub Ends : Option Ending → ℕ → ℕ → Type 0
Ends (Some ending) before after = Unit {0}
Ends None before after = after < before
