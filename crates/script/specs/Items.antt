-- A script as its numbered commands.
use Rattle.std.specs.Prelude.{ℕ, ◌+◌, List, [], ◌∷◌, Some, None, Option}
use Rattle.std.specs.Option.{option_map}
use Rattle.std.specs.Result.{result_ok}
use Rattle.script.specs.declared.item.Item.{Item}
use Rattle.words.specs.Text.{words_of}
use Rattle.script.specs.Commands.{Meant, meant, line_of}

-- a line's number, and its command, or none where the line is an error
pub record Numbered : Type 0 where
  pub line : ℕ
  pub command : Option Meant

-- what a line adds in front: nothing where it has no words
abbrev pub added : ℕ → Option (Option Meant) → List Numbered → List Numbered
added n None rest = record { line = n; command = None } ∷ rest
added n (Some None) rest = rest
added n (Some (Some m)) rest = record { line = n; command = Some m } ∷ rest

-- the commands of lines, counted on from a number
abbrev pub items_after : ℕ → List (List ℕ) → List Numbered
items_after n [] = []
items_after n (l ∷ ls) = added (n + 1) (line_of (words_of l)) (items_after (n + 1) ls)

abbrev pub numbered : Item → Numbered
numbered i = record { line = i.line; command = option_map meant (result_ok i.command) }
