-- How a refusal is printed.
use Rattle.std.specs.Prelude.{List, [], ◌++◌, ℕ, codes}
use Rattle.std.specs.Fmt.{decimal}
use Rattle.common.specs.declared.error.Error.{Error}
use Rattle.common.specs.declared.error.Error.TheVariants.{UnsupportedWordSize}
use Rattle.common.specs.Errors.{number_of, name_of}

-- what follows the name: the word size that was met
abbrev pub size_met : Error → List ℕ
size_met (UnsupportedWordSize size) = codes " " ++ decimal size
size_met _ = []

-- the text that a refusal is printed as: its number, its name, and what follows that
abbrev pub refusal_text : Error → List ℕ
refusal_text e = decimal (number_of e) ++ codes " " ++ name_of e ++ size_met e
