-- What a reader has left to read.
use Rattle.std.specs.Prelude.{ℕ, ◌<◌, List, length, Option, OnSome}
use Rattle.std.specs.Iterator.{YieldsFirstBy}
use Rattle.words.specs.Text.{lines_of}
use Rattle.script.specs.declared.item.Item.{Item}
use Rattle.script.specs.declared.reader.Reader.{Reader}
use Rattle.script.specs.Items.{Numbered, numbered, items_after}

-- how much text is left
abbrev pub left : Reader → ℕ
left r = length r.rest.now

-- the commands that are left
abbrev pub items_left : Reader → List Numbered
items_left r = items_after r.line (lines_of r.rest.now)

-- a call gives the first command that is left, and leaves the others, in less text
abbrev pub GivesItem : Reader → Option Item → Reader → Type 0
GivesItem before item after = YieldsFirstBy numbered items_left before item after × OnSome item (left after < left before)
