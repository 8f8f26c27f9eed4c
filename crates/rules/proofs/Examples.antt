-- The worked examples.
use Rattle.std.proofs.Common.{refl}
use Rattle.dwarf.specs.Bytes.{bytes_of, size_of, joined}
use Rattle.dwarf.specs.Leb.{groups, sgroups, uleb, sleb}
use Rattle.dwarf.specs.References.{references}
use Rattle.rules.specs.Examples.{Forms, Codes, Wide, Limits, Refusals, Worked}
use Rattle.rules.specs.Tree.{tree_of}

forms : Forms
unfolding tree_of groups sgroups uleb sleb bytes_of size_of joined references
forms = (refl, refl, refl, refl, refl, refl, refl, refl, refl, refl, refl)

codes : Codes
unfolding tree_of groups sgroups uleb sleb bytes_of size_of joined references
codes = (refl, refl, refl, refl, refl, refl, refl, refl, refl, refl, refl, refl, refl, refl, refl, refl, refl, refl, refl, refl, refl, refl)

wide : Wide
unfolding tree_of groups sgroups uleb sleb bytes_of size_of joined references
wide = (refl, refl)

limits : Limits
unfolding tree_of groups sgroups uleb sleb bytes_of size_of joined references
limits = (refl, refl, refl, refl, refl, refl, refl, refl, refl, refl, refl, refl)

refusals : Refusals
unfolding tree_of groups sgroups uleb sleb bytes_of size_of joined references
refusals = (refl, refl, refl, refl, refl, refl, refl, refl, refl, refl, refl, refl, refl, refl)

pub worked : Worked
worked = (forms, codes, wide, limits, refusals)
