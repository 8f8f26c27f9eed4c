-- The worked examples, all together.
use Rattle.rules.specs.Examples.{Worked}
use Rattle.claim.specs.Examples.{WorkedSections}

-- expressions in bytes, and a section in which a reference is set down and filled
abbrev pub WorkedExamples : Type 0
WorkedExamples = Worked × WorkedSections
