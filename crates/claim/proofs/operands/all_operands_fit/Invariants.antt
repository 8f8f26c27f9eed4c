use Rattle.std.proofs.Common.{take}
use Rattle.std.specs.List.{AllByRecursion}
use Rattle.claim.specs.Fits.{FitsOperation}
use Rattle.claim.proofs.operands.all_operands_fit.Given as goal

abbrev pub invariant-loop-operation : goal.invariant-loop-operation
invariant-loop-operation l = AllByRecursion FitsOperation (take l.operation-index l.operations)
