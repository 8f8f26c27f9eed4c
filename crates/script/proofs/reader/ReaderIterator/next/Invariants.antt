use Rattle.std.proofs.Common.{◌≡◌, ◌≤◌, length}
use Rattle.script.specs.Readers.{items_left}
use Rattle.script.proofs.reader.ReaderIterator.next.Given as goal

abbrev pub invariant-loop-split : goal.invariant-loop-split
invariant-loop-split l =
    (items_left l.self ≡ items_left l.initial.self) × (length l.self.rest.now ≤ length l.initial.self.rest.now)

abbrev pub decreases-loop-split : goal.decreases-loop-split
decreases-loop-split l = length l.self.rest.now
