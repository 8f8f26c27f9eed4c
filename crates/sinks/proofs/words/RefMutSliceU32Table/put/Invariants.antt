use Rattle.std.proofs.Common.{◌≡◌, take}
use Rattle.writer.specs.Meaning.{replaced}
use Rattle.sinks.specs.Words.{spread}
use Rattle.sinks.proofs.words.RefMutSliceU32Table.put.Given as goal

abbrev pub invariant-loop-i : goal.invariant-loop-i
invariant-loop-i l = (spread l.self.now ≡ replaced (spread l.initial.self.now) l.at (take l.i l.more)) × (l.self.ghost_name ≡ l.initial.self.ghost_name)
