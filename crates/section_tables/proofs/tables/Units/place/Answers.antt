use Rattle.std.proofs.Common.{◌<◌, arith}
use Rattle.std.proofs.lemmas.Grind.{common_steps}
use Rattle.section_tables.proofs.Lookups.{placed_there}
use Rattle.section_tables.proofs.tables.Units.place.Goals as goal

pub returns : goal.returns
returns c =
    let some : 0 < c.args.self.now.count = grind (arith, common_steps) in
    record { answer = grind (arith, common_steps); after = placed_there c.args.self.now c.args.entry c.args.offset _ some }
