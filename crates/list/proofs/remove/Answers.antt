use Rattle.list.proofs.Places.{removed_is}
use Rattle.list.proofs.remove.Goals as goal

pub returns : goal.returns
returns g c = rw (c.copy_within.ensures.after, c.min-used.ensures) (removed_is c.args.table.now c.args.len c.args.index c.in_ok-item.item c.in_ok-item.ensures)
