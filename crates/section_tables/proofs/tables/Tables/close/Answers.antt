use Rattle.std.proofs.Common.{◌≡◌, ◌+◌, ◌-◌, ◌++◌, take, drop, arith}
use Rattle.std.proofs.lemmas.Grind.{common_steps}
use Rattle.section_tables.specs.Rows.{rows_of}
use Rattle.section_tables.proofs.Rises.{wide-freed, rise-freed}
use Rattle.section_tables.proofs.tables.Tables.close.Goals as goal

pub invariant_of-self-3 : goal.invariant_of-self-3
invariant_of-self-3 c =
    let t = c.args.self.now in
    let rows : take (t.pending.count - 1) c.remove.new.table ≡ take c.args.index (rows_of t.pending) ++ drop (c.args.index + 1) (rows_of t.pending) = grind (arith, common_steps) in
    record { widths = wide-freed (rows_of t.pending) _ c.args.index rows t.widths; order = rise-freed (rows_of t.pending) _ c.args.index rows t.order }
