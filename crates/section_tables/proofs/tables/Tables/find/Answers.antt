use Rattle.std.proofs.Common.{◌≡◌, true, ltb, ap, ◌∙◌, rules}
use Rattle.std.proofs.lemmas.List.Sorted.{IsPartitionPoint-from_clause}
use Rattle.common.specs.declared.fixup.DebugInfoFixup.{DebugInfoFixup}
use Rattle.section_tables.specs.Rows.{rise}
use Rattle.section_tables.proofs.Rises.{SplitAt, parted, split, standing, split_found}
use Rattle.section_tables.proofs.tables.Tables.find.Goals as goal

pub returns : goal.returns
returns c =
    let rows = c.pending_rows-rows in
    let order : rise 0 rows.result.now ≡ true = ap (rise 0) rows.ensures ∙ c.args.self.now.order in
    let s : SplitAt c.args.offset rows.result.now c.partition_point-index.result =
    split c.args.offset rows.result.now _ c.partition_point-index.ensures.bound
    (IsPartitionPoint-from_clause (λ (p : DebugInfoFixup). ltb p.offset c.args.offset) _ _ c.partition_point-index.ensures.partitioned
    (parted c.args.offset rows.result.now order) (λ a r q k. search rules)) in
    let stands : c.is_some_and.result ≡ standing c.args.size c.args.offset c.get.result = search rules in
    rw (← rows.ensures, c.then_some.ensures, stands) (split_found c.args.offset rows.result.now order c.args.size c.partition_point-index.result s c.get.result c.get.ensures.lookup)
