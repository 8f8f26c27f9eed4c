use Rattle.std.proofs.Common.{sym, ◌∙◌}
use Rattle.script.proofs.Histories.{after-late, after-grown}
use Rattle.script.proofs.stage.Stage.after.Goals as goal

pub returns-then-is_late : goal.returns-then-is_late
returns-then-is_late c = after-late c.args.self c.args.part (sym c.is_late.ensures ∙ c.if-is_late.true)

pub returns-else-is_late : goal.returns-else-is_late
returns-else-is_late c =
    after-grown c.args.self _ c.args.part (sym c.is_late.ensures ∙ c.if-is_late.false) c.with.ensures
