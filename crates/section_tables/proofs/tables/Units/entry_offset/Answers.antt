use Rattle.std.proofs.Common.{◌<◌, ◌≤◌, length, None, ap, ◌∙◌, arith}
use Rattle.claim.specs.Section.{no_unit, unit_at}
use Rattle.section_tables.specs.View.{units_of}
use Rattle.section_tables.proofs.Lookups.{no_unit_there, entry_past, entry_there}
use Rattle.section_tables.proofs.tables.Units.entry_offset.Goals as goal

pub returns-in_err-get : goal.returns-in_err-get
returns-in_err-get c =
    let past : length (units_of c.args.self.now) ≤ c.args.unit = rw (← c.begun.ensures) c.in_err-get.ensures.lookup.3 in
    c.from_residual.ensures ∙ no_unit_there (units_of c.args.self.now) c.args.unit c.args.entry past

pub returns-in_err-get-2 : goal.returns-in_err-get-2
returns-in_err-get-2 c =
    c.from_residual-in_err-get-2.ensures
    ∙ entry_past (units_of c.args.self.now) c.args.unit c.args.entry c.in_ok-get.field-0.now
    (c.in_ok-get.ensures.lookup.3.1 no_unit ∙ ap (λ us. unit_at us c.args.unit) c.begun.ensures) c.in_err-get-2.ensures.lookup.3

pub returns : goal.returns
returns c =
    let few : length c.in_ok-get.field-0.now.entries ≤ 128 = omega arith in
    let below : c.args.entry < 128 = let l = c.in_ok-get-2.ensures.lookup.3.0 in omega arith in
    c.in_ok-get-2.ensures.lookup.3.1 None
    ∙ entry_there (units_of c.args.self.now) c.args.unit c.args.entry c.in_ok-get.field-0.now
    (c.in_ok-get.ensures.lookup.3.1 no_unit ∙ ap (λ us. unit_at us c.args.unit) c.begun.ensures) below
