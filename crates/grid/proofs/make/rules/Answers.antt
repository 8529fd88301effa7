use Rattle.std.proofs.Common.{◌≡◌, ◌≤◌, length, replicate, Some, refl, ap, ◌∙◌, sym, arith, rules}
use Rattle.grid.specs.Making.{grid_fault}
use Rattle.grid.proofs.Making.{made_none, made_more, made_fault, made_all}
use Rattle.grid.proofs.make.rules.Goals as goal

pub returns-in_err-first : goal.returns-in_err-first
returns-in_err-first g c =
    let one : 1 ≤ length c.args.scales.now = search rules in
    let fault : grid_fault g.A.Axis.sound c.args.scales.now ≡ Some c.in_err-first.field-0.0 = made_fault g.A.Axis.sound g.A.Axis.rule g.A.Axis.line c.args.scales.now c.if-scales-gt6.false 0 c.index-scales-0.result one c.index-scales-0.is c.in_err-first.ensures.0 refl ∙ ap Some (sym c.in_err-first.ensures.1) in
    search rules

pub returns-in_err-axes : goal.returns-in_err-axes
returns-in_err-axes g c =
    let fault : grid_fault g.A.Axis.sound c.args.scales.now ≡ Some c.in_err-axes.field-0.0 = made_fault g.A.Axis.sound g.A.Axis.rule g.A.Axis.line c.args.scales.now c.if-scales-gt6.false c.loop-i.i c.index-scales-i.result c.loop-i-test.true c.index-scales-i.is c.in_err-axes.ensures.0 c.loop-i.invariant.faultless ∙ ap Some (sym c.in_err-axes.ensures.1) in
    search rules

pub loop-i-init : goal.loop-i-init
loop-i-init g c =
    let one : 1 ≤ length c.args.scales.now = search rules in
    made_more g.A.Axis.sound g.A.Axis.rule g.A.Axis.line c.args.scales.now c.if-scales-gt6.false (replicate 6 c.in_ok-first.first) 0 c.index-scales-0.result c.in_ok-first.first one c.index-scales-0.is c.in_ok-first.ensures (made_none g.A.Axis.sound g.A.Axis.rule g.A.Axis.line c.args.scales.now c.if-scales-gt6.false c.index-scales-0.result c.in_ok-first.first one c.index-scales-0.is c.in_ok-first.ensures)

pub loop-i-preserved : goal.loop-i-preserved
loop-i-preserved g c =
    made_more g.A.Axis.sound g.A.Axis.rule g.A.Axis.line c.args.scales.now c.if-scales-gt6.false c.loop-i.axes c.loop-i.i c.index-scales-i.result c.in_ok-axes.field-0 c.loop-i-test.true c.index-scales-i.is c.in_ok-axes.ensures c.loop-i.invariant

pub returns : goal.returns
returns g c =
    let one : 1 ≤ length c.args.scales.now = search rules in
    made_all g.A.Axis.sound g.A.Axis.rule g.A.Axis.line c.args.scales.now c.if-scales-gt6.false c.loop-i.axes c.loop-i.i one (omega arith) c.loop-i.invariant
