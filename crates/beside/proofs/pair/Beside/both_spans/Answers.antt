use Rattle.std.proofs.Common.{◌+◌, arith}
use Rattle.space.specs.Spans.{spans_from}
use Rattle.beside.proofs.Spanning.{alike_before, pair_spans, span_behind}
use Rattle.beside.proofs.pair.Beside.both_spans.Goals as goal

pub returns : goal.returns
returns g c =
    let s = c.args.self.now in
    let M = g.A.Space.meaning s.first in
    let N = g.B.Space.meaning s.second in
    let at' = c.args.at in
    let m = c.objectives.result in
    let first = c.spans.new.out in
    let both = c.spans-2.new.out in
    let kept = c.spans-2.ensures.before in
    record {
      told = λ e.
          pair_spans M N (g.met.A.Space.lawful s.first) (g.met.B.Space.lawful s.second) (g.A.Recorded.recording s.first) (g.B.Recorded.recording s.second)
          c.spans.ensures.four_each c.spans-2.ensures.four_each c.args.p.now (spans_from at' first) (spans_from (at' + m) both) (spans_from at' both)
          (c.spans.ensures.told c.if-not-spans.false) (c.spans-2.ensures.told e)
          m N.objectives c.objectives.ensures (omega arith) (span_behind at' m N.objectives first.most both.most kept.0) (span_behind at' m N.objectives first.least both.least kept.1);
      before = (alike_before at' m _ _ _ kept.0 c.spans.ensures.before.0, alike_before at' m _ _ _ kept.1 c.spans.ensures.before.1);
    }
