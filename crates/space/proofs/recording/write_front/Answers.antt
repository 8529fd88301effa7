use Rattle.space.proofs.Parts.{front_wide, front_written, rest_left}
use Rattle.space.proofs.recording.write_front.Goals as goal

pub returns : goal.returns
returns g c =
    let R = g.S.Recorded.recording c.args.space.now in
    record {
      front = front_written R c.args.width c.args.out.now c.requires.0 c.requires.1 (g.met.S.Recorded.faithful c.args.space.now) c.args.p.now c.write.new.out _ c.write.ensures.after;
      rest = rest_left R c.args.width c.args.out.now c.requires.0 c.requires.1 (g.met.S.Recorded.faithful c.args.space.now) c.args.p.now c.write.new.out c.write.ensures.after;
      writable = c.write.ensures.writable (front_wide R c.args.width c.args.out.now c.requires.0 c.requires.1);
    }
