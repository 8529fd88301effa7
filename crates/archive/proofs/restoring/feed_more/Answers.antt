use Rattle.std.proofs.Common.{◌≡◌, [], subst, ◌∙◌, rules}
use Rattle.history.specs.Answers.{told_feed}
use Rattle.space.specs.Recording.{read_point}
use Rattle.archive.specs.Feeding.{FeedRight}
use Rattle.archive.specs.Lent.{lending}
use Rattle.archive.specs.Restoring.{fed_of}
use Rattle.archive.proofs.Returned.{fed_more}
use Rattle.archive.proofs.restoring.feed_more.Goals as goal

pub returns : goal.returns
returns g c space fed same all =
    let a = lending c.args.archive.now c.args.rows.now [] in
    let b = lending c.feed.new.self c.feed.new.rows [] in
    let told : c.unwrap_or_default.result ≡ fed_of (told_feed c.feed.result) = search rules in
    let right = subst (λ s. FeedRight (g.S.Space.meaning s) (read_point (g.S.Recorded.recording s)) c.args.block.now a c.feed.result b) same c.feed.ensures.right in
    (c.feed.ensures.space ∙ same, fed_more _ _ fed c.args.block.now c.args.total c.saturating_add.result c.unwrap_or_default.result a b c.feed.result all right told c.saturating_add.ensures)
