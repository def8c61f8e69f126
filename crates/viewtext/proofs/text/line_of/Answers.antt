-- `line_of`: the line feeds before the place are counted.
use Rattle.std.proofs.Common.{◌∙◌}
use Rattle.viewtext.proofs.Feeds.{line-count}
use Rattle.viewtext.proofs.text.line_of.Goals as goal

pub returns : goal.returns
returns c = let s = c.args in c.min-2.ensures ∙ line-count s.s.now s.place _ _ c.min.ensures c.count_feeds-feeds.ensures.value
