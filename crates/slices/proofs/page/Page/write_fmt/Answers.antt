-- `Page::write_fmt`: the text was written, or the page counts as full.
use Rattle.std.proofs.Common.{arith}
use Rattle.std.proofs.lemmas.List.{length-take-le}
use Rattle.slices.proofs.Behind.{written-whole, written-full, no_longer}
use Rattle.slices.proofs.page.Page.write_fmt.Goals as goal

pub returns-in-Err : goal.returns-in-Err
returns-in-Err g c = written-full c.args.self.now (g.D.Display.output c.args.text) _ (length-take-le 32768 c.self-2.inside.room (omega (arith, c.self-2.told)))

pub returns-in_default : goal.returns-in_default
returns-in_default g c =
    let s = c.self.inside in
    written-whole c.args.self.now (g.D.Display.output c.args.text) c.write.new.self
    (no_longer s.room c.args.self.now s.end c.self.told c.self.invariant c.self.view_is) c.in_default.ensures.writes
