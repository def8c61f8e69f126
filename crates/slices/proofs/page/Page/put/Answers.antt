-- `Page::put`: what finds room is copied behind what stood there.
use Rattle.slices.proofs.Behind.{copied}
use Rattle.slices.proofs.page.Page.put.Goals as goal

pub returns : goal.returns
returns c =
    let s = c.self.inside in
    copied s.room c.copy_from_slice.new.self c.args.text.now c.args.self.now s.end c.taken_by-n.result _
    c.self.told c.self.invariant c.self.view_is c.taken_by-n.ensures c.copy_from_slice.ensures.after
