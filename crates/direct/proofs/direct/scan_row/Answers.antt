use Prim.Native.Nat.{ℕ, ◌+◌, ◌*◌, ◌<◌}
use mathlib.Core.Path.{◌≡◌, refl, sym, ap, subst, ◌∙◌}
use mathlib.Core.Bool.{false}
use native.Mathlib.Nat.{mod-lt, mul-le-mul}
use lib.Dec.{lit<}
use lib.Ieee.{Float, add, div, binary32}
use Rattle.best.specs.CellTables.{cells, c_at, w_at}
use Rattle.scan.specs.Scan.{takes}
use Rattle.scan.specs.ScanLaws.{behind-left, offered-left}
use Rattle.direct.specs.Direct.{hard_candidate, tried}
use Rattle.direct.specs.DirectLaws.{row-start, row_next, row-turn}
use Rattle.scan.specs.Lead.{lead_of, ahead_of, ahead-takes, below-behind}
use Rattle.scan.specs.declared.record.Lead.{Lead}
use Rattle.scan.specs.declared.scan.Candidate.{Candidate}
use native.Mathlib.Omega.{arith}
use Rattle.direct.proofs.direct.scan_row.Goals as goal
use Rattle.direct.proofs.direct.scan_row.Goals.{then-hits-lead+then-is_ahead, then-hits-lead+else-is_ahead, else-hits-lead}

pub overflow_mul-hbase : goal.overflow_mul-hbase
overflow_mul-hbase c = record { fits = omega (arith, mod-lt c.args.row {m = c.args.periods.h} (omega (arith, c.requires.period.0.more)), c.requires.period.0.few) }

pub overflow_mul-vbase : goal.overflow_mul-vbase
overflow_mul-vbase c = record { fits = omega (arith, mul-le-mul {n₁ = c.args.va} {m₁ = c.args.periods.v} {n₂ = 3} {m₂ = 500} (omega (arith, mod-lt c.args.row {m = 3} (lit< tt))) c.requires.period.1.few) }

pub loop-col-init : goal.loop-col-init
unfolding tried
loop-col-init c = (row-start _ _ _ _ _ c.requires.period.0 c.requires.period.1 c.requires.row_bound.1 c.requires.row_bound.2, refl, c.lead_of-lead.ensures)

pub overflow_add-hits : goal.overflow_add-hits
overflow_add-hits c = record { fits = omega (arith, c.requires.period.2.bounded (c.args.ha * 3 + c.loop-col.hb) (c.args.va * c.args.periods.v + c.loop-col.vb) (omega arith) (omega arith), c.requires.period.2.few) }

pub offer_origin-kept-requires : goal.offer_origin-kept-requires
offer_origin-kept-requires c = (c.requires.period.2.bounded (c.args.ha * 3 + c.loop-col.hb) (c.args.va * c.args.periods.v + c.loop-col.vb) (omega arith) (omega arith), c.requires.period.2.few, omega (arith, c.requires.period.0.few), omega (arith, c.requires.period.1.few))

pub loop-col-preserved : goal.loop-col-preserved
loop-col-preserved c =
    let t = c.loop-col in
    let inv = t.invariant in
    let a = c.args in
    let s = c.requires.row_bound in
    let h = a.ha * 3 + t.hb in
    let v = a.va * a.periods.v + t.vb in
    let n : ℕ = c_at a.hc.now h + c_at a.vc.now v in
    let w : Float = add binary32 (w_at a.hw.now h) (w_at a.vw.now v) in
    let k : Candidate = hard_candidate n w a.asked.confidence a.row t.col a.listed in
    let l : t.col < 3 * a.periods.v = omega (arith, c.requires.period.2.vcs) in
    let next = row_next _ _ _ _ _ _ _ _ _ inv.0 l c.next_class-hb.ensures c.next_class-vb.ensures in
    elim c.if-hits-lead.branch [
      | then-hits-lead+then-is_ahead z ↦ (next, row-turn a.periods.h a.periods.v a.asked.edges a.asked.confidence a.asked.error_limit a.listed (cells a.hc.now a.hw.now a.vc.now a.vw.now) a.row t.col a.ha a.va t.hb t.vb a.start t.kept _ l s.1 s.2 inv.0.h_class inv.0.v_class inv.1 (z.kept-is ∙ z.offer_origin-kept.ensures), z.lead-is ∙ z.lead_of-lead-then-is_ahead.ensures ∙ ap lead_of (sym z.kept-is))
      | then-hits-lead+else-is_ahead z ↦
          let o : takes t.kept n (div binary32 w a.asked.confidence) ≡ false = ahead-takes t.kept n (div binary32 w a.asked.confidence) ∙ ap (λ (x : Lead). ahead_of x n (div binary32 w a.asked.confidence)) (sym inv.2) ∙ sym z.is_ahead.ensures ∙ z.if-is_ahead.false in
          (next, row-turn a.periods.h a.periods.v a.asked.edges a.asked.confidence a.asked.error_limit a.listed (cells a.hc.now a.hw.now a.vc.now a.vw.now) a.row t.col a.ha a.va t.hb t.vb a.start t.kept _ l s.1 s.2 inv.0.h_class inv.0.v_class inv.1 (z.kept-is ∙ sym (offered-left a.asked.edges a.asked.error_limit t.kept k o)), z.lead-is ∙ inv.2 ∙ ap lead_of (sym z.kept-is))
      | else-hits-lead z ↦
          let o : takes t.kept n (div binary32 w a.asked.confidence) ≡ false = behind-left t.kept n (div binary32 w a.asked.confidence) (below-behind t.kept n (subst (λ (x : Lead). n < x.hits) inv.2 z.if-hits-lead.false)) in
          (next, row-turn a.periods.h a.periods.v a.asked.edges a.asked.confidence a.asked.error_limit a.listed (cells a.hc.now a.hw.now a.vc.now a.vw.now) a.row t.col a.ha a.va t.hb t.vb a.start t.kept _ l s.1 s.2 inv.0.h_class inv.0.v_class inv.1 (z.kept-is ∙ sym (offered-left a.asked.edges a.asked.error_limit t.kept k o)), z.lead-is ∙ inv.2 ∙ ap lead_of (sym z.kept-is))
    ]

pub returns : goal.returns
returns c =
    let e : c.loop-col.col ≡ 3 * c.args.periods.v = omega (arith, c.requires.period.2.vcs) in
    c.loop-col.invariant.1 ∙ ap (tried _ _ _ _ _ _ _ _ _) e
