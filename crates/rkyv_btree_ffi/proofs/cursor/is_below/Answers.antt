-- Pointers lead from the root, if there is one.
use Rattle.std.proofs.Common.{◌≡◌, ℕ, ◌∙◌, sym, subst, arith}
use Rattle.rkyv_btree_format.specs.Layout.{layout_of}
use Rattle.rkyv_btree_walk.specs.Below.{root_place}
use Rattle.rkyv_btree_ffi.specs.CursorPlaces.{Leads}
use Rattle.rkyv_btree_ffi.proofs.Places.{below_leads, leads_below}
use Rattle.rkyv_btree_ffi.proofs.cursor.is_below.Goals as goal

pub returns-in-None-clause-none : goal.returns-in-None-clause-none
returns-in-None-clause-none g c = λ e h.
    let r = below_leads (layout_of g.K.Portable.kind g.V.Portable.kind 5) c.args.buf.now (root_place c.args.buf.now c.args.pos) c.args.depth c.args.node h in
    absurd (cc (r.1, c.root_node.ensures, c.in-None.is))

pub returns-in-Some-clause-below : goal.returns-in-Some-clause-below
returns-in-Some-clause-below g c = λ e.
    leads_below (layout_of g.K.Portable.kind g.V.Portable.kind 5) c.args.buf.now (root_place c.args.buf.now c.args.pos) c.args.depth 0 c.in-Some.root c.args.node c.args.depth (omega arith) (sym c.root_node.ensures ∙ c.in-Some.is) (c.leads_to.ensures.leads e)

pub returns-in-Some-clause-none : goal.returns-in-Some-clause-none
returns-in-Some-clause-none g c = λ e h.
    let r = below_leads (layout_of g.K.Portable.kind g.V.Portable.kind 5) c.args.buf.now (root_place c.args.buf.now c.args.pos) c.args.depth c.args.node h in
    let same : r.0 ≡ c.in-Some.root = cc (r.1, c.root_node.ensures, c.in-Some.is) in
    c.leads_to.ensures.none e (subst (λ (x : ℕ). Leads (layout_of g.K.Portable.kind g.V.Portable.kind 5) c.args.buf.now c.args.depth x c.args.node) same r.2)
