use Rattle.std.proofs.Common.{◌≡◌, ◌∙◌, ◌+◌, ◌*◌, [], take, length, ap, sym, refl, arith}
use Rattle.std.specs.List.{splice}
use Rattle.std.proofs.lemmas.List.{take_all}
use Rattle.rkyv_btree_writing_laws.specs.Image.{pointers, pointers_reach}
use Rattle.rkyv_btree_writing_laws.proofs.PointerRuns.{both_reach, stray_among}
use Rattle.rkyv_btree_archive.proofs.Pieces.{nothing_put, pointer_put}
use Rattle.rkyv_btree_archive.proofs.node_bytes.place_pointers.Goals as goal

pub returns-then-not-place_pointer-clause-reach : goal.returns-then-not-place_pointer-clause-reach
returns-then-not-place_pointer-clause-reach c =
    sym (stray_among c.args.pos c.loop-i.i _ c.args.children.now _ _ c.loop-i-test.true refl refl (sym c.place_pointer.ensures.reach ∙ c.if-not-place_pointer.true))

pub loop-i-preserved : goal.loop-i-preserved
loop-i-preserved c =
    let good = c.if-not-place_pointer.false in
    record {
      items = pointer_put c.args.node.now c.loop-i.node c.place_pointer.new.node c.args.start c.args.pos c.loop-i.i _ c.args.children.now _ _ c.loop-i-test.true refl refl (omega (arith, c.requires.room)) c.loop-i.invariant.items (c.place_pointer.ensures.items good);
      reach = both_reach c.args.pos c.loop-i.i _ c.args.children.now _ _ c.place_pointer.result c.loop-i-test.true refl refl c.loop-i.invariant.reach c.place_pointer.ensures.reach good;
    }

pub loop-i-init : goal.loop-i-init
loop-i-init c = record {
  items = nothing_put c.args.node.now c.args.start ∙ ap (λ n. splice c.args.node.now c.args.start n []) (omega arith);
  reach = refl;
}

pub returns-clause-reach : goal.returns-clause-reach
returns-clause-reach c = sym c.loop-i.invariant.reach ∙ ap (pointers_reach c.args.pos) (take_all c.loop-i.i c.args.children.now c.loop-i-test.false)

pub returns-clause-items : goal.returns-clause-items
returns-clause-items c good =
    let end : c.args.start + 4 * c.loop-i.i ≡ c.args.start + 4 * length c.args.children.now = omega (arith, c.loop-i-test.false, c.loop-i.auto.i-end) in
    c.loop-i.invariant.items ∙ (ap (λ n. splice c.args.node.now c.args.start n (pointers c.args.pos (take c.loop-i.i c.args.children.now))) end
    ∙ ap (λ qs. splice c.args.node.now c.args.start (c.args.start + 4 * length c.args.children.now) (pointers c.args.pos qs)) (take_all c.loop-i.i c.args.children.now c.loop-i-test.false))
